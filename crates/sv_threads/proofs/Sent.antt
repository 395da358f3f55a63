-- What tasks are made of, and what they give back, may go to another thread.
use denote.Param.Send.{IsSend, IsSync, sendable}
use Rattle.std.proofs.Crossing.{crosses}
use Rattle.sv_world.specs.contracts.action.Action as action
use Rattle.sv_lists.proofs.list.List.TheSendSync as lists
use Rattle.sv_world.proofs.short.Short.TheSendSync as shorts
use Rattle.sv_world.proofs.body.Body.TheSendSync as bodies
use Rattle.sv_wire.specs.contracts.message.Reply as reply
use Rattle.sv_versions.specs.contracts.store.Versions as versions
use Rattle.sv_versions.specs.contracts.history.Version as version
use Rattle.sv_versions.specs.contracts.history.History as history
use Rattle.sv_pending.specs.contracts.made.Made as made
use Rattle.sv_pending.specs.contracts.pending.Pending as pending
use Rattle.http_server.proofs.log.Log.TheSendSync as logs
use Rattle.sv_client.proofs.kinds.Awaited.TheSendSync as awaited
use Rattle.sv_client.specs.contracts.deed.Deed as deed
use Rattle.sv_client.specs.contracts.lean.LeanClient as lean
use Rattle.sv_client.specs.contracts.past.Past as past
use Rattle.sv_client.specs.contracts.client.Client as client
use Rattle.sv_client.specs.contracts.trace.Event as event
use Rattle.sv_client.specs.contracts.trace.Trace as trace
use Rattle.sv_scenario.specs.contracts.scenario.Step as step

action-field-sends : IsSend (action.the_field).row
action-field-sends = search (shorts.the_send, bodies.the_send, sendable, crosses) depth 30

action-field-syncs : IsSync (action.the_field).row
action-field-syncs = search (shorts.the_sync, bodies.the_sync, sendable, crosses) depth 30

reply-field-sends : IsSend (reply.the_field).row
reply-field-sends = search (lists.the_send, shorts.the_send, action-field-sends, sendable, crosses) depth 30 fits 10000

event-field-sends : IsSend (event.the_field).row
event-field-sends = search (lists.the_send, action-field-sends, reply-field-sends, sendable, crosses) depth 30 fits 10000

version-field-sends : IsSend (version.the_field).row
version-field-sends = search (lists.the_send, shorts.the_send, sendable, crosses) depth 30

history-field-sends : IsSend (history.the_field).row
history-field-sends = search (version-field-sends, lists.the_send, shorts.the_send, sendable, crosses) depth 30

versions-field-sends : IsSend (versions.the_field).row
versions-field-sends = search (history-field-sends, lists.the_send, shorts.the_send, sendable, crosses) depth 40 fits 10000

made-field-sends : IsSend (made.the_field).row
made-field-sends = search (action-field-sends, lists.the_send, shorts.the_send, sendable, crosses) depth 30

pending-field-sends : IsSend (pending.the_field).row
pending-field-sends = search (made-field-sends, lists.the_send, shorts.the_send, sendable, crosses) depth 40 fits 10000

deed-field-sends : IsSend (deed.the_field).row
deed-field-sends = search (sendable, crosses) depth 30 fits 10000

past-field-sends : IsSend (past.the_field).row
past-field-sends = search (logs.the_send, deed-field-sends, sendable, crosses) depth 40 fits 10000

lean-field-sends : IsSend (lean.the_field).row
lean-field-sends = search (lists.the_send, past-field-sends, versions-field-sends, pending-field-sends, awaited.the_send, sendable, crosses) depth 40 fits 10000

pub client-field-sends : IsSend (client.the_field).row
client-field-sends = search (event-field-sends, lean-field-sends, sendable, crosses) depth 40 fits 10000

pub trace-field-sends : IsSend (trace.the_field).row
trace-field-sends = search (lists.the_send, event-field-sends, sendable, crosses) depth 40

pub step-syncs : IsSync step.the_row
step-syncs = search (lists.the_sync, action-field-syncs, sendable, crosses) depth 30
