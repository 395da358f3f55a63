-- What a core is made of, and the core, may go to another thread.
use denote.Param.Send.{IsSend, sendable}
use Rattle.std.proofs.Crossing.{crosses}
use Rattle.sv_lists.proofs.list.List.TheSendSync as lists
use Rattle.sv_world.specs.contracts.action.Action as action
use Rattle.sv_world.proofs.short.Short.TheSendSync as shorts
use Rattle.sv_world.proofs.body.Body.TheSendSync as bodies
use Rattle.sv_queue.specs.contracts.waiting.WaitingAction as queued
use Rattle.sv_queue.specs.contracts.queue.Queue as queue
use Rattle.sv_queue.proofs.sources.Sources.TheSendSync as sources
use Rattle.sv_queue.proofs.writers.Writers.TheSendSync as writers
use Rattle.sv_queue.proofs.slots.Slots.TheSendSync as slots
use Rattle.sv_core.specs.contracts.server_core.Core as cores

action-sends : IsSend action.the_row
action-sends = search (shorts.the_send, bodies.the_send, sendable, crosses) depth 30

pub action-field-sends : IsSend (action.the_field).row
action-field-sends = search (shorts.the_send, bodies.the_send, sendable, crosses) depth 30

queued-sends : IsSend queued.the_row
queued-sends = search (action-field-sends, lists.the_send, shorts.the_send, sendable, crosses) depth 30

queue-sends : IsSend queue.the_row
queue-sends = search (queued-sends, lists.the_send, shorts.the_send, sources.the_send, writers.the_send, slots.the_send, sendable, crosses) depth 40

-- A core may go to another thread.
pub core-sends : IsSend cores.the_row
core-sends = search (queue-sends, sendable, crosses) depth 40 fits 10000

pub core-field-sends : IsSend (cores.the_field).row
core-field-sends = search (queue-sends, sendable, crosses) depth 40 fits 10000
