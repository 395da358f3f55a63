-- A scenario can be run over the server that answers by the table.
use Rattle.law_system.proofs.NextReply.{scenario-no_fault}
use Rattle.sv_replay.proofs.Messages.{plain_playable}
use Rattle.sv_replay.proofs.laws.scenarios_are_playable.Goals as goal

pub returns : goal.returns
returns c = plain_playable c.requests_are_messages.ensures c.accepted_are_few.ensures c.replies_are_messages.ensures scenario-no_fault
