use Rattle.sv_journal.proofs.Spent.{accepted-few}
-- A legal journal of few sessions accepts few actions.
use Rattle.law_asked.proofs.laws.accepted_are_few.Goals as goal

pub returns : goal.returns
returns c = accepted-few
