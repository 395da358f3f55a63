use Rattle.sv_journal.proofs.Spent.{served-few}
-- A journal of few sessions accepts few actions, whatever results are kept.
use Rattle.law_asked.proofs.laws.served_accepted_are_few.Goals as goal

pub returns : goal.returns
returns c = served-few
