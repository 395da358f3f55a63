-- What the check leaves to prove of `served_actions_are_good`.
use Rattle.sv_journal.proofs.Checked.{served_actions_are_good}
use Rattle.sv_journal.proofs.laws.served_actions_are_good.Goals as goal

pub returns : goal.returns
returns c = served_actions_are_good
