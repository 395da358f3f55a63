-- What the check leaves to prove of `legal_actions_are_good`.
use Rattle.sv_journal.proofs.Checked.{legal_actions_are_good}
use Rattle.sv_journal.proofs.laws.legal_actions_are_good.Goals as goal

pub returns : goal.returns
returns c = legal_actions_are_good
