-- What the check leaves to prove of `accepted_actions_are_rightful`.
use Rattle.sv_journal.proofs.Rightful.{legal_actions_are_rightful, served_actions_are_rightful}
use Rattle.sv_journal.proofs.laws.accepted_actions_are_rightful.Goals as goal

pub returns : goal.returns
returns c = record { legal = legal_actions_are_rightful; served = served_actions_are_rightful }
