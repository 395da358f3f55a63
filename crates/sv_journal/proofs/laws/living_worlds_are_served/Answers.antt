-- What the check leaves to prove of `living_worlds_are_served`.
use Rattle.sv_journal.proofs.Stewards.{living-keeping, nobody-legal, legal-nobody}
use Rattle.sv_journal.proofs.laws.living_worlds_are_served.Goals as goal

pub returns : goal.returns
returns c = record { keeping = living-keeping; nobody = λ r h. (nobody-legal r h, legal-nobody r h) }
