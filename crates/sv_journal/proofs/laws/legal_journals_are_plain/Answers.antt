-- What the check leaves to prove of `legal_journals_are_plain`.
use Rattle.sv_journal.proofs.Plain.{plain-keeping, plain-legal, legal-plain}
use Rattle.sv_journal.proofs.laws.legal_journals_are_plain.Goals as goal

pub returns : goal.returns
returns c = record { keeping = plain-keeping; same = λ r h. (plain-legal r h, legal-plain r h) }
