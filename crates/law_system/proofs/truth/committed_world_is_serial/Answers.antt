-- The committed world is serial.
use Rattle.sv_journal.specs.Serving.{plain}
use Rattle.sv_journal.proofs.Plain.{plain-keeping, plain-legal}
use Rattle.law_system.proofs.Histories.{same}
use Rattle.law_system.proofs.Induction.{committed-serial}
use Rattle.law_system.proofs.Trusted.{noted-serial}
use Rattle.law_system.proofs.truth.committed_world_is_serial.Goals as goal

pub returns : goal.returns
returns c = record {
  world = λ r h Ls count legal fits. committed-serial plain plain-keeping r h count (plain-legal r h legal) (noted-serial r h Ls count legal fits) h same;
}
