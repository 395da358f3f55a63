-- Legal journals make lawful deliveries.
use Rattle.std.proofs.lemmas.List.Elements.{All-from_recursion}
use Rattle.sv_world.specs.Faults.{IsGoodAction}
use Rattle.sv_journal.specs.History.{Authored, accepted}
use Rattle.sv_journal.specs.Serving.{plain}
use Rattle.sv_journal.proofs.Plain.{plain-keeping, plain-legal}
use Rattle.law_system.proofs.Histories.{same}
use Rattle.law_system.proofs.Induction.{accepted-good}
use Rattle.law_system.proofs.Lawful.{legal-lawful}
use Rattle.law_system.proofs.journals.legal_journals_make_lawful_deliveries.Goals as goal

pub returns-clause-lawful : goal.returns-clause-lawful
returns-clause-lawful c r h legal serial = legal-lawful plain plain-keeping r h h same (plain-legal r h legal) serial

pub returns-clause-good : goal.returns-clause-good
returns-clause-good c r h legal =
    All-from_recursion (λ (a : Authored). IsGoodAction r.world.shape a.action) (accepted h) (accepted-good plain plain-keeping r h (plain-legal r h legal))
