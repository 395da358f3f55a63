-- Journals make lawful deliveries, whatever results are kept, if these are serial.
use Rattle.std.proofs.lemmas.List.Elements.{All-from_recursion}
use Rattle.sv_world.specs.Faults.{IsGoodAction}
use Rattle.sv_journal.specs.History.{Authored, accepted}
use Rattle.law_system.proofs.Histories.{same}
use Rattle.law_system.proofs.Induction.{accepted-good}
use Rattle.law_system.proofs.Lawful.{legal-lawful}
use Rattle.law_system.proofs.served.served_journals_make_lawful_deliveries.Goals as goal

pub returns-clause-lawful : goal.returns-clause-lawful
returns-clause-lawful c k r h keeps legal serial = legal-lawful k keeps r h h same legal serial

pub returns-clause-good : goal.returns-clause-good
returns-clause-good c k r h keeps legal =
    All-from_recursion (λ (a : Authored). IsGoodAction r.world.shape a.action) (accepted h) (accepted-good k keeps r h legal)
