-- Honest clients report serial results.
use Rattle.std.proofs.Common.{List, [], ◌∷◌, ◌++◌}
use Rattle.std.proofs.lemmas.List.Elements.{All-from_recursion}
use Rattle.sv_journal.specs.declared.entry.Entry.{Entry}
use Rattle.sv_journal.specs.History.{actions_of}
use Rattle.law_system.specs.Journals.{IsSerialResult}
use Rattle.law_system.proofs.Histories.{IsEarlier, same, after}
use Rattle.law_system.proofs.Induction.{done-serial}
use Rattle.law_system.proofs.served.honest_reports_are_serial.Goals as goal

earlier-later : (later h : List Entry) → IsEarlier h (later ++ h)
earlier-later [] h = same
earlier-later (d ∷ later) h = after d (earlier-later later h)

pub returns : goal.returns
returns c = λ k r later e h L results keeps count legal fits serial has is.
    All-from_recursion (IsSerialResult r.world.values (actions_of (later ++ e ∷ h))) results
    (done-serial k keeps r (later ++ e ∷ h) count legal e h results is (earlier-later later (e ∷ h)) serial L fits has)
