-- Two consistent reports with one text are of equal pairs.
use Rattle.std.proofs.Common.{◌≡◌, ℕ, ◌+◌, ◌^◌, ◌<◌, ◌≤◌, List, ◌∷◌, ◌++◌, length, length-append, reverse, refl, sym, ap, subst, ◌∙◌, arith, decimal, append_assoc}
use Rattle.std.specs.Prelude.{codes}
use Rattle.std.specs.List.{flat_map}
use Rattle.std.proofs.lemmas.List.{reverse-reverse}
use Rattle.std.proofs.lemmas.List.Elements.{recursion_from_All}
use Rattle.sv_world.specs.declared.world.Shape.{Shape}
use Rattle.sv_journal.specs.declared.entry.Entry.{Entry}
use Rattle.sv_journal.specs.History.{accepted, commit_of, committed_of}
use Rattle.sv_journal.specs.Laws.{FullRepliesStay, LegalRelaysNameAccepted}
use Rattle.sv_journal.specs.Text.{entry_lines, journal_text}
use Rattle.sv_client.specs.declared.trace.Trace.{Trace}
use Rattle.sv_scenario.specs.declared.scenario.Scenario.{Scenario}
use Rattle.sv_scenario.specs.Limits.{IsGoodScenario}
use Rattle.sv_script.specs.Laws.{StepsAreDoneInOrder}
use Rattle.sv_client.specs.Proper.{Proper}
use Rattle.law_system.specs.Fits.{FitsOne}
use Rattle.law_system.specs.Records.{EachTrace}
use Rattle.law_asked.specs.Asked.{RequestsAreMessages, AcceptedAreFew}
use Rattle.law_asked.specs.Numbers.{ScenarioFits}
use Rattle.sv_report.specs.Report.{trace_text, world_text, report_text}
use Rattle.sv_check.specs.Parts.{AreEntries}
use Rattle.sv_check.specs.Consistent.{IsConsistent, IsReportOfPair}
use Rattle.sv_check.proofs.Asking.{entries_right}
use Rattle.sv_check.proofs.Journals.{journals_tell, lines_long}
use Rattle.sv_check.proofs.Traces.{IsFine, all_fine, traces_tell}

-- ---- A journal has no more entries than its text has bytes

pub longer : (a b : List ℕ) → length b ≤ length (a ++ b)
longer a b = let sum = length-append a b in omega (arith, sum)

pub text_long : (shape : Shape) (es : List Entry) (traces world : List ℕ) → length es ≤ length ((journal_text shape es ++ traces) ++ world)
text_long shape es traces world =
    let lines = entry_lines shape (accepted (reverse es)) 1 es in
    let one = lines_long shape (accepted (reverse es)) 1 es in
    let two = longer (codes "journal " ++ decimal (length es)) (10 ∷ lines) in
    let three = length-append (journal_text shape es) traces in
    let four = length-append (journal_text shape es ++ traces) world in
    omega (arith, one, two, three, four)

-- ---- The traces of a consistent pair

pub fine_of : (scenario : Scenario) (h : List Entry) (Ls : List Trace) → IsConsistent scenario h Ls → EachTrace (IsFine scenario.world.shape h) scenario.clients Ls
fine_of scenario h Ls c =
    all_fine scenario.world.shape h scenario.clients Ls (recursion_from_All (Proper scenario.world.shape) Ls c.traffic.proper)
    (recursion_from_All (FitsOne scenario.world.shape h) Ls c.traffic.fits.each) c.scripts

module _ (stay : FullRepliesStay) (names : LegalRelaysNameAccepted) (order : StepsAreDoneInOrder) (few : AcceptedAreFew) (messages : RequestsAreMessages)
    (scenario : Scenario) (good : IsGoodScenario scenario) (numbers : ScenarioFits scenario) where
  entries_of : (h : List Entry) (Ls : List Trace) → IsConsistent scenario h Ls → AreEntries scenario (reverse (reverse h))
  entries_of h Ls c =
      subst (AreEntries scenario) (sym (reverse-reverse h)) (entries_right scenario h Ls good numbers c.traffic c.scripts order few messages)

  same_traces : (h : List Entry) (Ls Ms : List Trace) (x y : List ℕ) → IsConsistent scenario h Ls → IsConsistent scenario h Ms →
      flat_map (trace_text (reverse h)) Ls ++ x ≡ flat_map (trace_text (reverse h)) Ms ++ y → Ls ≡ Ms
  same_traces h Ls Ms x y c d same =
      (traces_tell scenario.world.shape h (reverse h) 0 0 scenario.clients Ls Ms x y c.traffic.clients d.traffic.clients (fine_of scenario h Ls c) (fine_of scenario h Ms d) same).0

  same_texts : (h g : List Entry) (Ls Ms : List Trace) (x y : List ℕ) → IsConsistent scenario h Ls → IsConsistent scenario g Ms →
      length (reverse h) < 2 ^ 64 → length (reverse g) < 2 ^ 64 →
      (journal_text scenario.world.shape (reverse h) ++ flat_map (trace_text (reverse h)) Ls) ++ x
      ≡ (journal_text scenario.world.shape (reverse g) ++ flat_map (trace_text (reverse g)) Ms) ++ y → (h ≡ g) × (Ls ≡ Ms)
  same_texts h g Ls Ms x y c d small little same =
      let J = journal_text scenario.world.shape (reverse h) in
      let K = journal_text scenario.world.shape (reverse g) in
      let T = flat_map (trace_text (reverse h)) Ls in
      let U = flat_map (trace_text (reverse g)) Ms in
      let both = journals_tell stay names scenario good.sessions (reverse h) (reverse g) (T ++ x) (U ++ y) (entries_of h Ls c) (entries_of g Ms d) small little
      (sym (append_assoc J T x) ∙ same ∙ append_assoc K U y) in
      let is : h ≡ g = sym (reverse-reverse h) ∙ ap reverse both.0 ∙ reverse-reverse g in
      let back : IsConsistent scenario h Ms = subst (λ (k : List Entry). IsConsistent scenario k Ms) (sym is) d in
      let rest : T ++ x ≡ flat_map (trace_text (reverse h)) Ms ++ y =
      both.1 ∙ ap (λ (k : List Entry). flat_map (trace_text (reverse k)) Ms ++ y) (sym is) in
      (is, same_traces h Ls Ms x y c back rest)

  entries_few : (text : List ℕ) (h : List Entry) (Ls : List Trace) → length text < 2 ^ 64 → IsReportOfPair scenario text h Ls → length (reverse h) < 2 ^ 64
  entries_few text h Ls short p =
      let world = world_text (commit_of (reverse (reverse h))) (committed_of scenario.world.values (reverse (reverse h))) in
      let long = text_long scenario.world.shape (reverse h) (flat_map (trace_text (reverse h)) Ls) world in
      let size : length text ≡ length ((journal_text scenario.world.shape (reverse h) ++ flat_map (trace_text (reverse h)) Ls) ++ world) = ap length p.text_is in
      omega (arith, long, size, short)

  pub pairs_are_told : (text : List ℕ) (h g : List Entry) (Ls Ms : List Trace) → length text < 2 ^ 64 → IsReportOfPair scenario text h Ls → IsReportOfPair scenario text g Ms → (h ≡ g) × (Ls ≡ Ms)
  pairs_are_told text h g Ls Ms short p q =
      same_texts h g Ls Ms (world_text (commit_of (reverse (reverse h))) (committed_of scenario.world.values (reverse (reverse h))))
      (world_text (commit_of (reverse (reverse g))) (committed_of scenario.world.values (reverse (reverse g)))) p.consistent q.consistent
      (entries_few text h Ls short p) (entries_few text g Ms short q) (sym p.text_is ∙ q.text_is)
