-- A report is a world part that has the values of all objects. A history is the list of a journal's entries with the latest first.
use Rattle.std.proofs.Common.{◌≡◌, ℕ, ℤ, List, [], ◌∷◌, ◌++◌, reverse, take, refl, sym, ap, ◌∙◌, arith, decimal, append_assoc}
use Rattle.std.specs.Prelude.{codes}
use Rattle.std.specs.List.{flat_map}
use Rattle.std.proofs.lemmas.List.{take_all, reverse-reverse}
use Rattle.sv_world.specs.declared.world.Shape.{Shape}
use Rattle.sv_journal.specs.declared.entry.Entry.{Entry}
use Rattle.sv_journal.specs.History.{commit_of, committed_of}
use Rattle.sv_journal.specs.Text.{journal_text}
use Rattle.sv_journal.proofs.Results.{committed_count}
use Rattle.sv_client.specs.declared.trace.Trace.{Trace}
use Rattle.sv_scenario.specs.declared.scenario.Plan.{Plan}
use Rattle.sv_scenario.specs.declared.scenario.Scenario.{Scenario}
use Rattle.sv_scenario.specs.Limits.{IsGoodScenario}
use Rattle.sv_script.specs.Laws.{StepsAreDoneInOrder}
use Rattle.law_system.specs.Records.{EachTrace}
use Rattle.law_asked.specs.Asked.{RequestsAreMessages, AcceptedAreFew}
use Rattle.law_asked.specs.Numbers.{ScenarioFits}
use Rattle.sv_report.specs.Report.{trace_text, value_lines, world_text, report_text}
use Rattle.sv_check.specs.Parts.{IsWholeJournal, IsWholeTrace, AreFirstTraces, IsWorldPart}
use Rattle.sv_check.specs.Consistent.{IsConsistent, IsReportOfPair, IsReport}
use Rattle.sv_check.proofs.Asking.{entries_right}
use Rattle.sv_check.proofs.Traces.{IsFine}
use Rattle.sv_check.proofs.Pairs.{fine_of}

-- ---- The text

-- All of a report before the world's lines.
abbrev pub traffic_text : Shape → List Entry → List Trace → List ℕ
traffic_text shape h Ls = journal_text shape (reverse h) ++ flat_map (trace_text (reverse h)) Ls

pub front_apart : (X : List ℕ) (commit : ℕ) (lines : List ℕ) → X ++ codes "world " ++ decimal commit ++ 10 ∷ lines ≡ X ++ (codes "world " ++ decimal commit ++ 10 ∷ lines)
front_apart X commit lines =
    let one = append_assoc X (codes "world ") (decimal commit) in
    ap (λ (l : List ℕ). l ++ 10 ∷ lines) one ∙ append_assoc X (codes "world " ++ decimal commit) (10 ∷ lines)

pub all_values : (scenario : Scenario) (h : List Entry) → IsGoodScenario scenario → take scenario.world.shape.objects (committed_of scenario.world.values h) ≡ committed_of scenario.world.values h
all_values scenario h good =
    let count = committed_count scenario.world.values h in
    let objects = good.world.objects in
    take_all scenario.world.shape.objects (committed_of scenario.world.values h) (omega (arith, count, objects))

-- The text of a report ends with the values of all objects.
pub report_front : (scenario : Scenario) (h : List Entry) (Ls : List Trace) → IsGoodScenario scenario →
    report_text scenario.world (reverse h) Ls
    ≡ traffic_text scenario.world.shape h Ls ++ codes "world " ++ decimal (commit_of h) ++ 10 ∷ value_lines 0 (take scenario.world.shape.objects (committed_of scenario.world.values h))
report_front scenario h Ls good =
    let X = traffic_text scenario.world.shape h Ls in
    ap (λ (g : List Entry). X ++ world_text (commit_of g) (committed_of scenario.world.values g)) (reverse-reverse h)
    ∙ ap (λ (vs : List (List ℤ)). X ++ world_text (commit_of h) vs) (sym (all_values scenario h good))
    ∙ sym (front_apart X (commit_of h) (value_lines 0 (take scenario.world.shape.objects (committed_of scenario.world.values h))))

-- ---- The pair

whole_traces : (shape : Shape) (h : List Entry) (plans : List Plan) (Ls : List Trace) → EachTrace (IsFine shape h) plans Ls → EachTrace (IsWholeTrace shape h) plans Ls
whole_traces shape h [] [] f = tt
whole_traces shape h [] (L ∷ Ls) f = absurd f
whole_traces shape h (plan ∷ plans) [] f = absurd f
whole_traces shape h (plan ∷ plans) (L ∷ Ls) f =
    (record { proper = f.0.proper; follows = f.0.follows; fits = f.0.sessions }, whole_traces shape h plans Ls f.1)

-- A world part that has the values of all objects.
pub record IsFullPart (scenario : Scenario) (text : List ℕ) : Type 0 where
  pub part : IsWorldPart scenario text
  pub all : part.count ≡ scenario.world.shape.objects

module _ (order : StepsAreDoneInOrder) (few : AcceptedAreFew) (messages : RequestsAreMessages) (scenario : Scenario) (good : IsGoodScenario scenario) (numbers : ScenarioFits scenario) where
  -- The journal of a consistent pair is whole.
  pub journal_whole : (h : List Entry) (Ls : List Trace) → IsConsistent scenario h Ls → IsWholeJournal scenario h
  journal_whole h Ls c = record { entries = entries_right scenario h Ls good numbers c.traffic c.scripts order few messages; ended = c.traffic.ended }

  -- Its traces are those of all clients, whole.
  pub traces_whole : (h : List Entry) (Ls : List Trace) → IsConsistent scenario h Ls → AreFirstTraces scenario.world.shape h scenario.clients Ls
  traces_whole h Ls c = record { clients = c.traffic.clients; whole = whole_traces scenario.world.shape h scenario.clients Ls (fine_of scenario h Ls c) }

  pub pair_full : (text : List ℕ) (h : List Entry) (Ls : List Trace) → IsReportOfPair scenario text h Ls → IsFullPart scenario text
  pair_full text h Ls p = record {
    part = record {
      h = h;
      journal = journal_whole h Ls p.consistent;
      Ls = Ls;
      traces = traces_whole h Ls p.consistent;
      count = scenario.world.shape.objects;
      within = omega arith;
      text_is = p.text_is ∙ report_front scenario h Ls good;
    };
    all = refl;
  }

  -- A report is such a part.
  pub report_full : (text : List ℕ) → IsReport scenario text → IsFullPart scenario text
  report_full text r = pair_full text r.0 r.1.0 r.1.1
