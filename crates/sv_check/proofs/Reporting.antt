-- From what was played to the report of it.
use Rattle.std.proofs.Common.{◌≡◌, ℤ, ℕ, ◌^◌, ◌<◌, List, [], ◌∷◌, ◌++◌, length, reverse, Result, Ok, Err, refl, sym, ap, subst, ◌∙◌, arith, append_assoc, append-nil}
use Rattle.std.specs.Prelude.{IsErrAnd}
use Rattle.std.specs.List.{flat_map}
use Rattle.std.proofs.lemmas.List.{reverse-reverse}
use Rattle.sv_journal.specs.declared.entry.Entry.{Entry}
use Rattle.sv_journal.specs.Answer.{Rules, Legal}
use Rattle.sv_journal.specs.History.{commit_of, committed_of}
use Rattle.sv_journal.specs.Laws.{FullRepliesStay, LegalRelaysNameAccepted}
use Rattle.sv_journal.specs.Text.{journal_text}
use Rattle.sv_sequencer.specs.Step.{history}
use Rattle.sv_client.specs.declared.trace.Trace.{Trace}
use Rattle.sv_scenario.specs.Limits.{IsGoodScenario}
use Rattle.sv_scenario.specs.Sessions.{session_count}
use Rattle.sv_script.specs.Laws.{StepsAreDoneInOrder, EndsDoAllSteps}
use Rattle.law_system.specs.Records.{IsRecordOf, ScriptsAreFollowed, ends_in}
use Rattle.sv_scenario.specs.declared.scenario.Scenario.{Scenario}
use Rattle.law_system.specs.declared.played.Played.{Played}
use Rattle.law_asked.specs.Asked.{RequestsAreMessages, AcceptedAreFew}
use Rattle.law_asked.specs.Numbers.{ScenarioFits}
use Rattle.sv_report.specs.Report.{trace_text, world_text}
use Rattle.sv_lines.specs.declared.stop.LineStop.{LineStop}
use Rattle.sv_lines.specs.declared.stop.LineStop.TheVariants as stop
use Rattle.sv_lines.specs.Lines.{Differs, StopsAt}
use Rattle.sv_check.specs.Consistent.{IsReportOfPair, IsReportOf}
use Rattle.sv_check.specs.Serving.{IsServed, AreEnded, entries_of}
use Rattle.sv_check.specs.Parts.{AreFirstTraces}
use Rattle.sv_check.specs.declared.journal.Served.{Served}
use Rattle.sv_check.proofs.Serving.{some_ended}
use Rattle.sv_check.proofs.Gathering.{is_record, followed}
use Rattle.sv_check.specs.Stopping.{IsStop, IfWrong}
use Rattle.sv_check.specs.Yes.{IsRightPlayed, IsOfServed, before_world}
use Rattle.sv_check.proofs.Reports.{traffic_text}
use Rattle.sv_check.proofs.WorldStops.{differs_stop, more_stop, whole_report}

-- What was played is consistent: its journal and traces are those that were read.
pub right : StepsAreDoneInOrder → EndsDoAllSteps → (scenario : Scenario) (served : Served) (Ls : List Trace) (played : Played) → IsGoodScenario scenario → IsServed scenario served →
    AreEnded scenario (history served.sequencer) → Legal served.sequencer.rules (history served.sequencer) →
    AreFirstTraces scenario.world.shape (reverse (entries_of served)) scenario.clients Ls →
    played.shape ≡ scenario.world.shape → played.journal.entries ≡ served.sequencer.journal.entries → played.traces ≡ Ls →
    played.commit ≡ commit_of (history served.sequencer) → played.committed ≡ committed_of served.sequencer.rules.world.values (history served.sequencer) →
    IsRightPlayed scenario played
right begun whole scenario served Ls played good g ended legal t shape entries traces commit committed =
    let h : reverse played.journal.entries ≡ history served.sequencer = ap reverse entries in
    let one = λ (s : ℕ) (l : s < session_count scenario).
    let most = g.once s in
    let some = some_ended (history served.sequencer) s (ended s l) in
    (let same : ends_in (history served.sequencer) s ≡ 1 = omega (arith, most, some) in same) in
    let record_of : IsRecordOf scenario (history served.sequencer) Ls =
    is_record begun whole scenario (history served.sequencer) Ls good (subst (λ (r : Rules). Legal r (history served.sequencer)) g.rules legal) g.sessions one t in
    let traffic : IsRecordOf scenario (reverse played.journal.entries) played.traces =
    subst (λ (x : List Entry). IsRecordOf scenario x played.traces) (sym h) (subst (IsRecordOf scenario (history served.sequencer)) (sym traces) record_of) in
    record {
      played_is = record {
        traffic = traffic;
        shape = shape;
        commit = commit ∙ ap commit_of (sym h);
        committed = committed ∙ ap (λ (r : Rules). committed_of r.world.values (history served.sequencer)) g.rules ∙ ap (committed_of scenario.world.values) (sym h);
      };
      consistent = record {
        traffic = traffic;
        scripts = subst (ScriptsAreFollowed scenario.world.shape scenario.clients) (sym traces) (followed scenario.world.shape (history served.sequencer) scenario.clients Ls t.whole);
      };
    }

-- ---- What was taken before the world's lines

pub before_is : (scenario : Scenario) (served : Served) (Ls : List Trace) (played : Played) (text clients world : List ℕ) → IsOfServed served Ls played →
    text ≡ journal_text scenario.world.shape (entries_of served) ++ clients → clients ≡ flat_map (trace_text (entries_of served)) Ls ++ world → text ≡ before_world scenario played ++ world
before_is scenario served Ls played text clients world o e f =
    let J = journal_text scenario.world.shape (entries_of served) in
    e ∙ ap (λ (l : List ℕ). J ++ l) f ∙ sym (append_assoc J (flat_map (trace_text (entries_of served)) Ls) world)
    ∙ ap (λ (es : List Entry). (journal_text scenario.world.shape es ++ flat_map (trace_text es) Ls) ++ world) (sym o.entries)
    ∙ ap (λ (Ms : List Trace). (journal_text scenario.world.shape played.journal.entries ++ flat_map (trace_text played.journal.entries) Ms) ++ world) (sym o.traces)

-- What is said of an error is said of the answer to which a `?` makes it.
pub wrong_by : {A : Type 0} (r : Result A LineStop) (e : LineStop) → IsErrAnd r (λ (x : LineStop). x ≡ e) → (P : ℕ → Type 0) → IfWrong {A = A} (Err e) P → IfWrong r P
wrong_by {A} (Ok a) e i P w = absurd i
wrong_by {A} (Err x) e i P w = subst (λ (y : LineStop). IfWrong {A = A} (Err y) P) (sym i) w

-- What is said of a text is said of the same text.
pub wrong_of : (A B : Type 0) (scenario : Scenario) (text other : List ℕ) (e : LineStop) → text ≡ other → IfWrong {A = A} (Err e) (IsStop scenario other) → IfWrong {A = B} (Err e) (IsStop scenario text)
wrong_of A B scenario text other (stop.Wrong left) same w = subst (λ (l : List ℕ). IsStop scenario l left) (sym same) w
wrong_of A B scenario text other stop.Memory same w = tt

-- ---- The world's lines

module _ (stay : FullRepliesStay) (names : LegalRelaysNameAccepted) (order : StepsAreDoneInOrder) (few : AcceptedAreFew) (messages : RequestsAreMessages)
    (scenario : Scenario) (played : Played) (text last lines : List ℕ) (good : IsGoodScenario scenario) (numbers : ScenarioFits scenario) (r : IsRightPlayed scenario played)
    (short : length text < 2 ^ 32) (text_is : text ≡ before_world scenario played ++ last) (lines_are : lines ≡ world_text played.commit played.committed) where
  abbrev h : List Entry
  h = reverse played.journal.entries

  abbrev X : List ℕ
  X = traffic_text scenario.world.shape h played.traces

  whole : text ≡ X ++ last
  whole = text_is ∙ ap (λ (es : List Entry). (journal_text scenario.world.shape es ++ flat_map (trace_text es) played.traces) ++ last) (sym (reverse-reverse played.journal.entries))

  fits : length (X ++ last) < 2 ^ 64
  fits = let same = ap length whole in omega (arith, same, short)

  world : lines ≡ world_text (commit_of h) (committed_of scenario.world.values h)
  world = lines_are ∙ ap (λ (n : ℕ). world_text n played.committed) r.played_is.commit ∙ ap (λ (vs : List (List ℤ)). world_text (commit_of h) vs) r.played_is.committed

  differs_at : (left : ℕ) → Differs last lines left → IsStop scenario text left
  differs_at left d = subst (λ (l : List ℕ). IsStop scenario l left) (sym whole)
      (differs_stop stay names order few messages scenario good numbers h played.traces r.consistent last left fits (subst (λ (ls : List ℕ). Differs last ls left) world d))

  -- A line that differs from the world's next one is the first wrong line.
  pub stops_at : (A : Type 0) (e : LineStop) → StopsAt last lines e → IfWrong {A = A} (Err e) (IsStop scenario text)
  stops_at A (stop.Wrong left) d = differs_at left d
  stops_at A stop.Memory d = absurd d

  -- The line behind the whole world is wrong.
  pub wrong_more : (rest : List ℕ) → last ≡ lines ++ rest → 0 < length rest → IsStop scenario text (length rest)
  wrong_more rest e some = subst (λ (l : List ℕ). IsStop scenario l (length rest)) (sym whole)
      (more_stop stay names order few messages scenario good numbers h played.traces r.consistent last rest fits (e ∙ ap (λ (l : List ℕ). l ++ rest) world) some)

  no_rest : (rest : List ℕ) → length rest ≡ 0 → rest ≡ []
  no_rest [] e = refl
  no_rest (b ∷ rest) e = absurd (omega (arith, e))

  -- Where nothing is left, the text is the report.
  pub report_whole : (rest : List ℕ) → last ≡ lines ++ rest → length rest ≡ 0 → IsReportOf scenario text played
  report_whole rest e none =
      let is : last ≡ lines = e ∙ ap (λ (l : List ℕ). lines ++ l) (no_rest rest none) ∙ append-nil lines in
      record {
        played_is = r.played_is;
        pair = subst (λ (l : List ℕ). IsReportOfPair scenario l h played.traces) (sym whole)
            (whole_report stay names order few messages scenario good numbers h played.traces r.consistent last (is ∙ world));
      }
