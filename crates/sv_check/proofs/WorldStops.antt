-- Where the world's lines stop being right, the next line is the first wrong one. A history is the list of a journal's entries with the latest first.
use Rattle.std.proofs.Common.{◌≡◌, ◌⊎◌, inl, inr, ℕ, ◌+◌, ◌^◌, ◌<◌, ◌≤◌, ℤ, List, [], ◌∷◌, ◌++◌, length, length-append, reverse, take, drop, refl, sym, ap, subst, ◌∙◌, arith, append_assoc, append-nil}
use Rattle.std.specs.List.{AllByRecursion, flat_map}
use Rattle.std.proofs.lemmas.List.{append_cancel_left, reverse-reverse, take-append-drop}
use Rattle.std.proofs.lemmas.List.Elements.{recursion_from_All}
use Rattle.sv_wire.specs.Ranges.{ValueFits}
use Rattle.sv_journal.specs.declared.entry.Entry.{Entry}
use Rattle.sv_journal.specs.History.{commit_of, committed_of}
use Rattle.sv_journal.specs.Laws.{FullRepliesStay, LegalRelaysNameAccepted}
use Rattle.sv_journal.specs.Text.{journal_text}
use Rattle.sv_journal.proofs.Results.{committed_count}
use Rattle.sv_journal.proofs.Commits.{commit_within}
use Rattle.sv_client.specs.declared.trace.Trace.{Trace}
use Rattle.sv_scenario.specs.declared.scenario.Plan.{Plan}
use Rattle.sv_scenario.specs.declared.scenario.Scenario.{Scenario}
use Rattle.sv_scenario.specs.Limits.{IsGoodScenario}
use Rattle.sv_scenario.specs.Sessions.{sessions_in, session_count}
use Rattle.sv_script.specs.Laws.{StepsAreDoneInOrder}
use Rattle.law_system.specs.Records.{rules_of}
use Rattle.law_asked.specs.Asked.{RequestsAreMessages, AcceptedAreFew}
use Rattle.law_asked.specs.Numbers.{ScenarioFits}
use Rattle.law_asked.proofs.Facts.{RequestsFit, committed-fits}
use Rattle.sv_report.specs.Report.{trace_text, value_lines, world_text}
use Rattle.sv_lines.specs.Lines.{line_width, after_lines, Differs}
use Rattle.sv_check.specs.Parts.{AreEntries, IsWholeJournal, IsWholeTrace, AreFirstTraces, IsReportPart}
use Rattle.sv_check.specs.Consistent.{IsConsistent, IsReportOfPair, IsReport}
use Rattle.sv_check.specs.Stopping.{IsStop}
use Rattle.sv_check.proofs.Reports.{traffic_text, front_apart, all_values, journal_whole, traces_whole, report_full}
use Rattle.sv_check.proofs.WorldLines.{world_line, world_front, IsWorldFront, front_world, front_of, next_line, inner_of}
use Rattle.sv_check.proofs.WorldParts.{IsWorldOf, so_far, world_part, part_goes}
use Rattle.sv_check.proofs.Splits.{IsSplit, split_last, lines_append, is_of}
use Rattle.sv_check.proofs.JournalLines.{told_fits}

-- ---- The numbers of the world

requests_fit : (scenario : Scenario) (h : List Entry) → AreEntries scenario h → RequestsFit h
requests_fit scenario [] a = tt
requests_fit scenario (e ∷ h) a = (told_fits scenario.world.shape e.request a.0.told, requests_fit scenario h a.1)

-- ---- The stops

module _ (stay : FullRepliesStay) (names : LegalRelaysNameAccepted) (order : StepsAreDoneInOrder) (few : AcceptedAreFew) (messages : RequestsAreMessages)
    (scenario : Scenario) (good : IsGoodScenario scenario) (numbers : ScenarioFits scenario) (h : List Entry) (Ls : List Trace) (c : IsConsistent scenario h Ls) where
  abbrev X : List ℕ
  X = traffic_text scenario.world.shape h Ls

  abbrev values : List (List ℤ)
  values = committed_of scenario.world.values h

  abbrev W : List ℕ
  W = world_text (commit_of h) values

  journal : IsWholeJournal scenario h
  journal = journal_whole order few messages scenario good numbers h Ls c

  traces : AreFirstTraces scenario.world.shape h scenario.clients Ls
  traces = traces_whole order few messages scenario good numbers h Ls c

  small : commit_of h < 2 ^ 64
  small =
      let most = commit_within h in
      let accepts = few (rules_of scenario) h (session_count scenario) 1024 refl c.traffic.legal c.traffic.sessions in
      let sessions = good.sessions in
      omega (arith, most, accepts, sessions)

  size : length values ≡ scenario.world.shape.objects
  size = committed_count scenario.world.values h ∙ good.world.objects

  few_values : length values < 2 ^ 32
  few_values = let objects = good.world.shape.few_objects in let is = size in omega (arith, objects, is)

  fits : AllByRecursion ValueFits values
  fits = committed-fits scenario.world.values h (requests_fit scenario h journal.entries) (recursion_from_All ValueFits scenario.world.values numbers.values)

  full : world_front (commit_of h) values scenario.world.shape.objects ≡ W
  full = ap (λ (vs : List (List ℤ)). world_line (commit_of h) ++ 10 ∷ value_lines 0 vs) (all_values scenario h good)

  front : (k : ℕ) → W ≡ world_front (commit_of h) values k ++ value_lines k (drop k values)
  front k = front_world (commit_of h) values small few_values fits k

  goes : (z : List ℕ) → length (X ++ z) < 2 ^ 64 → IsReportPart scenario (X ++ z) → (z ≡ []) ⊎ IsWorldOf scenario h z
  goes z short p = part_goes stay names scenario good.sessions h journal Ls traces z short p

  -- A report has the whole world.
  report_goes : (z : List ℕ) → length (X ++ z) < 2 ^ 64 → IsReport scenario (X ++ z) → z ≡ W
  report_goes z short r =
      let f = report_full order few messages scenario good numbers (X ++ z) r in
      world_part stay names scenario good.sessions h journal Ls traces z short f.part ∙ ap (λ (n : ℕ). world_front (commit_of h) values n) f.all ∙ full

  traces_part : (plans : List Plan) → scenario.clients ≡ plans → 1 ≤ length plans → IsReportPart scenario X
  traces_part [] e some = absurd (omega (arith, some))
  traces_part (plan ∷ plans) e some =
      let t : AreFirstTraces scenario.world.shape h (plan ∷ plans) Ls = subst (λ (ps : List Plan). AreFirstTraces scenario.world.shape h ps Ls) e traces in
      let m = last_of plan plans Ls t in
      let J = journal_text scenario.world.shape (reverse h) in
      inr (inr (inl (record {
        h = h;
        journal = journal;
        before = m.first;
        plan = m.plan;
        after = [];
        plans = e ∙ m.plans;
        Ls = m.Ms;
        done = record { clients = m.clients; whole = m.each };
        L = m.L;
        next = is_of (0 + length m.first) (0 + sessions_in m.first) (length m.first) (sessions_in m.first) m.plan m.L (omega arith) (omega arith) m.of;
        so_far = so_far scenario h m.plan m.L m.whole;
        text_is = ap (λ (Ns : List Trace). J ++ flat_map (trace_text (reverse h)) Ns) m.traces ∙ ap (λ (l : List ℕ). J ++ l) (lines_append (reverse h) m.Ms m.L)
            ∙ sym (append_assoc J (flat_map (trace_text (reverse h)) m.Ms) (trace_text (reverse h) m.L));
      })))
    where
      last_of : (plan : Plan) (plans : List Plan) (Ms : List Trace) → AreFirstTraces scenario.world.shape h (plan ∷ plans) Ms → IsSplit (IsWholeTrace scenario.world.shape h) 0 0 (plan ∷ plans) Ms
      last_of plan plans [] t = absurd t.clients
      last_of plan plans (M ∷ Ms) t = split_last (IsWholeTrace scenario.world.shape h) 0 0 plan plans M Ms t.clients t.whole

  world_is_part : (z : List ℕ) (count : ℕ) → count ≤ scenario.world.shape.objects → z ≡ world_front (commit_of h) values count → IsReportPart scenario (X ++ z)
  world_is_part z count within e = inr (inr (inr (record {
    h = h;
    journal = journal;
    Ls = Ls;
    traces = traces;
    count = count;
    within = within;
    text_is = ap (λ (l : List ℕ). X ++ l) e ∙ sym (front_apart X (commit_of h) (value_lines 0 (take count values)));
  })))

  -- What was taken is a part.
  taken_part : (same : List ℕ) → (same ≡ []) ⊎ IsWorldFront (commit_of h) values same → IsReportPart scenario (X ++ same)
  taken_part same (inl none) = subst (IsReportPart scenario) (sym (ap (λ (l : List ℕ). X ++ l) none ∙ append-nil X)) (traces_part scenario.clients refl good.some_clients)
  taken_part same (inr w) = world_is_part same w.count (let within = w.within in let is = size in omega (arith, within, is)) w.text_is

  -- A line behind what was taken that makes it a longer part is one of the world's.
  piece_goes : (y same line next : List ℕ) → length (X ++ y) < 2 ^ 64 → y ≡ same ++ line ++ 10 ∷ next → IsReportPart scenario ((X ++ same) ++ line ++ 10 ∷ []) →
      (more : List ℕ) × (W ≡ same ++ ((line ++ 10 ∷ []) ++ more))
  piece_goes y same line next short e p =
      let piece = line ++ 10 ∷ [] in
      let z = same ++ piece in
      let apart : (X ++ same) ++ line ++ 10 ∷ [] ≡ X ++ z = append_assoc (X ++ same) line (10 ∷ []) ∙ append_assoc X same piece in
      let whole : y ≡ z ++ next =
      e ∙ append_assoc same line (10 ∷ next) ∙ ap (λ (l : List ℕ). same ++ l) (sym (append_assoc line (10 ∷ []) next)) ∙ sym (append_assoc same piece next) in
      let sum : length (X ++ y) ≡ length (X ++ z) + length next = ap length (ap (λ (l : List ℕ). X ++ l) whole ∙ sym (append_assoc X z next)) ∙ length-append (X ++ z) next in
      elim (goes z (omega (arith, sum, short)) (subst (IsReportPart scenario) apart p)) [
        | inl none ↦ (let a = ap length none in let b = length-append same piece in let d = length-append line (10 ∷ []) in absurd (omega (arith, a, b, d)))
        | inr w ↦ (
          value_lines w.count (drop w.count values),
          front w.count ∙ ap (λ (l : List ℕ). l ++ value_lines w.count (drop w.count values)) (sym w.text_is) ∙ append_assoc same piece (value_lines w.count (drop w.count values)),
        )
      ]

  -- Where a line differs from the world's next one, it is wrong.
  pub differs_stop : (y : List ℕ) (left : ℕ) → length (X ++ y) < 2 ^ 64 → Differs y W left → IsStop scenario (X ++ y) left
  differs_stop y left short d =
      let D = after_lines d.n W in
      record {
        before = X ++ d.same;
        rest = d.after;
        split = ap (λ (l : List ℕ). X ++ l) d.text_is ∙ sym (append_assoc X d.same d.after);
        left_is = d.left_is;
        part = taken_part d.same (front_of (commit_of h) values small few_values fits d.n d.same d.lines_are d.more);
        wrong = record {
          line = λ line next all e p.
              let g = piece_goes y d.same line next short (d.text_is ∙ ap (λ (l : List ℕ). d.same ++ l) e ∙ sym (append_assoc d.same line (10 ∷ next))) p in
              let is : D ≡ (line ++ 10 ∷ []) ++ g.0 = append_cancel_left d.same D ((line ++ 10 ∷ []) ++ g.0) (sym d.lines_are ∙ g.1) in
              d.differ next (e ∙ sym (append_assoc line (10 ∷ []) next) ∙ ap (λ (l : List ℕ). l ++ next) (sym (next_line line D g.0 (inner_of line all) is)));
          unfinished = λ e r.
              let text : y ≡ d.same = d.text_is ∙ ap (λ (l : List ℕ). d.same ++ l) e ∙ append-nil d.same in
              let world = report_goes d.same (subst (λ (l : List ℕ). length (X ++ l) < 2 ^ 64) text short) r in
              let same = ap length (world ∙ d.lines_are) in
              let sum = length-append d.same D in
              let some = d.more in
              absurd (omega (arith, same, sum, some));
        };
        none = λ r.
            let world = report_goes y short r in
            let is : d.after ≡ D = append_cancel_left d.same d.after D (sym d.text_is ∙ world ∙ d.lines_are) in
            d.differ (drop (line_width D) D) (is ∙ sym (take-append-drop (line_width D) D));
      }

  -- Behind the whole world each line is wrong.
  pub more_stop : (y rest : List ℕ) → length (X ++ y) < 2 ^ 64 → y ≡ W ++ rest → 0 < length rest → IsStop scenario (X ++ y) (length rest)
  more_stop y rest short e some = record {
    before = X ++ W;
    rest = rest;
    split = ap (λ (l : List ℕ). X ++ l) e ∙ sym (append_assoc X W rest);
    left_is = refl;
    part = world_is_part W scenario.world.shape.objects (omega arith) (sym full);
    wrong = record {
      line = λ line next all d p.
          let g = piece_goes y W line next short (e ∙ ap (λ (l : List ℕ). W ++ l) d ∙ sym (append_assoc W line (10 ∷ next))) p in
          let same = ap length g.1 in
          let sum = length-append W ((line ++ 10 ∷ []) ++ g.0) in
          let both = length-append (line ++ 10 ∷ []) g.0 in
          let one = length-append line (10 ∷ []) in
          absurd (omega (arith, same, sum, both, one));
      unfinished = λ none r. (let no = ap length none in absurd (omega (arith, no, some)));
    };
    none = λ r.
        let same = ap length (sym (report_goes y short r) ∙ e) in
        let sum = length-append W rest in
        absurd (omega (arith, same, sum, some));
  }

  -- Where the world's lines are all that is left, the text is the report.
  pub whole_report : (y : List ℕ) → y ≡ W → IsReportOfPair scenario (X ++ y) h Ls
  whole_report y e = record {
    consistent = c;
    text_is = ap (λ (l : List ℕ). X ++ l) e ∙ ap (λ (g : List Entry). X ++ world_text (commit_of g) (committed_of scenario.world.values g)) (sym (reverse-reverse h));
  }
