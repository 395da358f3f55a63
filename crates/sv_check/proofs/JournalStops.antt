-- Where the journal's part of a report is wrong. Entries stand in order here.
use Rattle.std.proofs.Common.{◌≡◌, ℕ, suc, ◌+◌, ◌^◌, ◌<◌, ◌≤◌, inl, inr, Bool, true, false, List, [], ◌∷◌, ◌++◌, length, length-append, reverse, Result, Err, refl, sym, ap, subst, ◌∙◌, arith, decimal, append_assoc, append-nil}
use Rattle.std.specs.Prelude.{codes}
use Rattle.std.specs.List.{flat_map}
use Rattle.std.proofs.lemmas.Bool.{cases_Bool}
use Rattle.std.proofs.lemmas.List.{length-reverse, reverse-reverse}
use Rattle.sv_journal.specs.declared.entry.Entry.{Entry}
use Rattle.sv_journal.specs.History.{accepted, commit_of, committed_of}
use Rattle.sv_journal.specs.Laws.{FullRepliesStay, LegalRelaysNameAccepted}
use Rattle.sv_journal.specs.Text.{entry_lines, journal_text}
use Rattle.sv_scenario.specs.declared.scenario.Scenario.{Scenario}
use Rattle.sv_scenario.specs.Limits.{IsGoodScenario}
use Rattle.sv_script.specs.Laws.{StepsAreDoneInOrder}
use Rattle.law_asked.specs.Asked.{RequestsAreMessages, AcceptedAreFew}
use Rattle.law_asked.specs.Numbers.{ScenarioFits}
use Rattle.sv_report.specs.Report.{trace_text, world_text}
use Rattle.sv_journal.specs.Answer.{Rules, MayBeSession}
use Rattle.sv_journal.specs.Sessions.{is_ended}
use Rattle.sv_sequencer.specs.Step.{history}
use Rattle.sv_check.specs.declared.journal.Served.{Served}
use Rattle.sv_check.specs.Serving.{IsServed, entries_of}
use Rattle.sv_check.proofs.Serving.{whole_ended}
use Rattle.sv_check.specs.Consistent.{IsReport}
use Rattle.sv_check.specs.Parts.{AreEntries, IsWholeJournal, IsJournalPart, IsReportPart}
use Rattle.sv_lines.specs.Lines.{after_lines}
use Rattle.sv_lines.specs.declared.stop.LineStop.{LineStop}
use Rattle.sv_lines.specs.declared.stop.LineStop.TheVariants as stop
use Rattle.sv_check.specs.Stopping.{IsJournalStop, NoWholeJournal, IfWrong}
use Rattle.sv_check.specs.Entering.{lines_of, line_after, header_text, NoHeader, NoEntry, EntriesAreTold, HasServedAll, TextBreaksOff}
use Rattle.sv_check.proofs.Asking.{entries_right}
use Rattle.sv_check.proofs.JournalLines.{broken_none, behind_all}
use Rattle.sv_check.proofs.JournalParts.{first_right, headed_is, headed, headed_more, headed_long, GoesOn, in_whole, in_part, clients_behind, clients_split, world_behind, world_split}
use Rattle.sv_check.proofs.Journals.{lines_long}

never_empty : (line next : List ℕ) → line ++ 10 ∷ next ≡ [] → ⊥
never_empty [] next e = cc
never_empty (b ∷ line) next e = cc

module _ (stay : FullRepliesStay) (names : LegalRelaysNameAccepted) (order : StepsAreDoneInOrder) (few : AcceptedAreFew) (messages : RequestsAreMessages)
    (scenario : Scenario) (good : IsGoodScenario scenario) (numbers : ScenarioFits scenario) where
  pair_journal : (text : List ℕ) (r : IsReport scenario text) → IsWholeJournal scenario r.0
  pair_journal text r = record {
    entries = entries_right scenario r.0 r.1.0 good numbers r.1.1.consistent.traffic r.1.1.consistent.scripts order few messages;
    ended = r.1.1.consistent.traffic.ended;
  }

  -- What comes behind the journal of a report.
  abbrev behind_journal : (text : List ℕ) → IsReport scenario text → List ℕ
  behind_journal text r =
      flat_map (trace_text (reverse r.0)) r.1.0 ++ world_text (commit_of (reverse (reverse r.0))) (committed_of scenario.world.values (reverse (reverse r.0)))

  report_split : (text : List ℕ) (r : IsReport scenario text) → text ≡ journal_text scenario.world.shape (reverse r.0) ++ behind_journal text r
  report_split text r =
      r.1.1.text_is
      ∙ append_assoc (journal_text scenario.world.shape (reverse r.0)) (flat_map (trace_text (reverse r.0)) r.1.0)
      (world_text (commit_of (reverse (reverse r.0))) (committed_of scenario.world.values (reverse (reverse r.0))))

  -- ---- Behind the lines of some first entries

  module _ (count : ℕ) (es : List Entry) (text rest : List ℕ) (small : count < 2 ^ 32) (within : length es ≤ count) (right : AreEntries scenario (reverse es))
      (split : text ≡ headed count (lines_of scenario.world.shape es) ++ rest) (short : length text < 2 ^ 32)
      (none : length es < count → NoEntry scenario es rest) (open_yet : length es ≡ count → IsWholeJournal scenario (reverse es) → ⊥) where
    abbrev X : List ℕ
    X = headed count (lines_of scenario.world.shape es)

    -- Nothing that comes next goes on as a part does.
    goes_wrong : (y next : List ℕ) → rest ≡ y ++ next → GoesOn scenario count es y → ⊥
    goes_wrong y next is (inl p) =
        let b = p.1 in
        let line = line_after scenario.world.shape es b.entry in
        none p.0 b.entry (b.rest ++ next) b.right (is ∙ ap (λ (l : List ℕ). l ++ next) b.text_is ∙ append_assoc line b.rest next)
    goes_wrong y next is (inr p) = open_yet p.0 p.1

    within_text : (y next : List ℕ) → rest ≡ y ++ next → length (X ++ y) < 2 ^ 64
    within_text y next is =
        let one : length text ≡ length (X ++ rest) = ap length split in
        let two = length-append X rest in
        let three : length rest ≡ length (y ++ next) = ap length is in
        let four = length-append y next in
        let five = length-append X y in
        omega (arith, one, two, three, four, five, short)

    no_part : (y next : List ℕ) → rest ≡ y ++ next → (y ≡ [] → ⊥) → IsReportPart scenario (X ++ y) → ⊥
    no_part y next is some p =
        elim (in_part stay names scenario good.sessions count es y small within right (within_text y next is) p) [
          | inl e ↦ some e
          | inr g ↦ goes_wrong y next is g
        ]

    no_report : (y next : List ℕ) → rest ≡ y ++ next → IsReport scenario (X ++ y) → ⊥
    no_report y next is r =
        goes_wrong y next is
        (in_whole stay names scenario good.sessions count es y small within right (within_text y next is) r.0 (behind_journal (X ++ y) r) (pair_journal (X ++ y) r) (report_split (X ++ y) r))

    no_line : (line next : List ℕ) → rest ≡ line ++ 10 ∷ next → IsReportPart scenario (X ++ line ++ 10 ∷ []) → ⊥
    no_line line next is p =
        no_part (line ++ 10 ∷ []) next (is ∙ sym (append_assoc line (10 ∷ []) next)) (never_empty line []) (subst (IsReportPart scenario) (append_assoc X line (10 ∷ [])) p)

    no_end : rest ≡ [] → IsReport scenario X → ⊥
    no_end is r = no_report [] [] is (subst (IsReport scenario) (sym (append-nil X)) r)

    no_text : IsReport scenario text → ⊥
    no_text r = no_report rest [] (sym (append-nil rest)) (subst (IsReport scenario) split r)

    no_whole : NoWholeJournal scenario text
    no_whole h z whole is =
        let all = sym (append-nil rest) in
        goes_wrong rest [] all (in_whole stay names scenario good.sessions count es rest small within right (within_text rest [] all) h z whole (sym split ∙ is))

    part_is : IsJournalPart scenario X
    part_is = record {
      count = count;
      h = reverse es;
      small = small;
      within = (let size = length-reverse es in omega (arith, size, within));
      entries = right;
      text_is = ap (λ (gs : List Entry). headed count (entry_lines scenario.world.shape (accepted (reverse es)) 1 gs)) (sym (reverse-reverse es));
    }

    -- The line that comes next is wrong.
    pub stop_behind : IsJournalStop scenario text (length rest)
    stop_behind = record {
      stop = record {
        before = X;
        rest = rest;
        split = split;
        left_is = refl;
        part = inr (inl part_is);
        wrong = record { line = λ line next all is p. no_line line next is p; unfinished = no_end };
        none = no_text;
      };
      none = no_whole;
    }

  -- ---- Before the first line

  module _ (text : List ℕ) (none : NoHeader text) (short : length text < 2 ^ 32) where
    never_headed : (y next : List ℕ) (count : ℕ) (lines : List ℕ) → count < 2 ^ 32 → text ≡ y ++ next → y ≡ headed count lines → ⊥
    never_headed y next count lines small is same =
        let H = codes "journal " ++ decimal count in
        none count (lines ++ next) small
        (is ∙ ap (λ (l : List ℕ). l ++ next) same ∙ append_assoc H (10 ∷ lines) next ∙ sym (append_assoc H (10 ∷ []) (lines ++ next)))

    few_entries : (y next z : List ℕ) (es : List Entry) → text ≡ y ++ next → y ≡ journal_text scenario.world.shape es ++ z → length es < 2 ^ 32
    few_entries y next z es is same =
        let lines = lines_of scenario.world.shape es in
        let one : length es ≤ length lines = lines_long scenario.world.shape (accepted (reverse es)) 1 es in
        let two = headed_long (length es) lines z in
        let three : length y ≡ length (headed (length es) lines ++ z) = ap length same in
        let four : length text ≡ length (y ++ next) = ap length is in
        let five = length-append y next in
        omega (arith, one, two, three, four, five, short)

    never_whole : (y next z : List ℕ) (es : List Entry) → text ≡ y ++ next → y ≡ journal_text scenario.world.shape es ++ z → ⊥
    never_whole y next z es is same =
        never_headed y next (length es) (lines_of scenario.world.shape es ++ z) (few_entries y next z es is same) is (same ∙ headed_more (length es) (lines_of scenario.world.shape es) z)

    never_report : (y next : List ℕ) → text ≡ y ++ next → IsReport scenario y → ⊥
    never_report y next is r = never_whole y next (behind_journal y r) (reverse r.0) is (report_split y r)

    never_part : (y next : List ℕ) → text ≡ y ++ next → (y ≡ [] → ⊥) → IsReportPart scenario y → ⊥
    never_part y next is some p =
        elim p [
          | inl e ↦ some e
          | inr q ↦ elim q [
            | inl j ↦ never_headed y next j.count (entry_lines scenario.world.shape (accepted j.h) 1 (reverse j.h)) j.small is j.text_is
            | inr r ↦ elim r [
              | inl c ↦ never_whole y next (clients_behind scenario y c) (reverse c.h) is (clients_split scenario y c)
              | inr w ↦ never_whole y next (world_behind scenario y w) (reverse w.h) is (world_split scenario y w)
            ]
          ]
        ]

    -- The first line is wrong.
    pub stop_first : IsJournalStop scenario text (length text)
    stop_first = record {
      stop = record {
        before = [];
        rest = text;
        split = refl;
        left_is = refl;
        part = inl refl;
        wrong = record {
          line = λ line next all is p. never_part (line ++ 10 ∷ []) next (is ∙ sym (append_assoc line (10 ∷ []) next)) (never_empty line []) p;
          unfinished = λ e r. never_report [] [] e r;
        };
        none = λ r. never_report text [] (sym (append-nil text)) r;
      };
      none = λ h z whole is. never_whole text [] z (reverse h) (sym (append-nil text)) is;
    }

  -- ---- After the first line

  module _ (count : ℕ) (text lines : List ℕ) (small : count < 2 ^ 32) (short : length text < 2 ^ 32) (split : text ≡ header_text count ++ lines)
      (es : List Entry) (right : AreEntries scenario (reverse es)) where
    split_at : (front : List Entry) (rest : List ℕ) → lines ≡ lines_of scenario.world.shape front ++ rest → text ≡ headed count (lines_of scenario.world.shape front) ++ rest
    split_at front rest is =
        split ∙ headed_is count lines ∙ ap (headed count) is ∙ sym (headed_more count (lines_of scenario.world.shape front) rest)

    -- The line of an entry differs from what was printed.
    pub stop_broken : length es ≤ count → EntriesAreTold scenario [] es lines → (left : ℕ) → TextBreaksOff scenario.world.shape es lines left → IsJournalStop scenario text left
    stop_broken within told left b =
        let all : AreEntries scenario (reverse (b.front ++ b.next ∷ b.more)) = subst (λ (l : List Entry). AreEntries scenario (reverse l)) b.entries_are right in
        let front = first_right stay names scenario b.front b.more b.next all in
        let size : length es ≡ length b.front + suc (length b.more) = ap length b.entries_are ∙ length-append b.front (b.next ∷ b.more) in
        subst (IsJournalStop scenario text) (sym b.left_is)
        (stop_behind count b.front text b.rest small (omega (arith, size, within)) front.1 (split_at b.front b.rest b.text_is) short
        (λ less. broken_none stay names scenario es lines left right told b) (λ equal whole. omega (arith, size, within, equal)))

    module _ (rest : List ℕ) (is : lines ≡ lines_of scenario.world.shape es ++ rest) where
      -- A line tells no entry.
      pub stop_unread : length es < count → NoEntry scenario es (after_lines (length es) lines) → IsJournalStop scenario text (length rest)
      stop_unread less none =
          let here : after_lines (length es) lines ≡ rest = ap (after_lines (length es)) is ∙ behind_all scenario es rest right in
          stop_behind count es text rest small (omega (arith, less)) right (split_at es rest is) short (λ l. subst (NoEntry scenario es) here none) (λ equal whole. omega (arith, less, equal))

      -- The entries end before each session has its End.
      pub stop_open : length es ≡ count → (IsWholeJournal scenario (reverse es) → ⊥) → IsJournalStop scenario text (length rest)
      stop_open equal open_yet =
          stop_behind count es text rest small (omega (arith, equal)) right (split_at es rest is) short (λ less. absurd (omega (arith, less, equal))) (λ e whole. open_yet whole)

      pub whole_text : length es ≡ count → text ≡ journal_text scenario.world.shape es ++ rest
      whole_text equal = split_at es rest is ∙ ap (λ (n : ℕ). headed n (lines_of scenario.world.shape es) ++ rest) (sym equal)

  -- What was served of the lines after the first.
  module _ (count : ℕ) (text lines : List ℕ) (small : count < 2 ^ 32) (short : length text < 2 ^ 32) (split : text ≡ header_text count ++ lines)
      (served : Served) (g : IsServed scenario served) (whole : Bool) (told : HasServedAll scenario served lines count whole) where
    no_more : length (entries_of served) ≤ count
    no_more =
        elim (cases_Bool whole) [
          | inl x ↦ (let all = told.all x in omega (arith, all))
          | inr x ↦ (let less = told.some x in omega (arith, less))
        ]

    pub served_broken : (left : ℕ) → TextBreaksOff scenario.world.shape (entries_of served) lines left → IsJournalStop scenario text left
    served_broken left b = stop_broken count text lines small short split (entries_of served) g.entries no_more told.told left b

    module _ (rest : List ℕ) (is : lines ≡ lines_of scenario.world.shape (entries_of served) ++ rest) where
      pub served_unread : whole ≡ false → IsJournalStop scenario text (length rest)
      served_unread stopped = stop_unread count text lines small short split (entries_of served) g.entries rest is (told.some stopped) (told.none stopped)

      pub served_open : whole ≡ true → (((s : ℕ) → MayBeSession served.sequencer.rules.sessions s → is_ended (history served.sequencer) s ≡ true) → ⊥) → IsJournalStop scenario text (length rest)
      served_open all open_yet =
          stop_open count text lines small short split (entries_of served) g.entries rest is (told.all all)
          (λ w. open_yet (λ s l. whole_ended scenario (history served.sequencer) w s (subst (λ (r : Rules). MayBeSession r.sessions s) g.rules l)))

-- ---- Stops that are passed on

pub wrong_at : (B : Type 0) (r : Result B LineStop) (y e : LineStop) (n : ℕ) (P : ℕ → Type 0) → r ≡ Err y → y ≡ e → e ≡ stop.Wrong n → P n → IfWrong r P
wrong_at B r y e n P is same wrong p =
    let all : r ≡ Err (stop.Wrong n) = is ∙ ap (λ (s : LineStop). Err s) (same ∙ wrong) in
    subst (λ (q : Result B LineStop). IfWrong q P) (sym all) p

wrong_more : (A B : Type 0) (e : LineStop) (P Q : ℕ → Type 0) → ((left : ℕ) → P left → Q left) → IfWrong {A = A} (Err e) P → IfWrong {A = B} (Err e) Q
wrong_more A B (stop.Wrong left) P Q f p = f left p
wrong_more A B stop.Memory P Q f p = tt

pub passed_on : (A B : Type 0) (r : Result B LineStop) (y e : LineStop) (P Q : ℕ → Type 0) → r ≡ Err y → y ≡ e → ((left : ℕ) → P left → Q left) → IfWrong {A = A} (Err e) P → IfWrong r Q
passed_on A B r y e P Q is same f p =
    let all : r ≡ Err e = is ∙ ap (λ (s : LineStop). Err s) same in
    subst (λ (q : Result B LineStop). IfWrong q Q) (sym all) (wrong_more A B e P Q f p)
