-- Texts that may be what `serve` prints. Entries stand in order here, a history has the latest first.
use Rattle.std.proofs.Common.{◌≡◌, inl, inr, ℕ, ◌+◌, ◌^◌, ◌<◌, ◌≤◌, Bool, true, false, true≢false, List, [], ◌∷◌, ◌++◌, length, length-append, reverse, get_or, Result, Ok, Err, refl, sym, ap, subst, ◌∙◌, arith, append_assoc, append-nil}
use Rattle.std.specs.Prelude.{codes, IfOk}
use Rattle.std.specs.List.{flat_map}
use Rattle.std.proofs.lemmas.List.{nil_from_length, length-reverse, reverse-reverse}
use Rattle.sv_world.specs.declared.world.Shape.{Shape}
use Rattle.sv_journal.specs.declared.entry.Entry.{Entry}
use Rattle.sv_journal.specs.Answer.{Rules, Legal}
use Rattle.sv_journal.specs.History.{accepted, commit_of, committed_of}
use Rattle.sv_journal.specs.Laws.{FullRepliesStay, LegalRelaysNameAccepted}
use Rattle.sv_journal.specs.Text.{entry_lines, journal_text}
use Rattle.sv_sequencer.specs.Step.{history}
use Rattle.sv_client.specs.declared.trace.Trace.{Trace}
use Rattle.sv_scenario.specs.declared.scenario.Scenario.{Scenario}
use Rattle.sv_scenario.specs.Limits.{IsGoodScenario}
use Rattle.sv_script.specs.Laws.{StepsAreDoneInOrder}
use Rattle.law_system.specs.declared.played.Played.{Played}
use Rattle.law_system.specs.Records.{rules_of}
use Rattle.law_asked.specs.Asked.{RequestsAreMessages, AcceptedAreFew}
use Rattle.law_asked.specs.Numbers.{ScenarioFits}
use Rattle.sv_report.specs.Report.{trace_text}
use Rattle.sv_lines.specs.declared.stop.LineStop.{LineStop}
use Rattle.sv_lines.specs.declared.stop.LineStop.TheVariants as stop
use Rattle.sv_check.specs.declared.journal.Served.{Served}
use Rattle.sv_check.specs.Consistent.{IsReport}
use Rattle.sv_check.specs.Either.{IsRight, IsPart}
use Rattle.sv_check.specs.Entering.{lines_of}
use Rattle.sv_check.specs.Bare.{IsBare, IsBareOf, IsBarePlayed, begins_commit, commit_line, bare_text}
use Rattle.sv_check.specs.Parts.{AreEntries, IsWholeJournal, IsReportPart, IsClientPart, IsWorldPart}
use Rattle.sv_check.specs.Serving.{IsServed}
use Rattle.sv_check.specs.Stopping.{IsStop, IsTextStop, IsJournalStop, IfWrong}
use Rattle.sv_check.proofs.JournalParts.{headed, headed_long, in_lines, clients_behind, clients_split, world_behind, world_split}
use Rattle.sv_check.proofs.Journals.{journals_tell, lines_long}
use Rattle.sv_check.proofs.Reports.{report_full}

-- ---- Texts that are read as reports

-- No front of the text is what `serve` prints.
abbrev pub NoBareFront : Scenario → List ℕ → Type 0
NoBareFront scenario text = (front rest : List ℕ) → text ≡ front ++ rest → IsBare scenario front → ⊥

-- There the first wrong line of a report is that of any kind.
pub text_stop : (scenario : Scenario) (text : List ℕ) (left : ℕ) → NoBareFront scenario text → IsStop scenario text left → IsTextStop scenario text left
text_stop scenario text left none s = record {
  before = s.before;
  rest = s.rest;
  split = s.split;
  left_is = s.left_is;
  part = inl s.part;
  wrong = record {
    line = λ line next all is p. elim p [
      | inl r ↦ s.wrong.line line next all is r
      | inr h ↦
          none (s.before ++ line ++ 10 ∷ []) next
          (s.split ∙ ap (λ (l : List ℕ). s.before ++ l) is ∙ sym (append_assoc (s.before ++ line) (10 ∷ []) next ∙ append_assoc s.before line (10 ∷ next))) h
    ];
    unfinished = λ e p. elim p [ inl r ↦ s.wrong.unfinished e r | inr h ↦ none s.before s.rest s.split h ];
  };
  none = λ p. elim p [ inl r ↦ s.none r | inr h ↦ none text [] (sym (append-nil text)) h ];
}

-- A text that begins with no whole journal has none.
pub journal_stop : (scenario : Scenario) (text : List ℕ) (left : ℕ) → IsJournalStop scenario text left → IsTextStop scenario text left
journal_stop scenario text left s =
    text_stop scenario text left
    (λ front rest is h.
    let J = journal_text scenario.world.shape (reverse h.0) in
    let K = commit_line (commit_of (reverse (reverse h.0))) in
    s.none h.0 (K ++ rest) h.1.journal (is ∙ ap (λ (l : List ℕ). l ++ rest) h.1.text_is ∙ append_assoc J K rest))
    s.stop

-- ---- What stands behind a whole journal

traces_begin : (entries : List Entry) (Ls : List Trace) (L : Trace) (next : List ℕ) → begins_commit ((flat_map (trace_text entries) Ls ++ trace_text entries L) ++ next) ≡ false
traces_begin entries [] L next = refl
traces_begin entries (M ∷ Ls) L next = refl

world_begins : (entries : List Entry) (Ls : List Trace) (more next : List ℕ) → begins_commit ((flat_map (trace_text entries) Ls ++ (codes "world " ++ more)) ++ next) ≡ false
world_begins entries [] more next = refl
world_begins entries (M ∷ Ls) more next = refl

commit_begins : (commit : ℕ) (next : List ℕ) → begins_commit (commit_line commit ++ next) ≡ true
commit_begins commit next = refl

no_both : (b : Bool) → b ≡ true → b ≡ false → ⊥
no_both b t f = true≢false (sym t ∙ f)

pub entries_long : (shape : Shape) (es : List Entry) (z : List ℕ) → length es ≤ length (journal_text shape es ++ z)
entries_long shape es z =
    let lines = lines_of shape es in
    let one : length es ≤ length lines = lines_long shape (accepted (reverse es)) 1 es in
    let two = headed_long (length es) lines z in
    omega (arith, one, two)

module _ (stay : FullRepliesStay) (names : LegalRelaysNameAccepted) (order : StepsAreDoneInOrder) (few : AcceptedAreFew) (messages : RequestsAreMessages)
    (scenario : Scenario) (good : IsGoodScenario scenario) (numbers : ScenarioFits scenario)
    (es : List Entry) (whole : IsWholeJournal scenario (reverse es)) (text behind : List ℕ) (text_is : text ≡ journal_text scenario.world.shape es ++ behind) (short : length text < 2 ^ 32) where
  abbrev J : List ℕ
  J = journal_text scenario.world.shape es

  -- The line of the commit.
  abbrev K : List ℕ
  K = commit_line (commit_of (reverse es))

  front_short : (y next : List ℕ) → behind ≡ y ++ next → length (J ++ y) < 2 ^ 32
  front_short y next is =
      let size : length text ≡ length (J ++ behind) = ap length text_is in
      let sum = length-append J behind in
      let more : length behind ≡ length (y ++ next) = ap length is in
      let two = length-append y next in
      let three = length-append J y in
      omega (arith, size, sum, more, two, three, short)

  few_entries : length es < 2 ^ 32
  few_entries =
      let long = entries_long scenario.world.shape es behind in
      let size : length text ≡ length (J ++ behind) = ap length text_is in
      omega (arith, long, size, short)

  same_behind : (h : List Entry) (y z next : List ℕ) → behind ≡ y ++ next → IsWholeJournal scenario h → J ++ y ≡ journal_text scenario.world.shape (reverse h) ++ z → (es ≡ reverse h) × (y ≡ z)
  same_behind h y z next is w same =
      let long = entries_long scenario.world.shape (reverse h) z in
      let size : length (J ++ y) ≡ length (journal_text scenario.world.shape (reverse h) ++ z) = ap length same in
      let low = front_short y next is in
      let es_low = few_entries in
      journals_tell stay names scenario good.sessions es (reverse h) y z whole.entries (subst (AreEntries scenario) (sym (reverse-reverse h)) w.entries) (omega (arith, es_low))
      (omega (arith, long, size, low)) same

  bare_behind : (y next : List ℕ) → behind ≡ y ++ next → IsBare scenario (J ++ y) → y ≡ K
  bare_behind y next is h =
      let p = same_behind h.0 y (commit_line (commit_of (reverse (reverse h.0)))) next is h.1.journal h.1.text_is in
      p.1 ∙ ap (λ (gs : List Entry). commit_line (commit_of (reverse gs))) (sym p.0)

  -- Where it does not go on with `co`, no front of the text is what `serve` prints.
  pub not_bare : begins_commit behind ≡ false → NoBareFront scenario text
  not_bare other front rest is h =
      let K' = commit_line (commit_of (reverse (reverse h.0))) in
      let J' = journal_text scenario.world.shape (reverse h.0) in
      let same = sym text_is ∙ is ∙ ap (λ (l : List ℕ). l ++ rest) h.1.text_is ∙ append_assoc J' K' rest in
      let p = same_behind h.0 behind (K' ++ rest) [] (sym (append-nil behind)) h.1.journal same in
      no_both (begins_commit behind) (ap begins_commit p.1 ∙ commit_begins (commit_of (reverse (reverse h.0))) rest) other

  -- ---- It goes on with `co`

  module _ (begins : begins_commit behind ≡ true) where
    not_client : (y next : List ℕ) → behind ≡ y ++ next → IsClientPart scenario (J ++ y) → ⊥
    not_client y next is c =
        let p = same_behind c.h y (clients_behind scenario (J ++ y) c) next is c.journal (clients_split scenario (J ++ y) c) in
        no_both (begins_commit behind) begins (ap begins_commit (is ∙ ap (λ (l : List ℕ). l ++ next) p.1) ∙ traces_begin (reverse c.h) c.Ls c.L next)

    not_world : (y next : List ℕ) → behind ≡ y ++ next → IsWorldPart scenario (J ++ y) → ⊥
    not_world y next is w =
        let p = same_behind w.h y (world_behind scenario (J ++ y) w) next is w.journal (world_split scenario (J ++ y) w) in
        no_both (begins_commit behind) begins (ap begins_commit (is ∙ ap (λ (l : List ℕ). l ++ next) p.1) ∙ world_begins (reverse w.h) w.Ls _ next)

    -- A longer part of a report there is none.
    no_part : (y next : List ℕ) → behind ≡ y ++ next → (y ≡ [] → ⊥) → IsReportPart scenario (J ++ y) → ⊥
    no_part y next is some (inl none) = (let head : 106 ≡ 0 = ap (λ (l : List ℕ). get_or l 0 0) none in omega (arith, head))
    no_part y next is some (inr (inl j)) =
        let low = front_short y next is in
        elim (in_lines stay names scenario good.sessions (length es) es y few_entries (omega arith) whole.entries (omega (arith, low)) j) [
          | inl none ↦ some none
          | inr b ↦ (let less = b.0 in omega (arith, less))
        ]
    no_part y next is some (inr (inr (inl c))) = not_client y next is c
    no_part y next is some (inr (inr (inr w))) = not_world y next is w

    no_report : (y next : List ℕ) → behind ≡ y ++ next → IsReport scenario (J ++ y) → ⊥
    no_report y next is r = not_world y next is (report_full order few messages scenario good numbers (J ++ y) r).part

    not_right : IsRight scenario text → (behind ≡ K → ⊥) → ⊥
    not_right p other =
        let all = sym (append-nil behind) in
        elim (subst (IsRight scenario) text_is p) [
          | inl r ↦ no_report behind [] all r
          | inr h ↦ other (bare_behind behind [] all h)
        ]

    journal_part : IsReportPart scenario J
    journal_part = inr (inl (record {
      count = length es;
      h = reverse es;
      small = few_entries;
      within = (let size = length-reverse es in omega (arith, size));
      entries = whole.entries;
      text_is = ap (λ (gs : List Entry). headed (length es) (entry_lines scenario.world.shape (accepted (reverse es)) 1 gs)) (sym (reverse-reverse es));
    }))

    never_lined : (line : List ℕ) → line ++ 10 ∷ [] ≡ [] → ⊥
    never_lined [] e = cc
    never_lined (b ∷ line) e = cc

    not_empty : behind ≡ [] → ⊥
    not_empty e = no_both (begins_commit behind) begins (ap begins_commit e)

    -- The line of the commit does not come next.
    pub stop_commit : ((rest : List ℕ) → behind ≡ K ++ rest → ⊥) → IsTextStop scenario text (length behind)
    stop_commit other = record {
      before = J;
      rest = behind;
      split = text_is;
      left_is = refl;
      part = inl journal_part;
      wrong = record {
        line = λ line next all is p.
            let y = line ++ 10 ∷ [] in
            let here : behind ≡ y ++ next = is ∙ sym (append_assoc line (10 ∷ []) next) in
            elim (subst (IsPart scenario) (append_assoc J line (10 ∷ [])) p) [
              | inl r ↦ no_part y next here (never_lined line) r
              | inr h ↦ other next (here ∙ ap (λ (l : List ℕ). l ++ next) (bare_behind y next here h))
            ];
        unfinished = λ e p. not_empty e;
      };
      none = λ p. not_right p (λ e. other [] (e ∙ sym (append-nil K)));
    }

    -- ---- The line of the commit comes next

    module _ (rest : List ℕ) (is : behind ≡ K ++ rest) where
      pub bare_whole : rest ≡ [] → text ≡ bare_text scenario.world.shape es
      bare_whole e = text_is ∙ ap (λ (l : List ℕ). J ++ l) (is ∙ ap (λ (l : List ℕ). K ++ l) e ∙ append-nil K)

      begun : (z : List ℕ) → K ++ z ≡ [] → ⊥
      begun z none = (let head : 99 ≡ 0 = ap (λ (l : List ℕ). get_or l 0 0) none in omega (arith, head))

      no_longer : (z : List ℕ) → K ++ z ≡ K → z ≡ []
      no_longer z same =
          let size : length (K ++ z) ≡ length K = ap length same in
          let sum = length-append K z in
          nil_from_length z (omega (arith, size, sum))

      -- Nothing may come behind it.
      pub stop_behind_commit : (rest ≡ [] → ⊥) → IsTextStop scenario text (length rest)
      stop_behind_commit some = record {
        before = J ++ K;
        rest = rest;
        split = text_is ∙ ap (λ (l : List ℕ). J ++ l) is ∙ sym (append_assoc J K rest);
        left_is = refl;
        part = inr (reverse es, record { journal = whole; text_is = ap (bare_text scenario.world.shape) (sym (reverse-reverse es)) });
        wrong = record {
          line = λ line next all more p.
              let z = line ++ 10 ∷ [] in
              let y = K ++ z in
              let here : behind ≡ y ++ next = is ∙ ap (λ (l : List ℕ). K ++ l) (more ∙ sym (append_assoc line (10 ∷ []) next)) ∙ sym (append_assoc K z next) in
              elim (subst (IsPart scenario) (append_assoc (J ++ K) line (10 ∷ []) ∙ append_assoc J K z) p) [
                | inl r ↦ no_part y next here (begun z) r
                | inr h ↦ never_lined line (no_longer z (bare_behind y next here h))
              ];
          unfinished = λ e p. some e;
        };
        none = λ p. not_right p (λ e. some (no_longer rest (sym is ∙ e)));
      }

-- ---- The line of the commit, as it is printed

module _ (stay : FullRepliesStay) (names : LegalRelaysNameAccepted) (order : StepsAreDoneInOrder) (few : AcceptedAreFew) (messages : RequestsAreMessages)
    (scenario : Scenario) (played : Played) (text last line : List ℕ) (good : IsGoodScenario scenario) (numbers : ScenarioFits scenario) (p : IsBarePlayed scenario played)
    (short : length text < 2 ^ 32) (text_is : text ≡ journal_text scenario.world.shape played.journal.entries ++ last) (begins : begins_commit last ≡ true)
    (line_is : line ≡ commit_line played.commit) where
  abbrev C : List ℕ
  C = commit_line (commit_of (reverse played.journal.entries))

  same : line ≡ C
  same = line_is ∙ ap commit_line p.commit

  next_is : (rest : List ℕ) → last ≡ line ++ rest → last ≡ C ++ rest
  next_is rest e = e ∙ ap (λ (l : List ℕ). l ++ rest) same

  -- Another line than that of the commit is the first wrong one.
  pub stop_at_commit : ((rest : List ℕ) → last ≡ line ++ rest → ⊥) → IsTextStop scenario text (length last)
  stop_at_commit other =
      stop_commit stay names order few messages scenario good numbers played.journal.entries p.journal text last text_is short begins
      (λ rest e. other rest (e ∙ ap (λ (l : List ℕ). l ++ rest) (sym same)))

  -- A line behind it is the first wrong one.
  pub stop_past_commit : (rest : List ℕ) → last ≡ line ++ rest → 0 < length rest → IsTextStop scenario text (length rest)
  stop_past_commit rest e some =
      stop_behind_commit stay names order few messages scenario good numbers played.journal.entries p.journal text last text_is short begins rest (next_is rest e)
      (λ none. let size : length rest ≡ 0 = ap length none in omega (arith, some, size))

  -- Where nothing is left, the text is what `serve` prints.
  pub bare_of : (rest : List ℕ) → last ≡ line ++ rest → length rest ≡ 0 → IsBareOf scenario text played
  bare_of rest e none = record {
    played_is = p;
    text_is = bare_whole stay names order few messages scenario good numbers played.journal.entries p.journal text last text_is short begins rest (next_is rest e) (nil_from_length rest none);
  }

-- ---- Answers that are passed on

-- What holds of a right answer.
pub ok_as : {A E : Type 0} (r : Result A E) (P Q : A → Type 0) → ((x : A) → P x → Q x) → IfOk r P → IfOk r Q
ok_as (Ok x) P Q f p = f x p
ok_as (Err e) P Q f p = tt

pub wrong_as : {A : Type 0} (r : Result A LineStop) (P Q : ℕ → Type 0) → ((left : ℕ) → P left → Q left) → IfWrong r P → IfWrong r Q
wrong_as (Ok x) P Q f p = tt
wrong_as (Err (stop.Wrong left)) P Q f p = f left p
wrong_as (Err stop.Memory) P Q f p = tt

pub wrong_line : (A : Type 0) (e : LineStop) (n : ℕ) (P : ℕ → Type 0) → e ≡ stop.Wrong n → P n → IfWrong {A = A} (Err e) P
wrong_line A e n P is p = subst (λ (x : LineStop). IfWrong {A = A} (Err x) P) (sym is) p

-- ---- What is left of the server

pub bare_played : (scenario : Scenario) (served : Served) (played : Played) → IsServed scenario served → IsWholeJournal scenario (history served.sequencer) →
    Legal served.sequencer.rules (history served.sequencer) → played.shape ≡ scenario.world.shape → played.journal.entries ≡ served.sequencer.journal.entries → played.traces ≡ [] →
    played.commit ≡ commit_of (history served.sequencer) → played.committed ≡ committed_of served.sequencer.rules.world.values (history served.sequencer) → IsBarePlayed scenario played
bare_played scenario served played g whole legal shape entries traces commit committed =
    let h : reverse played.journal.entries ≡ history served.sequencer = ap reverse entries in
    record {
      journal = subst (IsWholeJournal scenario) (sym h) whole;
      legal = subst (Legal (rules_of scenario)) (sym h) (subst (λ (r : Rules). Legal r (history served.sequencer)) g.rules legal);
      traces = traces;
      shape = shape;
      commit = commit ∙ ap commit_of (sym h);
      committed = committed ∙ ap (λ (r : Rules). committed_of r.world.values (history served.sequencer)) g.rules ∙ ap (committed_of scenario.world.values) (sym h);
    }
