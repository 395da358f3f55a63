-- How a part of a report goes on behind the first lines of its journal. Entries stand in order here, a history has the latest first.
use Rattle.std.proofs.Common.{◌≡◌, ◌⊎◌, ℕ, suc, ◌+◌, ◌^◌, ◌<◌, ◌≤◌, inl, inr, List, [], ◌∷◌, ◌++◌, length, length-append, reverse, take, refl, sym, ap, subst, ◌∙◌, arith, decimal, append_assoc, append-nil}
use Rattle.std.specs.Prelude.{codes}
use Rattle.std.specs.List.{flat_map}
use Rattle.std.proofs.lemmas.Bool.{cases_lt}
use Rattle.std.proofs.lemmas.List.{append_cancel_left, length-reverse, reverse-append, reverse-reverse}
use Rattle.sv_world.specs.declared.world.Shape.{Shape}
use Rattle.sv_journal.specs.declared.entry.Entry.{Entry}
use Rattle.sv_journal.specs.History.{Authored, accepted, commit_of, committed_of}
use Rattle.sv_journal.specs.Laws.{FullRepliesStay, LegalRelaysNameAccepted}
use Rattle.sv_journal.specs.Text.{request_text, reply_text, entry_line, entry_lines, journal_text}
use Rattle.sv_scenario.specs.declared.scenario.Scenario.{Scenario}
use Rattle.sv_scenario.specs.Sessions.{session_count}
use Rattle.sv_report.specs.Report.{trace_text, value_lines}
use Rattle.sv_lines.proofs.Splitting.{others_are, number_split}
use Rattle.sv_check.specs.Parts.{IsEntryAfter, AreEntries, IsWholeJournal, IsJournalPart, IsClientPart, IsWorldPart, IsReportPart}
use Rattle.sv_check.specs.Entering.{header_text, lines_of, line_after}
use Rattle.sv_check.proofs.Entries.{in_order, entries_tell, names_of, same_reply_text}
use Rattle.sv_check.proofs.Journals.{after_none, plain_lines, lines_long}

-- ---- Texts

-- The line with the number of entries, and what comes after it.
abbrev pub headed : ℕ → List ℕ → List ℕ
headed count lines = codes "journal " ++ decimal count ++ 10 ∷ lines

pub headed_more : (count : ℕ) (lines y : List ℕ) → headed count lines ++ y ≡ headed count (lines ++ y)
headed_more count lines y = append_assoc (codes "journal " ++ decimal count) (10 ∷ lines) y

pub headed_is : (count : ℕ) (lines : List ℕ) → header_text count ++ lines ≡ headed count lines
headed_is count lines = append_assoc (codes "journal " ++ decimal count) (10 ∷ []) lines

pub headed_splits : (m n : ℕ) (x y : List ℕ) → m < 2 ^ 64 → n < 2 ^ 64 → headed m x ≡ headed n y → (m ≡ n) × (x ≡ y)
headed_splits m n x y small little same =
    let inner = append_cancel_left (codes "journal ") (decimal m ++ (10 ∷ x)) (decimal n ++ (10 ∷ y))
    (sym (append_assoc (codes "journal ") (decimal m) (10 ∷ x)) ∙ same ∙ append_assoc (codes "journal ") (decimal n) (10 ∷ y)) in
    let counts = number_split m n (10 ∷ x) (10 ∷ y) small little refl refl inner in
    (counts.0, others_are 10 10 x y counts.1)

no_line : (shape : Shape) (A : List Authored) (n : ℕ) (e : Entry) (rest : List ℕ) → [] ≡ entry_line shape A n e ++ rest → ⊥
no_line shape A n e rest same =
    let front = decimal n ++ codes " s" ++ decimal e.session ++ codes " " ++ request_text shape e.request ++ codes " -> " ++ reply_text A e.reply in
    let one : length (entry_line shape A n e) ≡ length front + 1 = length-append front (10 ∷ []) in
    let two = length-append (entry_line shape A n e) rest in
    let none : 0 ≡ length (entry_line shape A n e ++ rest) = ap length same in
    omega (arith, one, two, none)

pub headed_long : (count : ℕ) (lines z : List ℕ) → length lines ≤ length (headed count lines ++ z)
headed_long count lines z =
    let one : length (headed count lines) ≡ length (codes "journal " ++ decimal count) + suc (length lines) = length-append (codes "journal " ++ decimal count) (10 ∷ lines) in
    let two = length-append (headed count lines) z in
    omega (arith, one, two)

-- ---- What comes behind the whole journal

abbrev pub clients_behind : (scenario : Scenario) (text : List ℕ) → IsClientPart scenario text → List ℕ
clients_behind scenario text p = flat_map (trace_text (reverse p.h)) p.Ls ++ trace_text (reverse p.h) p.L

pub clients_split : (scenario : Scenario) (text : List ℕ) (p : IsClientPart scenario text) →
    text ≡ journal_text scenario.world.shape (reverse p.h) ++ clients_behind scenario text p
clients_split scenario text p =
    p.text_is ∙ append_assoc (journal_text scenario.world.shape (reverse p.h)) (flat_map (trace_text (reverse p.h)) p.Ls) (trace_text (reverse p.h) p.L)

abbrev values_behind : (scenario : Scenario) (text : List ℕ) → IsWorldPart scenario text → List ℕ
values_behind scenario text p = 10 ∷ value_lines 0 (take p.count (committed_of scenario.world.values p.h))

abbrev pub world_behind : (scenario : Scenario) (text : List ℕ) → IsWorldPart scenario text → List ℕ
world_behind scenario text p = flat_map (trace_text (reverse p.h)) p.Ls ++ (codes "world " ++ (decimal (commit_of p.h) ++ values_behind scenario text p))

pub world_split : (scenario : Scenario) (text : List ℕ) (p : IsWorldPart scenario text) →
    text ≡ journal_text scenario.world.shape (reverse p.h) ++ world_behind scenario text p
world_split scenario text p =
    let J = journal_text scenario.world.shape (reverse p.h) in
    let F = flat_map (trace_text (reverse p.h)) p.Ls in
    let W = codes "world " in
    let C = decimal (commit_of p.h) in
    let V = values_behind scenario text p in
    p.text_is ∙ append_assoc (J ++ F ++ W) C V ∙ append_assoc (J ++ F) W (C ++ V) ∙ append_assoc J F (W ++ (C ++ V))

-- ---- The line of the next entry

-- A text begins with the line of an entry that may come after these.
pub record Begins (scenario : Scenario) (entries : List Entry) (text : List ℕ) : Type 0 where
  pub entry : Entry
  pub rest : List ℕ
  pub right : IsEntryAfter scenario (reverse entries) entry
  pub text_is : text ≡ line_after scenario.world.shape entries entry ++ rest

-- How a longer part goes on behind the lines of entries: one of the entries that are left comes next, or the journal is whole.
abbrev pub GoesOn : Scenario → ℕ → List Entry → List ℕ → Type 0
GoesOn scenario count entries text =
    ((length entries < count) × Begins scenario entries text) ⊎ ((length entries ≡ count) × IsWholeJournal scenario (reverse entries))

pub turned_front : (es more : List Entry) (e : Entry) → reverse (es ++ e ∷ more) ≡ reverse more ++ (e ∷ reverse es)
turned_front es more e =
    reverse-append es (e ∷ more) ∙ ap (λ (l : List Entry). l ++ reverse es) (reverse-append (e ∷ []) more) ∙ append_assoc (reverse more) (e ∷ []) (reverse es)

module _ (stay : FullRepliesStay) (names : LegalRelaysNameAccepted) (scenario : Scenario) where
  abbrev shape : Shape
  shape = scenario.world.shape

  -- The line of an entry is the same among the accepted actions of more entries.
  pub line_stays : (n : ℕ) (e : Entry) (later h : List Entry) → AreEntries scenario (e ∷ h) → entry_line shape (accepted (later ++ (e ∷ h))) n e ≡ entry_line shape (accepted (e ∷ h)) n e
  line_stays n e later h a =
      let same = same_reply_text (accepted (later ++ (e ∷ h))) (accepted (e ∷ h)) e.reply (stay later (e ∷ h) e.reply (names_of names scenario e h a)) in
      ap (λ (r : List ℕ). decimal n ++ codes " s" ++ decimal e.session ++ codes " " ++ request_text shape e.request ++ codes " -> " ++ r ++ 10 ∷ []) same

  pub first_right : (es more : List Entry) (e : Entry) → AreEntries scenario (reverse (es ++ e ∷ more)) → AreEntries scenario (e ∷ reverse es)
  first_right es more e a = (in_order scenario more (e ∷ reverse es) (subst (AreEntries scenario) (turned_front es more e) a)).0

  -- The line of the first of the entries that are left.
  pub line_is_after : (es more : List Entry) (e : Entry) → AreEntries scenario (reverse (es ++ e ∷ more)) →
      entry_line shape (accepted (reverse (es ++ e ∷ more))) (1 + length es) e ≡ line_after shape es e
  line_is_after es more e a =
      ap (λ (h : List Entry). entry_line shape (accepted h) (1 + length es) e) (turned_front es more e)
      ∙ line_stays (1 + length es) e (reverse more) (reverse es) (first_right es more e a)

  -- The first of the lines that are left.
  pub begins : (es more : List Entry) (e : Entry) (y z : List ℕ) → AreEntries scenario (reverse (es ++ e ∷ more)) →
      y ≡ entry_lines shape (accepted (reverse (es ++ e ∷ more))) (1 + length es) (e ∷ more) ++ z → Begins scenario es y
  begins es more e y z a is =
      let A = accepted (reverse (es ++ e ∷ more)) in
      let lines = entry_lines shape A (1 + length es + 1) more in
      let right = first_right es more e a in
      let line = line_is_after es more e a in
      record {
        entry = e;
        rest = lines ++ z;
        right = right.0;
        text_is = is ∙ append_assoc (entry_line shape A (1 + length es) e) lines z ∙ ap (λ (l : List ℕ). l ++ (lines ++ z)) line;
      }

  module _ (few : session_count scenario ≤ 64) where
    -- A text that begins with the lines of right entries, and with those of others, which are no fewer.
    pub behind_lines : (es gs : List Entry) (y z : List ℕ) → AreEntries scenario (reverse es) → AreEntries scenario (reverse gs) → length es ≤ length gs →
        lines_of shape es ++ y ≡ lines_of shape gs ++ z → ((length es < length gs) × Begins scenario es y) ⊎ ((gs ≡ es) × (y ≡ z))
    behind_lines es gs y z p q long same =
        let goes = entries_tell stay names scenario few es gs [] 1 y z tt (after_none scenario es p) (after_none scenario gs q) long
        (plain_lines shape es y ∙ same ∙ sym (plain_lines shape gs z)) in
        go goes.more goes.entries (goes.text ∙ ap (λ (h : List Entry). entry_lines shape (accepted h) (1 + length es) goes.more ++ z) (append-nil (reverse gs)))
      where
        go : (more : List Entry) → gs ≡ es ++ more → y ≡ entry_lines shape (accepted (reverse gs)) (1 + length es) more ++ z → ((length es < length gs) × Begins scenario es y) ⊎ ((gs ≡ es) × (y ≡ z))
        go [] e t = inr (e ∙ append-nil es, t)
        go (d ∷ more) e t =
            let size : length gs ≡ length es + suc (length more) = ap length e ∙ length-append es (d ∷ more) in
            inl (
              omega (arith, size),
              begins es more d y z (subst (λ (l : List Entry). AreEntries scenario (reverse l)) e q)
                  (t ∙ ap (λ (l : List Entry). entry_lines shape (accepted (reverse l)) (1 + length es) (d ∷ more) ++ z) e),
            )

    -- ---- A part of the text of a journal

    pub behind_part : (es gs : List Entry) (y : List ℕ) → AreEntries scenario (reverse es) → AreEntries scenario (reverse gs) →
        lines_of shape es ++ y ≡ lines_of shape gs → (y ≡ []) ⊎ ((length es < length gs) × Begins scenario es y)
    behind_part es gs y p q same =
        elim (cases_lt (length gs) (length es)) [
          | inl l ↦ absurd (shorter (behind_lines gs es [] y q p (omega (arith, l)) (append-nil (lines_of shape gs) ∙ sym same)) l)
          | inr g ↦ elim (behind_lines es gs y [] p q g (same ∙ sym (append-nil (lines_of shape gs)))) [
            | inl b ↦ inr b
            | inr e ↦ inl e.1
          ]
        ]
      where
        shorter : ((length gs < length es) × Begins scenario gs []) ⊎ ((es ≡ gs) × ([] ≡ y)) → length gs < length es → ⊥
        shorter (inl b) l = no_line shape (accepted (b.1.entry ∷ reverse gs)) (1 + length gs) b.1.entry b.1.rest b.1.text_is
        shorter (inr e) l = (let size : length es ≡ length gs = ap length e.0 in omega (arith, size, l))

    -- ---- Any part

    module _ (count : ℕ) (es : List Entry) (y : List ℕ) (small : count < 2 ^ 32) (within : length es ≤ count) (right : AreEntries scenario (reverse es))
        (short : length (headed count (lines_of shape es) ++ y) < 2 ^ 64) where
      abbrev X : List ℕ
      X = headed count (lines_of shape es)

      -- Some first lines of a journal.
      pub in_lines : IsJournalPart scenario (X ++ y) → (y ≡ []) ⊎ ((length es < count) × Begins scenario es y)
      in_lines p =
          let gs = reverse p.h in
          let is : p.h ≡ reverse gs = sym (reverse-reverse p.h) in
          let same : headed count (lines_of shape es ++ y) ≡ headed p.count (lines_of shape gs) =
          sym (headed_more count (lines_of shape es) y) ∙ p.text_is ∙ ap (λ (h : List Entry). headed p.count (entry_lines shape (accepted h) 1 gs)) is in
          let low = p.small in
          let parts = headed_splits count p.count (lines_of shape es ++ y) (lines_of shape gs) (omega (arith, small)) (omega (arith, low)) same in
          let size : length p.h ≡ length gs = ap length is ∙ length-reverse gs in
          let most = p.within in
          elim (behind_part es gs y right (subst (AreEntries scenario) is p.entries) parts.1) [
            | inl none ↦ inl none
            | inr b ↦ (let less = b.0 in let counts : count ≡ p.count = parts.0 in inr (omega (arith, less, size, most, counts), b.1))
          ]

      in_journal : IsJournalPart scenario (X ++ y) → (y ≡ []) ⊎ GoesOn scenario count es y
      in_journal p = elim (in_lines p) [ inl none ↦ inl none | inr b ↦ inr (inl b) ]

      -- A text that begins with a whole journal.
      pub in_whole : (h : List Entry) (z : List ℕ) → IsWholeJournal scenario h → X ++ y ≡ journal_text shape (reverse h) ++ z → GoesOn scenario count es y
      in_whole h z whole same =
          let gs = reverse h in
          let is : reverse gs ≡ h = reverse-reverse h in
          let size : length gs ≤ length (lines_of shape gs) = lines_long shape (accepted (reverse gs)) 1 gs in
          let long = headed_long (length gs) (lines_of shape gs) z in
          let equal : length (X ++ y) ≡ length (headed (length gs) (lines_of shape gs) ++ z) = ap length same in
          let parts = headed_splits count (length gs) (lines_of shape es ++ y) (lines_of shape gs ++ z) (omega (arith, small)) (omega (arith, size, long, equal, short))
          (sym (headed_more count (lines_of shape es) y) ∙ same ∙ headed_more (length gs) (lines_of shape gs) z) in
          let counts : count ≡ length gs = parts.0 in
          elim (behind_lines es gs y z right (subst (AreEntries scenario) (sym is) whole.entries) (omega (arith, counts, within)) parts.1) [
            | inl b ↦ (let less = b.0 in inl (omega (arith, less, counts), b.1))
            | inr e ↦
                (let equals : length gs ≡ length es = ap length e.0 in
                inr (omega (arith, equals, counts), subst (IsWholeJournal scenario) (sym is ∙ ap reverse e.0) whole))
          ]

      in_clients : IsClientPart scenario (X ++ y) → GoesOn scenario count es y
      in_clients p = in_whole p.h (clients_behind scenario (X ++ y) p) p.journal (clients_split scenario (X ++ y) p)

      in_world : IsWorldPart scenario (X ++ y) → GoesOn scenario count es y
      in_world p = in_whole p.h (world_behind scenario (X ++ y) p) p.journal (world_split scenario (X ++ y) p)

      begun : X ++ y ≡ [] → ⊥
      begun e =
          let none : length (X ++ y) ≡ 0 = ap length e in
          let one = length-append X y in
          let two : length X ≡ length (codes "journal " ++ decimal count) + suc (length (lines_of shape es)) = length-append (codes "journal " ++ decimal count) (10 ∷ lines_of shape es) in
          omega (arith, none, one, two)

      -- Any part that begins with the first lines of a journal.
      pub in_part : IsReportPart scenario (X ++ y) → (y ≡ []) ⊎ GoesOn scenario count es y
      in_part p =
          elim p [
            | inl none ↦ absurd (begun none)
            | inr q ↦ elim q [
              | inl journal ↦ in_journal journal
              | inr r ↦ elim r [
                | inl client ↦ inr (in_clients client)
                | inr world ↦ inr (in_world world)
              ]
            ]
          ]
