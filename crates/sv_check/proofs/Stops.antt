-- Where the clients' parts stop being right, the next line is the first wrong one. `entries` are those of the journal, in order.
use Rattle.std.proofs.Common.{◌≡◌, ◌≢◌, ◌⊎◌, inl, inr, ℕ, suc, ◌+◌, ◌^◌, ◌<◌, ◌≤◌, List, [], ◌∷◌, ◌++◌, length, length-append, get_or, take, drop, reverse, refl, sym, ap, subst, ◌∙◌, arith, decimal, append_assoc, append-nil}
use Rattle.std.specs.Prelude.{codes, All}
use Rattle.std.specs.List.{flat_map}
use Rattle.std.proofs.lemmas.List.{append_cancel_left, reverse-reverse, length-reverse, length-take, take-append-drop}
use Rattle.sv_world.specs.declared.world.Shape.{Shape}
use Rattle.sv_journal.specs.declared.entry.Entry.{Entry}
use Rattle.sv_journal.specs.History.{accepted, commit_of, committed_of}
use Rattle.sv_journal.specs.Laws.{FullRepliesStay, LegalRelaysNameAccepted}
use Rattle.sv_journal.specs.Text.{entry_lines, journal_text}
use Rattle.sv_client.specs.declared.trace.Trace.{Trace}
use Rattle.sv_scenario.specs.declared.scenario.Plan.{Plan}
use Rattle.sv_scenario.specs.declared.scenario.Scenario.{Scenario}
use Rattle.sv_scenario.specs.declared.scenario.Step.{Step}
use Rattle.sv_scenario.specs.Sessions.{sessions_in, session_count}
use Rattle.sv_report.specs.Report.{event_text, event_lines, trace_text, value_lines}
use Rattle.sv_report.proofs.Standing.{left_more}
use Rattle.sv_lines.proofs.Splitting.{others_are, number_split}
use Rattle.sv_check.specs.Consistent.{IsReport}
use Rattle.sv_check.specs.Parts.{AreEntries, IsJournalPart, IsWholeJournal, IsTraceSoFar, AreFirstTraces, IsOf, IsClientPart, IsWorldPart, IsReportPart}
use Rattle.sv_check.specs.Stopping.{IsStop}
use Rattle.sv_check.specs.Clients.{PartStops, NoClient, IsClientStop}
use Rattle.sv_check.proofs.Entries.{entries_tell}
use Rattle.sv_check.proofs.Journals.{journal_parts, after_none, plain_lines, journals_tell, lines_long}
use Rattle.sv_check.proofs.Pairs.{longer}
use Rattle.sv_check.proofs.FrontParts.{client_front, traces_front}
use Rattle.sv_check.proofs.GoingOn.{Begins, client_line, some_head, head_text, Rest, rest_begins, peel, GoesOn, going, client_rest, world_rest}
use Rattle.sv_check.proofs.Told.{none_behind}
use Rattle.sv_check.proofs.Splits.{lines_append}

-- ---- Texts

pub journal_long : (shape : Shape) (es : List Entry) (x : List ℕ) → length es ≤ length (journal_text shape es ++ x)
journal_long shape es x =
    let lines = entry_lines shape (accepted (reverse es)) 1 es in
    let one = lines_long shape (accepted (reverse es)) 1 es in
    let two = longer (codes "journal " ++ decimal (length es)) (10 ∷ lines) in
    let three = length-append (journal_text shape es) x in
    omega (arith, one, two, three)

begins_more : (line z rest : List ℕ) → Begins line z → Begins line (z ++ rest)
begins_more line z rest b = record { rest = b.rest ++ rest; text = ap (λ (l : List ℕ). l ++ rest) b.text ∙ append_assoc line (10 ∷ b.rest) rest }

begins_some : (line : List ℕ) → Begins line [] → ⊥
begins_some line b = some_head line b.rest [] 10 (append-nil (line ++ 10 ∷ b.rest) ∙ sym b.text)

-- ---- A stop

-- Behind the text X, nothing that is left in y goes on: `On z` says that z goes on with a right line.
pub record GoesNotOn (scenario : Scenario) (X y : List ℕ) (On : List ℕ → Type 0) : Type 0 where
  pub part : IsReportPart scenario X
  pub parts : (z : List ℕ) → length (X ++ z) < 2 ^ 64 → IsReportPart scenario (X ++ z) → (z ≡ []) ⊎ On z
  pub worlds : (z : List ℕ) → length (X ++ z) < 2 ^ 64 → IsWorldPart scenario (X ++ z) → On z
  pub more : (z rest : List ℕ) → On z → On (z ++ rest)
  pub some : On [] → ⊥
  pub none : On y → ⊥

-- Each report is a world part.
abbrev pub ReportsAreParts : Scenario → Type 0
ReportsAreParts scenario = (z : List ℕ) → IsReport scenario z → IsWorldPart scenario z

pub stop_at : (scenario : Scenario) (text X y : List ℕ) (left : ℕ) (On : List ℕ → Type 0) → ReportsAreParts scenario → text ≡ X ++ y → length text < 2 ^ 64 → left ≡ length y →
    GoesNotOn scenario X y On → IsStop scenario text left
stop_at scenario text X y left On reports e short is g = record {
  before = X;
  rest = y;
  split = e;
  left_is = is;
  part = g.part;
  wrong = record { line = line_wrong; unfinished = unfinished };
  none = λ r. g.none (g.worlds y (omega (arith, size, short)) (subst (IsWorldPart scenario) e (reports text r)));
}
  where
    size : length text ≡ length (X ++ y)
    size = ap length e

    line_wrong : (line next : List ℕ) → All (λ byte. byte ≢ 10) line → y ≡ line ++ 10 ∷ next → IsReportPart scenario (X ++ line ++ 10 ∷ []) → ⊥
    line_wrong line next a s p =
        let z = line ++ 10 ∷ [] in
        let whole : y ≡ z ++ next = s ∙ sym (append_assoc line (10 ∷ []) next) in
        let apart = append_assoc X line (10 ∷ []) in
        let one = length-append X y in
        let two = length-append X z in
        let three = length-append z next in
        let four = ap length whole in
        let same = size in
        let fits : length (X ++ z) < 2 ^ 64 = omega (arith, same, short, one, two, three, four) in
        elim (g.parts z fits (subst (IsReportPart scenario) apart p)) [
          | inl none ↦ absurd (some_head line [] [] 10 (append-nil z ∙ none))
          | inr on ↦ absurd (g.none (subst On (sym whole) (g.more z next on)))
        ]

    unfinished : y ≡ [] → IsReport scenario X → ⊥
    unfinished s r =
        let plain = append-nil X in
        let one = ap length plain in
        let two = length-append X y in
        let same = size in
        let fits : length (X ++ []) < 2 ^ 64 = omega (arith, same, short, one, two) in
        g.some (g.worlds [] fits (subst (IsWorldPart scenario) (sym plain) (reports X r)))

module _ (stay : FullRepliesStay) (names : LegalRelaysNameAccepted) (scenario : Scenario) (few : session_count scenario ≤ 64) (entries : List Entry)
    (journal : IsWholeJournal scenario (reverse entries)) (small : length entries < 2 ^ 32) where
  abbrev shape : Shape
  shape = scenario.world.shape

  abbrev J : List ℕ
  J = journal_text shape entries

  turned : entries ≡ reverse (reverse entries)
  turned = sym (reverse-reverse entries)

  -- ---- Behind the journal

  some_journal : (w : List ℕ) → J ++ w ≡ [] → ⊥
  some_journal w none = some_head (codes "journal " ++ decimal (length entries)) (entry_lines shape (accepted (reverse entries)) 1 entries) w 10 none

  same_journal : (g : List Entry) (w v : List ℕ) → AreEntries scenario g → length (J ++ w) < 2 ^ 64 → J ++ w ≡ journal_text shape (reverse g) ++ v → (entries ≡ reverse g) × (w ≡ v)
  same_journal g w v a short same =
      let long = journal_long shape (reverse g) v in
      let sizes = ap length same in
      journals_tell stay names scenario few entries (reverse g) w v journal.entries (subst (AreEntries scenario) (sym (reverse-reverse g)) a) (omega (arith, small)) (omega (arith, long, sizes, short)) same

  -- The first entries' lines have nothing behind the whole journal.
  journal_part : (w : List ℕ) → IsJournalPart scenario (J ++ w) → w ≡ []
  journal_part w p =
      let lines = entry_lines shape (accepted (reverse entries)) 1 entries in
      let others = entry_lines shape (accepted p.h) 1 (reverse p.h) in
      let least = p.small in
      let within = p.within in
      let inner = append_cancel_left (codes "journal ") (decimal (length entries) ++ (10 ∷ (lines ++ w))) (decimal p.count ++ (10 ∷ others))
      (sym (journal_parts shape entries w) ∙ p.text_is ∙ append_assoc (codes "journal ") (decimal p.count) (10 ∷ others)) in
      let counts = number_split (length entries) p.count (10 ∷ (lines ++ w)) (10 ∷ others) (omega (arith, small)) (omega (arith, least)) refl refl inner in
      let rest = others_are 10 10 (lines ++ w) others counts.1 in
      let back = reverse-reverse p.h in
      let size = length-reverse p.h in
      let count = counts.0 in
      let first : AreEntries scenario (reverse (reverse p.h)) = subst (AreEntries scenario) (sym back) p.entries in
      let same = plain_lines shape (reverse p.h) [] ∙ append-nil (entry_lines shape (accepted (reverse (reverse p.h))) 1 (reverse p.h))
      ∙ ap (λ (g : List Entry). entry_lines shape (accepted g) 1 (reverse p.h)) back ∙ sym rest ∙ sym (plain_lines shape entries w) in
      let goes = entries_tell stay names scenario few (reverse p.h) entries [] 1 [] w tt (after_none scenario (reverse p.h) first) (after_none scenario entries journal.entries)
      (omega (arith, size, within, count)) same in
      none_behind (entry_lines shape (accepted (reverse entries ++ [])) (1 + length (reverse p.h)) goes.more) w (sym goes.text)

  same_history : (g : List Entry) → entries ≡ reverse g → g ≡ reverse entries
  same_history g e = sym (reverse-reverse g) ∙ ap reverse (sym e)

  client_part : (w : List ℕ) → length (J ++ w) < 2 ^ 64 → IsClientPart scenario (J ++ w) → Rest scenario entries (Unit {0}) 0 0 scenario.clients w
  client_part w short p =
      let T = flat_map (trace_text (reverse p.h)) p.Ls in
      let U = trace_text (reverse p.h) p.L in
      let both = same_journal p.h w (T ++ U) p.journal.entries short (p.text_is ∙ append_assoc (journal_text shape (reverse p.h)) T U) in
      let is = same_history p.h both.0 in
      let done : AreFirstTraces shape (reverse entries) p.before p.Ls = subst (λ (g : List Entry). AreFirstTraces shape g p.before p.Ls) is p.done in
      let far : IsTraceSoFar scenario (reverse entries) p.plan p.L = subst (λ (g : List Entry). IsTraceSoFar scenario g p.plan p.L) is p.so_far in
      let text : w ≡ flat_map (trace_text entries) p.Ls ++ trace_text entries p.L =
      both.1 ∙ ap (λ (es : List Entry). flat_map (trace_text es) p.Ls ++ trace_text es p.L) (sym both.0) in
      subst (λ (ps : List Plan). Rest scenario entries (Unit {0}) 0 0 ps w) (sym p.plans)
      (client_rest scenario entries 0 0 (length p.before) (sessions_in p.before) p.before p.plan p.after p.Ls p.L w (omega arith) (omega arith) done.clients done.whole p.next far text)

  world_apart : (K T c d v : List ℕ) → (((K ++ T) ++ c) ++ d) ++ v ≡ K ++ (T ++ ((c ++ d) ++ v))
  world_apart K T c d v =
      ap (λ (l : List ℕ). l ++ v) (append_assoc (K ++ T) c d) ∙ append_assoc (K ++ T) (c ++ d) v ∙ append_assoc K T ((c ++ d) ++ v)

  world_part : (P : Type 0) (w : List ℕ) → length (J ++ w) < 2 ^ 64 → IsWorldPart scenario (J ++ w) → Rest scenario entries P 0 0 scenario.clients w
  world_part P w short p =
      let K = journal_text shape (reverse p.h) in
      let T = flat_map (trace_text (reverse p.h)) p.Ls in
      let values = 10 ∷ value_lines 0 (take p.count (committed_of scenario.world.values p.h)) in
      let W = (codes "world " ++ decimal (commit_of p.h)) ++ values in
      let both = same_journal p.h w (T ++ W) p.journal.entries short (p.text_is ∙ world_apart K T (codes "world ") (decimal (commit_of p.h)) values) in
      let is = same_history p.h both.0 in
      let done : AreFirstTraces shape (reverse entries) scenario.clients p.Ls = subst (λ (g : List Entry). AreFirstTraces shape g scenario.clients p.Ls) is p.traces in
      let text : w ≡ flat_map (trace_text entries) p.Ls ++ W = both.1 ∙ ap (λ (es : List Entry). flat_map (trace_text es) p.Ls ++ W) (sym both.0) in
      world_rest scenario entries P 0 0 scenario.clients p.Ls W w done.clients done.whole
      (record {
        rest = value_lines 0 (take p.count (committed_of scenario.world.values p.h));
        text = ap (λ (g : List Entry). (codes "world " ++ decimal (commit_of g)) ++ values) is;
      })
      text

  -- What stands behind the whole journal in a part of a report: nothing, or the clients' parts and the world's lines.
  part_rest : (w : List ℕ) → length (J ++ w) < 2 ^ 64 → IsReportPart scenario (J ++ w) → (w ≡ []) ⊎ Rest scenario entries (Unit {0}) 0 0 scenario.clients w
  part_rest w short (inl none) = absurd (some_journal w none)
  part_rest w short (inr (inl p)) = inl (journal_part w p)
  part_rest w short (inr (inr (inl p))) = inr (client_part w short p)
  part_rest w short (inr (inr (inr p))) = inr (world_part (Unit {0}) w short p)

  -- ---- Behind whole traces

  module _ (before plans : List Plan) (clients : scenario.clients ≡ before ++ plans) (Ls : List Trace) (done : AreFirstTraces shape (reverse entries) before Ls) where
    abbrev T : List ℕ
    T = flat_map (trace_text entries) Ls

    peeled : (P : Type 0) (w : List ℕ) → Rest scenario entries P 0 0 scenario.clients (T ++ w) → (P × (w ≡ [])) ⊎ Rest scenario entries P (length before) (sessions_in before) plans w
    peeled P w r = peel scenario entries P 0 0 (length before) (sessions_in before) before plans Ls w (omega arith) (omega arith) done.clients done.whole
        (subst (λ (ps : List Plan). Rest scenario entries P 0 0 ps (T ++ w)) clients r)

    -- Behind the traces of the first clients: nothing, or the rest from the next client on.
    pub part_behind : (w : List ℕ) → length ((J ++ T) ++ w) < 2 ^ 64 → IsReportPart scenario ((J ++ T) ++ w) →
        (w ≡ []) ⊎ Rest scenario entries (Unit {0}) (length before) (sessions_in before) plans w
    part_behind w short p =
        let apart = append_assoc J T w in
        elim (part_rest (T ++ w) (subst (λ (l : List ℕ). length l < 2 ^ 64) apart short) (subst (IsReportPart scenario) apart p)) [
          | inl none ↦ inl (none_behind T w none)
          | inr r ↦ elim (peeled (Unit {0}) w r) [
            | inl none ↦ inl none.1
            | inr rest ↦ inr rest
          ]
        ]

    pub world_behind : (w : List ℕ) → length ((J ++ T) ++ w) < 2 ^ 64 → IsWorldPart scenario ((J ++ T) ++ w) → Rest scenario entries ⊥ (length before) (sessions_in before) plans w
    world_behind w short p =
        let apart = append_assoc J T w in
        elim (peeled ⊥ w (world_part ⊥ (T ++ w) (subst (λ (l : List ℕ). length l < 2 ^ 64) apart short) (subst (IsWorldPart scenario) apart p))) [
          | inl none ↦ absurd none.0
          | inr rest ↦ rest
        ]

  -- ---- The stops

  module _ (before : List Plan) (plan : Plan) (plans : List Plan) (clients : scenario.clients ≡ before ++ plan ∷ plans) (Ls : List Trace)
      (done : AreFirstTraces shape (reverse entries) before Ls) where
    abbrev F : List ℕ
    F = J ++ flat_map (trace_text entries) Ls

    -- The client's first line is missing.
    client_missing : (y : List ℕ) (left : ℕ) → NoClient (length before) y left → GoesNotOn scenario F y (Begins (client_line (length before)))
    client_missing y left n = record {
      part = traces_front scenario (reverse entries) entries turned journal small before (plan ∷ plans) Ls clients done;
      parts = λ z fits p. elim (part_behind before (plan ∷ plans) clients Ls done z fits p) [
        | inl none ↦ inl none
        | inr r ↦ inr (rest_begins scenario entries (Unit {0}) (length before) (sessions_in before) (plan ∷ plans) z r)
      ];
      worlds = λ z fits p. rest_begins scenario entries ⊥ (length before) (sessions_in before) (plan ∷ plans) z (world_behind before (plan ∷ plans) clients Ls done z fits p);
      more = λ z rest b. begins_more (client_line (length before)) z rest b;
      some = λ b. begins_some (client_line (length before)) b;
      none = λ b. n.differs b.rest b.text;
    }

    abbrev far : (y : List ℕ) (left : ℕ) (p : PartStops shape entries (length before) (sessions_in before) plan y left) → IsTraceSoFar scenario (reverse entries) plan p.L
    far y left p = record { proper = p.so_far.proper; follows = p.so_far.follows; got_is = p.so_far.gets }

    abbrev On : (L : Trace) → List Step → List ℕ → Type 0
    On L steps z = GoesOn scenario entries (length before) plan plans L steps z

    on_more : (L : Trace) (steps : List Step) (z rest : List ℕ) → On L steps z → On L steps (z ++ rest)
    on_more L steps z rest (inl n) = inl (record { event = n.event; left = n.left; next = n.next; line = begins_more (event_text entries (reverse L.events) n.event) z rest n.line })
    on_more L steps z rest (inr n) = inr (record { whole = n.whole; line = begins_more (head_text scenario entries (suc (length before)) plans) z rest n.line })

    on_some : (L : Trace) (steps : List Step) → On L steps [] → ⊥
    on_some L steps (inl n) = begins_some (event_text entries (reverse L.events) n.event) n.line
    on_some L steps (inr n) = begins_some (head_text scenario entries (suc (length before)) plans) n.line

    on_none : (y : List ℕ) (left : ℕ) (p : PartStops shape entries (length before) (sessions_in before) plan y left) → On p.L p.so_far.follows.left p.rest → ⊥
    on_none y left p (inl n) = p.none n.event n.left n.line.rest n.next n.line.text
    on_none y left p (inr n) = p.not_whole n.whole

    behind_part : (L : Trace) (z : List ℕ) (g : IsTraceSoFar scenario (reverse entries) plan L) → IsOf (length before) (sessions_in before) plan L →
        (U : List ℕ) → U ≡ trace_text entries L → length ((F ++ U) ++ z) < 2 ^ 64 → IsReportPart scenario ((F ++ U) ++ z) → (z ≡ []) ⊎ On L g.follows.left z
    behind_part L z g o U is fits p =
        let apart : (F ++ U) ++ z ≡ F ++ (trace_text entries L ++ z) = append_assoc F U z ∙ ap (λ (l : List ℕ). F ++ (l ++ z)) is in
        elim (part_behind before (plan ∷ plans) clients Ls done (trace_text entries L ++ z) (subst (λ (l : List ℕ). length l < 2 ^ 64) apart fits) (subst (IsReportPart scenario) apart p)) [
          | inl none ↦ absurd (some_head (client_line L.client.0) (event_lines entries (reverse L.events)) z 10 none)
          | inr r ↦ elim (going scenario entries (Unit {0}) (length before) (sessions_in before) plan plans L z o g r) [
            | inl e ↦ inl e.1
            | inr on ↦ inr on
          ]
        ]

    behind_world : (L : Trace) (z : List ℕ) (g : IsTraceSoFar scenario (reverse entries) plan L) → IsOf (length before) (sessions_in before) plan L →
        (U : List ℕ) → U ≡ trace_text entries L → length ((F ++ U) ++ z) < 2 ^ 64 → IsWorldPart scenario ((F ++ U) ++ z) → On L g.follows.left z
    behind_world L z g o U is fits p =
        let apart : (F ++ U) ++ z ≡ F ++ (trace_text entries L ++ z) = append_assoc F U z ∙ ap (λ (l : List ℕ). F ++ (l ++ z)) is in
        elim (going scenario entries ⊥ (length before) (sessions_in before) plan plans L z o g
        (world_behind before (plan ∷ plans) clients Ls done (trace_text entries L ++ z) (subst (λ (l : List ℕ). length l < 2 ^ 64) apart fits) (subst (IsWorldPart scenario) apart p))) [
          | inl e ↦ absurd e.0
          | inr on ↦ on
        ]

    -- The client's events stop.
    part_stops : (y : List ℕ) (left : ℕ) (p : PartStops shape entries (length before) (sessions_in before) plan y left) →
        GoesNotOn scenario (F ++ trace_text entries p.L) p.rest (On p.L p.so_far.follows.left)
    part_stops y left p = record {
      part = client_front scenario (reverse entries) entries turned journal small before plan plans Ls p.L (F ++ trace_text entries p.L) clients done p.so_far.of (far y left p) refl;
      parts = λ z fits q. behind_part p.L z (far y left p) p.so_far.of (trace_text entries p.L) refl fits q;
      worlds = λ z fits q. behind_world p.L z (far y left p) p.so_far.of (trace_text entries p.L) refl fits q;
      more = λ z rest on. on_more p.L p.so_far.follows.left z rest on;
      some = λ on. on_some p.L p.so_far.follows.left on;
      none = λ on. on_none y left p on;
    }

    -- Where a client's part stops being right, the text does.
    pub client_stop : (text y : List ℕ) (left : ℕ) → ReportsAreParts scenario → text ≡ F ++ y → length text < 2 ^ 64 →
        IsClientStop shape entries (length before) (sessions_in before) plan y left → IsStop scenario text left
    client_stop text y left reports e short (inl n) = stop_at scenario text F y left (Begins (client_line (length before))) reports e short n.left_is (client_missing y left n)
    client_stop text y left reports e short (inr p) =
        stop_at scenario text (F ++ trace_text entries p.L) p.rest left (On p.L p.so_far.follows.left) reports
        (e ∙ ap (λ (l : List ℕ). F ++ l) p.text_is ∙ sym (append_assoc F (trace_text entries p.L) p.rest)) short p.left_is (part_stops y left p)

-- ---- By the number of a client

-- The plans are those before a client, its own, and those behind it.
plans_at : (plans : List Plan) (i : ℕ) (plan : Plan) → i < length plans → plan ≡ get_or plans i plan → plans ≡ take i plans ++ plan ∷ drop (i + 1) plans
plans_at plans i plan within is = sym (take-append-drop i plans) ∙ ap (λ (ps : List Plan). take i plans ++ ps) (left_more plans i plan within is)

pub clients_stop : FullRepliesStay → LegalRelaysNameAccepted → (scenario : Scenario) → session_count scenario ≤ 64 → ReportsAreParts scenario → (entries : List Entry) →
    IsWholeJournal scenario (reverse entries) → (text y : List ℕ) → length (journal_text scenario.world.shape entries ++ text) < 2 ^ 32 → (i : ℕ) (plan : Plan) (Ls : List Trace) (number first left : ℕ) →
    i < length scenario.clients → plan ≡ get_or scenario.clients i plan → AreFirstTraces scenario.world.shape (reverse entries) (take i scenario.clients) Ls → number ≡ i →
    first ≡ sessions_in (take i scenario.clients) → text ≡ flat_map (trace_text entries) Ls ++ y → IsClientStop scenario.world.shape entries number first plan y left →
    IsStop scenario (journal_text scenario.world.shape entries ++ text) left
clients_stop stay names scenario few reports entries journal text y short i plan Ls number first left within is done n f e stop =
    let shape = scenario.world.shape in
    let plans = scenario.clients in
    let before = take i plans in
    let J = journal_text shape entries in
    let T = flat_map (trace_text entries) Ls in
    let long = journal_long shape entries text in
    let long_take = length-take i plans in
    let count : length before ≡ i = omega (arith, long_take, within) in
    let here : IsClientStop shape entries (length before) (sessions_in before) plan y left =
    subst (λ (k : ℕ). IsClientStop shape entries k (sessions_in before) plan y left) (n ∙ sym count) (subst (λ (s : ℕ). IsClientStop shape entries number s plan y left) f stop) in
    client_stop stay names scenario few entries journal (omega (arith, long, short)) before plan (drop (i + 1) plans) (plans_at plans i plan within is) Ls done (J ++ text) y left reports
    (ap (λ (l : List ℕ). J ++ l) e ∙ sym (append_assoc J T y)) (omega (arith, short)) here

-- One more trace's text is taken.
pub texts_more : (entries : List Entry) (Ls : List Trace) (L : Trace) (text rest more : List ℕ) → text ≡ flat_map (trace_text entries) Ls ++ rest → rest ≡ trace_text entries L ++ more →
    text ≡ flat_map (trace_text entries) (Ls ++ L ∷ []) ++ more
texts_more entries Ls L text rest more e f =
    e ∙ ap (λ (l : List ℕ). flat_map (trace_text entries) Ls ++ l) f ∙ sym (append_assoc (flat_map (trace_text entries) Ls) (trace_text entries L) more)
    ∙ ap (λ (l : List ℕ). l ++ more) (sym (lines_append entries Ls L))
