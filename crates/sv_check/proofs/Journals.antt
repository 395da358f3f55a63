-- A journal's text tells its entries, which stand in order here.
use Rattle.std.proofs.Common.{◌≡◌, ℕ, ◌+◌, ◌^◌, ◌<◌, ◌≤◌, List, [], ◌∷◌, ◌++◌, length, length-append, reverse, refl, sym, ap, subst, ◌∙◌, arith, decimal, append_assoc, append-nil}
use Rattle.std.specs.Prelude.{codes}
use Rattle.std.proofs.lemmas.List.{append_cancel_left, nil_from_length}
use Rattle.sv_world.specs.declared.world.Shape.{Shape}
use Rattle.sv_journal.specs.declared.entry.Entry.{Entry}
use Rattle.sv_journal.specs.History.{accepted, Authored}
use Rattle.sv_journal.specs.Laws.{FullRepliesStay, LegalRelaysNameAccepted}
use Rattle.sv_journal.specs.Text.{entry_lines, journal_text, entry_line, request_text, reply_text}
use Rattle.sv_scenario.specs.declared.scenario.Scenario.{Scenario}
use Rattle.sv_scenario.specs.Sessions.{session_count}
use Rattle.sv_lines.proofs.Splitting.{others_are, number_split}
use Rattle.sv_check.specs.Parts.{AreEntries}
use Rattle.sv_check.proofs.Entries.{AreEntriesAfter, in_order, entries_tell}

pub journal_parts : (shape : Shape) (es : List Entry) (x : List ℕ) →
    journal_text shape es ++ x ≡ codes "journal " ++ (decimal (length es) ++ (10 ∷ (entry_lines shape (accepted (reverse es)) 1 es ++ x)))
journal_parts shape es x =
    let lines = entry_lines shape (accepted (reverse es)) 1 es in
    append_assoc (codes "journal " ++ decimal (length es)) (10 ∷ lines) x ∙ append_assoc (codes "journal ") (decimal (length es)) (10 ∷ (lines ++ x))

-- It has no fewer bytes than entries.
pub lines_long : (shape : Shape) (A : List Authored) (n : ℕ) (es : List Entry) → length es ≤ length (entry_lines shape A n es)
lines_long shape A n [] = omega arith
lines_long shape A n (e ∷ es) =
    let line = entry_line shape A n e in
    let front = decimal n ++ codes " s" ++ decimal e.session ++ codes " " ++ request_text shape e.request ++ codes " -> " ++ reply_text A e.reply in
    let one : length line ≡ length front + 1 = length-append front (10 ∷ []) in
    let sum = length-append line (entry_lines shape A (n + 1) es) in
    let more = lines_long shape A (n + 1) es in
    omega (arith, one, sum, more)

pub after_none : (scenario : Scenario) (es : List Entry) → AreEntries scenario (reverse es) → AreEntriesAfter scenario [] es
after_none scenario es a = (in_order scenario es [] (subst (AreEntries scenario) (sym (append-nil (reverse es))) a)).1

pub plain_lines : (shape : Shape) (es : List Entry) (x : List ℕ) → entry_lines shape (accepted (reverse es ++ [])) 1 es ++ x ≡ entry_lines shape (accepted (reverse es)) 1 es ++ x
plain_lines shape es x = ap (λ (h : List Entry). entry_lines shape (accepted h) 1 es ++ x) (append-nil (reverse es))

journal_rest : FullRepliesStay → LegalRelaysNameAccepted → (scenario : Scenario) → session_count scenario ≤ 64 → (es fs : List Entry) (x y : List ℕ) →
    AreEntries scenario (reverse es) → AreEntries scenario (reverse fs) → length es ≡ length fs →
    entry_lines scenario.world.shape (accepted (reverse es)) 1 es ++ x ≡ entry_lines scenario.world.shape (accepted (reverse fs)) 1 fs ++ y → (es ≡ fs) × (x ≡ y)
journal_rest stay names scenario few es fs x y p q long same =
    let shape = scenario.world.shape in
    let goes = entries_tell stay names scenario few es fs [] 1 x y tt (after_none scenario es p) (after_none scenario fs q) (omega (arith, long))
    (plain_lines shape es x ∙ same ∙ sym (plain_lines shape fs y)) in
    let counts : length fs ≡ length es + length goes.more = ap length goes.entries ∙ length-append es goes.more in
    let none : goes.more ≡ [] = nil_from_length goes.more (omega (arith, counts, long)) in (
      sym (goes.entries ∙ ap (λ (m : List Entry). es ++ m) none ∙ append-nil es),
      goes.text ∙ ap (λ (m : List Entry). entry_lines shape (accepted (reverse fs ++ [])) (1 + length es) m ++ y) none,
    )

pub journals_tell : FullRepliesStay → LegalRelaysNameAccepted → (scenario : Scenario) → session_count scenario ≤ 64 → (es fs : List Entry) (x y : List ℕ) →
    AreEntries scenario (reverse es) → AreEntries scenario (reverse fs) → length es < 2 ^ 64 → length fs < 2 ^ 64 →
    journal_text scenario.world.shape es ++ x ≡ journal_text scenario.world.shape fs ++ y → (es ≡ fs) × (x ≡ y)
journals_tell stay names scenario few es fs x y p q small little same =
    let shape = scenario.world.shape in
    let xs = entry_lines shape (accepted (reverse es)) 1 es ++ x in
    let ys = entry_lines shape (accepted (reverse fs)) 1 fs ++ y in
    let inner = append_cancel_left (codes "journal ") (decimal (length es) ++ (10 ∷ xs)) (decimal (length fs) ++ (10 ∷ ys)) (sym (journal_parts shape es x) ∙ same ∙ journal_parts shape fs y) in
    let counts = number_split (length es) (length fs) (10 ∷ xs) (10 ∷ ys) small little refl refl inner in
    journal_rest stay names scenario few es fs x y p q counts.0 (others_are 10 10 xs ys counts.1)
