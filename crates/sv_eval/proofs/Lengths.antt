-- A body changes neither how many values there are nor how many numbers each has.
use Rattle.std.proofs.Common.{◌≡◌, ℕ, zero, suc, Bool, true, false, List, [], ◌∷◌, length, map, get_or, set, ℤ, Option, Some, None, refl, ap, sym, ◌∙◌, subst, arith, length-set}
use Rattle.std.specs.Prelude.{All, IfSome, option_map, option_and_then}
use Rattle.sv_eval.specs.Evaluation.{Slots, with_number, expr_number, cond_holds, choose, in_order, stmt_step, stmt_after, body_after}
use Rattle.sv_world.specs.declared.action.Stmt.{Stmt, map-Stmt}
use Rattle.sv_world.specs.declared.action.Stmt.TheOpen.{Stmt-F}
use Rattle.sv_world.specs.declared.action.Stmt.TheViews.{roll-Stmt}
use Rattle.sv_world.specs.declared.action.Stmt.TheFolds.{fold-roll-Stmt, ind-Stmt}

-- How many numbers each value has.
abbrev pub lengths : Slots → List ℕ
lengths slots = map (λ value. length value) slots

-- A function from slots to slots keeps the lengths, where it is not void.
abbrev pub Keeps : (Slots → Option Slots) → Type 0
Keeps run = (slots : Slots) → IfSome (run slots) (λ after. lengths after ≡ lengths slots)

lengths_set : (slots : Slots) (k : ℕ) (value : List ℤ) → length value ≡ length (get_or slots k []) → lengths (set slots k value) ≡ lengths slots
lengths_set [] k value e = refl
lengths_set (v ∷ vs) zero value e = ap (λ n. n ∷ lengths vs) e
lengths_set (v ∷ vs) (suc k) value e = ap (λ ns. length v ∷ ns) (lengths_set vs k value e)

with_number_keeps : (slots : Slots) (slot attr : ℕ) (n : ℤ) → lengths (with_number slots slot attr n) ≡ lengths slots
with_number_keeps slots slot attr n =
    lengths_set slots slot (set (get_or slots slot []) attr n) (length-set (get_or slots slot []) attr n)

set_keeps : (slot attr : ℕ) (number : Option ℤ) (slots : Slots) → IfSome (option_map (with_number slots slot attr) number) (λ after. lengths after ≡ lengths slots)
set_keeps slot attr None slots = tt
set_keeps slot attr (Some n) slots = with_number_keeps slots slot attr n

choose_keeps : (holds : Option Bool) (x y : Option Slots) (slots : Slots) → IfSome x (λ after. lengths after ≡ lengths slots)
    → IfSome y (λ after. lengths after ≡ lengths slots) → IfSome (choose holds x y) (λ after. lengths after ≡ lengths slots)
choose_keeps None x y slots p q = tt
choose_keeps (Some true) x y slots p q = p
choose_keeps (Some false) x y slots p q = q

follow : (end : Option Slots) (x y : Slots) → lengths x ≡ lengths y → IfSome end (λ after. lengths after ≡ lengths x) → IfSome end (λ after. lengths after ≡ lengths y)
follow None x y e h = tt
follow (Some after) x y e h = h ∙ e

and_then_keeps : (run : Slots → Option Slots) → Keeps run → (middle : Option Slots) (slots : Slots) → IfSome middle (λ after. lengths after ≡ lengths slots)
    → IfSome (option_and_then run middle) (λ after. lengths after ≡ lengths slots)
and_then_keeps run keeps None slots h = tt
and_then_keeps run keeps (Some middle) slots h = follow (run middle) middle slots h (keeps middle)

runs_keep : {Z : Type 0} (p : Z → Stmt) → ((z : Z) → Keeps (stmt_after (p z))) → (zs : List Z) → Keeps (in_order (map stmt_after (map p zs)))
runs_keep p each [] slots = refl
runs_keep p each (z ∷ zs) slots =
    and_then_keeps (in_order (map stmt_after (map p zs))) (runs_keep p each zs) (stmt_after (p z) slots) slots (each z slots)

abbrev KeepsAt : Stmt → Type 0
KeepsAt s = Keeps (stmt_after s)

roll_keeps : {Z : Type 0} (p : Z → Stmt) → ((z : Z) → KeepsAt (p z)) → (y : Stmt-F Z) → KeepsAt (roll-Stmt (map-Stmt Z Stmt p y))
roll_keeps p each (Stmt-F.Set slot attr expr) =
    subst Keeps (sym (fold-roll-Stmt (Slots → Option Slots) stmt_step (Stmt-F.Set slot attr expr)))
    (λ slots. set_keeps slot attr (expr_number expr slots) slots)
roll_keeps p each (Stmt-F.If test xs ys) =
    subst Keeps (sym (fold-roll-Stmt (Slots → Option Slots) stmt_step (Stmt-F.If test (map p xs) (map p ys))))
    (λ slots. choose_keeps (cond_holds test slots) (in_order (map stmt_after (map p xs)) slots) (in_order (map stmt_after (map p ys)) slots) slots
    (runs_keep p each xs slots) (runs_keep p each ys slots))

stmt_keeps : (s : Stmt) → KeepsAt s
stmt_keeps = ind-Stmt KeepsAt (λ x y is. subst (λ (z : Stmt-F Stmt). KeepsAt (roll-Stmt z)) is (roll_keeps (λ e. e.0) (λ e. e.1) y))

pub body_keeps : (body : List Stmt) → Keeps (body_after body)
body_keeps [] slots = refl
body_keeps (s ∷ body) slots =
    and_then_keeps (body_after body) (body_keeps body) (stmt_after s slots) slots (stmt_keeps s slots)

-- Values of equal lengths are as many, and all of a length where the others are.
pub same_count : (xs ys : Slots) → lengths ys ≡ lengths xs → length ys ≡ length xs
same_count [] [] e = refl
same_count [] (y ∷ ys) e = cc
same_count (x ∷ xs) [] e = cc
same_count (x ∷ xs) (y ∷ ys) e =
    let rest : lengths ys ≡ lengths xs = cc in ap suc (same_count xs ys rest)

pub same_shape : (attrs : ℕ) (xs ys : Slots) → lengths ys ≡ lengths xs → All (λ value. length value ≡ attrs) xs → All (λ value. length value ≡ attrs) ys
same_shape attrs xs [] e h k d lt = absurd (omega arith)
same_shape attrs [] (y ∷ ys) e h k d lt = cc
same_shape attrs (x ∷ xs) (y ∷ ys) e h zero d lt =
    let first : length y ≡ length x = cc in first ∙ h 0 x (omega arith)
same_shape attrs (x ∷ xs) (y ∷ ys) e h (suc k) d lt =
    let rest : lengths ys ≡ lengths xs = cc in
    same_shape attrs xs ys rest (λ i b less. h (suc i) b (omega arith)) k d (omega arith)
