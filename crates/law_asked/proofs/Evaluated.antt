-- An evaluation gives numbers of 64 bits, where the numbers that it is given are.
use Rattle.std.proofs.Common.{◌≡◌, ℕ, zero, suc, ◌+◌, ◌^◌, ◌<◌, ◌≤◌, Bool, true, false, cond, ◌&&◌, List, [], ◌∷◌, map, get_or, set, ℤ, pos, negsuc, Option, Some, None, refl, sym, subst, ◌∙◌, arith, FitsSigned}
use Rattle.std.specs.Prelude.{IfSome, option_map, option_and_then, nat_lt, ◌+ℤ◌, ◌-ℤ◌, ◌*ℤ◌, int_lt, int_le, int_div, int_rem, unsigned_abs}
use Rattle.std.specs.List.{AllByRecursion}
use Rattle.std.specs.Int.{w64, int_min, int_max}
use Rattle.std.proofs.lemmas.Bool.{leb-true, and_parts}
use Rattle.std.proofs.lemmas.Int.{fits_signed_from_abs, rem_below}
use Rattle.sv_world.specs.Sets.{is_in_mask, at_mask}
use Rattle.sv_world.specs.Trees.{all_true}
use Rattle.sv_world.specs.declared.action.Action.{Action}
use Rattle.sv_world.specs.declared.action.Expr.{Expr, map-Expr}
use Rattle.sv_world.specs.declared.action.Expr.TheOpen.{Expr-F}
use Rattle.sv_world.specs.declared.action.Expr.TheViews.{roll-Expr}
use Rattle.sv_world.specs.declared.action.Expr.TheFolds.{fold-roll-Expr, ind-Expr}
use Rattle.sv_world.specs.declared.action.Stmt.{Stmt, map-Stmt}
use Rattle.sv_world.specs.declared.action.Stmt.TheOpen.{Stmt-F}
use Rattle.sv_world.specs.declared.action.Stmt.TheViews.{roll-Stmt}
use Rattle.sv_world.specs.declared.action.Stmt.TheFolds.{fold-roll-Stmt, ind-Stmt}
use Rattle.sv_eval.specs.Numbers.{in_i64, sum_of, difference_of, product_of, quotient_of, remainder_of}
use Rattle.sv_eval.specs.Evaluation.{Slots, attribute_in, with_number, both, expr_step, expr_number, cond_holds, choose, in_order, stmt_step, stmt_after, body_after, effect_by, effect_of}
use Rattle.sv_world.specs.Ranges.{is_i64, is_zero, expr_fits_step, expr_fits, cond_fits, stmt_fits_step, stmt_fits}
use Rattle.sv_wire.specs.Ranges.{ValueFits}
use Rattle.law_system.proofs.Every.{each-get}

-- ---- Numbers

abbrev pub IsNumber : ℤ → Type 0
IsNumber z = FitsSigned w64 z

abbrev pub IsNumberIfAny : Option ℤ → Type 0
IsNumberIfAny o = IfSome o IsNumber

pub is_number : (z : ℤ) → is_i64 z ≡ true → IsNumber z
is_number (pos n) e = record { sfits = omega (arith, leb-true n 9223372036854775807 e) }
is_number (negsuc n) e =
    record {
      sfits = omega (arith, leb-true n 9223372036854775807 (and_parts (int_le (negsuc 9223372036854775807) (negsuc n)) (int_le (negsuc n) (pos 9223372036854775807)) e).0);
    }

in_range : (z : ℤ) → IsNumberIfAny (in_i64 z)
in_range z = go (is_i64 z) refl
  where
    go : (b : Bool) → is_i64 z ≡ b → IsNumberIfAny (cond b (Some z) None)
    go true e = is_number z e
    go false e = tt

-- one of two numbers
chosen : (b : Bool) (x y : ℤ) → IsNumber x → IsNumber y → IsNumber (cond b x y)
chosen true x y p q = p
chosen false x y p q = q

unless : (b : Bool) (o : Option ℤ) → IsNumberIfAny o → IsNumberIfAny (cond b None o)
unless true o h = tt
unless false o h = h

abs_within : (z : ℤ) → IsNumber z → unsigned_abs z ≤ 2 ^ 63
abs_within (pos n) h = omega (arith, h.sfits)
abs_within (negsuc n) h = omega (arith, h.sfits)

not_zero : (z : ℤ) → is_zero z ≡ false → 0 < unsigned_abs z
not_zero (pos zero) e = cc
not_zero (pos (suc n)) e = omega arith
not_zero (negsuc n) e = omega arith

remainder_fits : (x y : ℤ) → IsNumber y → IsNumberIfAny (remainder_of x y)
remainder_fits x y h = go (is_zero y) refl (is_i64 (int_div x y))
  where
    go : (b : Bool) → is_zero y ≡ b → (c : Bool) → IsNumberIfAny (cond b None (cond c (Some (int_rem x y)) None))
    go true e c = tt
    go false e false = tt
    go false e true =
        let below = rem_below x y (not_zero y e) in
        let within = abs_within y h in
        fits_signed_from_abs w64 (int_rem x y) (omega (arith, below, within))

-- What two numbers give together is a number, if anything.
abbrev Gives : (ℤ → ℤ → Option ℤ) → Type 0
Gives give = (x y : ℤ) → IsNumber x → IsNumber y → IsNumberIfAny (give x y)

both_fit : (give : ℤ → ℤ → Option ℤ) → Gives give → (x y : Option ℤ) → IsNumberIfAny x → IsNumberIfAny y → IsNumberIfAny (both give x y)
both_fit give gives None y p q = tt
both_fit give gives (Some x) None p q = tt
both_fit give gives (Some x) (Some y) p q = gives x y p q

-- ---- Slots

abbrev pub AreNumbers : Slots → Type 0
AreNumbers slots = AllByRecursion ValueFits slots

pub all_set : {A : Type 0} (P : A → Type 0) (xs : List A) (k : ℕ) (y : A) → AllByRecursion P xs → P y → AllByRecursion P (set xs k y)
all_set P [] k y all h = tt
all_set P (x ∷ xs) zero y all h = (h, all.1)
all_set P (x ∷ xs) (suc k) y all h = (all.0, all_set P xs k y all.1 h)

zero_fits : IsNumber (pos 0)
zero_fits = fits_signed_from_abs w64 (pos 0) (omega arith)

number_fits : (slots : Slots) (slot attr : ℕ) → AreNumbers slots → IsNumber (attribute_in slots slot attr)
number_fits slots slot attr all = each-get IsNumber (get_or slots slot []) attr (pos 0) (each-get ValueFits slots slot [] all tt) zero_fits

with_number_fits : (slots : Slots) (slot attr : ℕ) (n : ℤ) → AreNumbers slots → IsNumber n → AreNumbers (with_number slots slot attr n)
with_number_fits slots slot attr n all h =
    all_set ValueFits slots slot (set (get_or slots slot []) attr n) all (all_set IsNumber (get_or slots slot []) attr n (each-get ValueFits slots slot [] all tt) h)

-- ---- Expressions

abbrev pub ExprGives : Expr → Type 0
ExprGives e = expr_fits e ≡ true → (slots : Slots) → AreNumbers slots → IsNumberIfAny (expr_number e slots)

pair_gives : (give : ℤ → ℤ → Option ℤ) → Gives give → (e a b : Expr) → ExprGives a → ExprGives b → expr_fits e ≡ (expr_fits a && expr_fits b) →
    expr_number e ≡ (λ slots. both give (expr_number a slots) (expr_number b slots)) → ExprGives e
pair_gives give gives e a b p q fits number h slots all =
    let parts = and_parts (expr_fits a) (expr_fits b) (sym fits ∙ h) in
    subst (λ (f : Slots → Option ℤ). IsNumberIfAny (f slots)) (sym number) (both_fit give gives (expr_number a slots) (expr_number b slots) (p parts.0 slots all) (q parts.1 slots all))

expr_layer : {Z : Type 0} (p : Z → Expr) → ((z : Z) → ExprGives (p z)) → (y : Expr-F Z) → ExprGives (roll-Expr (map-Expr Z Expr p y))
expr_layer p each (Expr-F.Lit n) h slots all =
    subst (λ (f : Slots → Option ℤ). IsNumberIfAny (f slots)) (sym (fold-roll-Expr (Slots → Option ℤ) expr_step (Expr-F.Lit n))) (is_number n (sym (fold-roll-Expr Bool expr_fits_step (Expr-F.Lit n)) ∙ h))
expr_layer p each (Expr-F.Attr slot attr) h slots all =
    subst (λ (f : Slots → Option ℤ). IsNumberIfAny (f slots)) (sym (fold-roll-Expr (Slots → Option ℤ) expr_step (Expr-F.Attr slot attr))) (number_fits slots slot attr all)
expr_layer p each (Expr-F.Add x y) h slots all =
    pair_gives sum_of (λ m n f g. in_range (m +ℤ n)) (roll-Expr (Expr-F.Add (p x) (p y))) (p x) (p y) (each x) (each y) (fold-roll-Expr Bool expr_fits_step (Expr-F.Add (p x) (p y))) (fold-roll-Expr (Slots → Option ℤ) expr_step (Expr-F.Add (p x) (p y))) h slots all
expr_layer p each (Expr-F.Sub x y) h slots all =
    pair_gives difference_of (λ m n f g. in_range (m -ℤ n)) (roll-Expr (Expr-F.Sub (p x) (p y))) (p x) (p y) (each x) (each y) (fold-roll-Expr Bool expr_fits_step (Expr-F.Sub (p x) (p y))) (fold-roll-Expr (Slots → Option ℤ) expr_step (Expr-F.Sub (p x) (p y))) h slots all
expr_layer p each (Expr-F.Mul x y) h slots all =
    pair_gives product_of (λ m n f g. in_range (m *ℤ n)) (roll-Expr (Expr-F.Mul (p x) (p y))) (p x) (p y) (each x) (each y) (fold-roll-Expr Bool expr_fits_step (Expr-F.Mul (p x) (p y))) (fold-roll-Expr (Slots → Option ℤ) expr_step (Expr-F.Mul (p x) (p y))) h slots all
expr_layer p each (Expr-F.Div x y) h slots all =
    pair_gives quotient_of (λ m n f g. unless (is_zero n) (in_i64 (int_div m n)) (in_range (int_div m n))) (roll-Expr (Expr-F.Div (p x) (p y))) (p x) (p y) (each x) (each y) (fold-roll-Expr Bool expr_fits_step (Expr-F.Div (p x) (p y))) (fold-roll-Expr (Slots → Option ℤ) expr_step (Expr-F.Div (p x) (p y))) h slots all
expr_layer p each (Expr-F.Rem x y) h slots all =
    pair_gives remainder_of (λ m n f g. remainder_fits m n g) (roll-Expr (Expr-F.Rem (p x) (p y))) (p x) (p y) (each x) (each y) (fold-roll-Expr Bool expr_fits_step (Expr-F.Rem (p x) (p y))) (fold-roll-Expr (Slots → Option ℤ) expr_step (Expr-F.Rem (p x) (p y))) h slots all
expr_layer p each (Expr-F.Min x y) h slots all =
    pair_gives (λ m n. Some (int_min m n)) (λ m n f g. chosen (int_lt n m) n m g f) (roll-Expr (Expr-F.Min (p x) (p y))) (p x) (p y) (each x) (each y) (fold-roll-Expr Bool expr_fits_step (Expr-F.Min (p x) (p y))) (fold-roll-Expr (Slots → Option ℤ) expr_step (Expr-F.Min (p x) (p y))) h slots all
expr_layer p each (Expr-F.Max x y) h slots all =
    pair_gives (λ m n. Some (int_max m n)) (λ m n f g. chosen (int_lt n m) m n f g) (roll-Expr (Expr-F.Max (p x) (p y))) (p x) (p y) (each x) (each y) (fold-roll-Expr Bool expr_fits_step (Expr-F.Max (p x) (p y))) (fold-roll-Expr (Slots → Option ℤ) expr_step (Expr-F.Max (p x) (p y))) h slots all

expr_gives : (e : Expr) → ExprGives e
expr_gives = ind-Expr ExprGives (λ x y is. subst (λ (z : Expr-F Expr). ExprGives (roll-Expr z)) is (expr_layer (λ e. e.0) (λ e. e.1) y))

-- ---- Statements

abbrev AreNumbersIfAny : Option Slots → Type 0
AreNumbersIfAny o = IfSome o AreNumbers

abbrev Keeps : (Slots → Option Slots) → Type 0
Keeps run = (slots : Slots) → AreNumbers slots → AreNumbersIfAny (run slots)

set_fits : (slot attr : ℕ) (number : Option ℤ) (slots : Slots) → IsNumberIfAny number → AreNumbers slots → AreNumbersIfAny (option_map (with_number slots slot attr) number)
set_fits slot attr None slots h all = tt
set_fits slot attr (Some n) slots h all = with_number_fits slots slot attr n all h

choose_fits : (holds : Option Bool) (x y : Option Slots) → AreNumbersIfAny x → AreNumbersIfAny y → AreNumbersIfAny (choose holds x y)
choose_fits None x y p q = tt
choose_fits (Some true) x y p q = p
choose_fits (Some false) x y p q = q

and_then_fits : (run : Slots → Option Slots) → Keeps run → (middle : Option Slots) → AreNumbersIfAny middle → AreNumbersIfAny (option_and_then run middle)
and_then_fits run keeps None h = tt
and_then_fits run keeps (Some middle) h = keeps middle h

abbrev StmtKeeps : Stmt → Type 0
StmtKeeps s = stmt_fits s ≡ true → Keeps (stmt_after s)

runs_keep : {Z : Type 0} (p : Z → Stmt) → ((z : Z) → StmtKeeps (p z)) → (zs : List Z) → all_true (map stmt_fits (map p zs)) ≡ true → Keeps (in_order (map stmt_after (map p zs)))
runs_keep p each [] h slots all = all
runs_keep p each (z ∷ zs) h slots all =
    let parts = and_parts (stmt_fits (p z)) (all_true (map stmt_fits (map p zs))) h in
    and_then_fits (in_order (map stmt_after (map p zs))) (runs_keep p each zs parts.1) (stmt_after (p z) slots) (each z parts.0 slots all)

stmt_layer : {Z : Type 0} (p : Z → Stmt) → ((z : Z) → StmtKeeps (p z)) → (y : Stmt-F Z) → StmtKeeps (roll-Stmt (map-Stmt Z Stmt p y))
stmt_layer p each (Stmt-F.Set slot attr expr) h slots all =
    let parts = and_parts (nat_lt slot 256) (nat_lt attr 256 && expr_fits expr) (sym (fold-roll-Stmt Bool stmt_fits_step (Stmt-F.Set slot attr expr)) ∙ h) in
    let last = and_parts (nat_lt attr 256) (expr_fits expr) parts.1 in
    subst (λ (f : Slots → Option Slots). AreNumbersIfAny (f slots)) (sym (fold-roll-Stmt (Slots → Option Slots) stmt_step (Stmt-F.Set slot attr expr)))
    (set_fits slot attr (expr_number expr slots) slots (expr_gives expr last.1 slots all) all)
stmt_layer p each (Stmt-F.If test xs ys) h slots all =
    let shown = sym (fold-roll-Stmt Bool stmt_fits_step (Stmt-F.If test (map p xs) (map p ys))) ∙ h in
    let parts = and_parts (cond_fits test) (all_true (map stmt_fits (map p xs)) && all_true (map stmt_fits (map p ys))) shown in
    let bodies = and_parts (all_true (map stmt_fits (map p xs))) (all_true (map stmt_fits (map p ys))) parts.1 in
    subst (λ (f : Slots → Option Slots). AreNumbersIfAny (f slots)) (sym (fold-roll-Stmt (Slots → Option Slots) stmt_step (Stmt-F.If test (map p xs) (map p ys))))
    (choose_fits (cond_holds test slots) (in_order (map stmt_after (map p xs)) slots) (in_order (map stmt_after (map p ys)) slots)
    (runs_keep p each xs bodies.0 slots all) (runs_keep p each ys bodies.1 slots all))

stmt_keeps : (s : Stmt) → StmtKeeps s
stmt_keeps = ind-Stmt StmtKeeps (λ x y is. subst (λ (z : Stmt-F Stmt). StmtKeeps (roll-Stmt z)) is (stmt_layer (λ e. e.0) (λ e. e.1) y))

body_keeps : (body : List Stmt) → all_true (map stmt_fits body) ≡ true → Keeps (body_after body)
body_keeps [] h slots all = all
body_keeps (s ∷ body) h slots all =
    let parts = and_parts (stmt_fits s) (all_true (map stmt_fits body)) h in
    and_then_fits (body_after body) (body_keeps body parts.1) (stmt_after s slots) (stmt_keeps s parts.0 slots all)

-- ---- Outcomes

pub mask_fits : {A : Type 0} (P : A → Type 0) (mask k : ℕ) (xs : List A) → AllByRecursion P xs → AllByRecursion P (at_mask mask k xs)
mask_fits P mask k [] all = tt
mask_fits P mask k (x ∷ xs) all = go (is_in_mask mask k) (mask_fits P mask (k + 1) xs all.1)
  where
    go : (b : Bool) → AllByRecursion P (at_mask mask (k + 1) xs) → AllByRecursion P (cond b (x ∷ at_mask mask (k + 1) xs) (at_mask mask (k + 1) xs))
    go true rest = (all.0, rest)
    go false rest = rest

outcome_fits_by : (mask : ℕ) (values : Slots) (after : Option Slots) → AreNumbers values → AreNumbersIfAny after → AreNumbers (effect_by mask values after).writes
outcome_fits_by mask values None all h = mask_fits ValueFits mask 0 values all
outcome_fits_by mask values (Some slots) all h = mask_fits ValueFits mask 0 slots h

-- The result of an action has numbers of 64 bits.
pub outcome_fits : (a : Action) (values : Slots) → all_true (map stmt_fits a.body) ≡ true → AreNumbers values → AreNumbers (effect_of a values).writes
unfolding effect_of
outcome_fits a values h all = outcome_fits_by a.mask values (body_after a.body values) all (body_keeps a.body h values all)
