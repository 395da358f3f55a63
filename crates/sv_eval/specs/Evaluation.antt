-- What an action makes of the values that it reads.
use Rattle.std.specs.Prelude.{ℕ, ℤ, pos, int_lt, int_le, Bool, true, false, not, ◌&&◌, ◌||◌, List, [], ◌∷◌, map, slice_index_or, slice_set, Option, Some, None, option_map, option_and_then}
use Rattle.std.specs.Int.{int_min, int_max}
use Rattle.std.specs.Ordering.{int_eq}
use Rattle.sv_world.specs.Sets.{at_mask}
use Rattle.sv_world.specs.declared.action.Action.{Action}
use Rattle.sv_world.specs.declared.action.Expr.{Expr}
use Rattle.sv_world.specs.declared.action.Expr.TheOpen.{Expr-F}
use Rattle.sv_world.specs.declared.action.Expr.TheFolds.{fold-Expr}
use Rattle.sv_world.specs.declared.action.Cond.{Cond}
use Rattle.sv_world.specs.declared.action.Cond.TheOpen.{Cond-F}
use Rattle.sv_world.specs.declared.action.Cond.TheFolds.{fold-Cond}
use Rattle.sv_world.specs.declared.action.Stmt.{Stmt}
use Rattle.sv_world.specs.declared.action.Stmt.TheOpen.{Stmt-F}
use Rattle.sv_world.specs.declared.action.Stmt.TheFolds.{fold-Stmt}
use Rattle.sv_eval.specs.Numbers.{sum_of, difference_of, product_of, quotient_of, remainder_of}
use Rattle.sv_eval.specs.declared.effect.Effect.{Effect}

-- The values of an action's slots while it runs.
abbrev pub Slots : Type 0
Slots = List (List ℤ)

-- The number of an attribute in a slot, 0 where there is none.
abbrev pub attribute_in : Slots → ℕ → ℕ → ℤ
attribute_in slots slot attr = slice_index_or (slice_index_or slots slot []) attr (pos 0)

-- The slots with that number changed, where there is one.
abbrev pub with_number : Slots → ℕ → ℕ → ℤ → Slots
with_number slots slot attr n = slice_set slots slot (slice_set (slice_index_or slots slot []) attr n)

-- What two parts give together, which is void where one of them is.
abbrev pub both : {A B : Type 0} → (A → A → Option B) → Option A → Option A → Option B
both give None y = None
both give (Some x) None = None
both give (Some x) (Some y) = give x y

-- The number of an expression, none where it is void.
abbrev pub expr_step : Expr-F (Slots → Option ℤ) → Slots → Option ℤ
expr_step (Expr-F.Lit n) slots = Some n
expr_step (Expr-F.Attr slot attr) slots = Some (attribute_in slots slot attr)
expr_step (Expr-F.Add x y) slots = both sum_of (x slots) (y slots)
expr_step (Expr-F.Sub x y) slots = both difference_of (x slots) (y slots)
expr_step (Expr-F.Mul x y) slots = both product_of (x slots) (y slots)
expr_step (Expr-F.Div x y) slots = both quotient_of (x slots) (y slots)
expr_step (Expr-F.Rem x y) slots = both remainder_of (x slots) (y slots)
expr_step (Expr-F.Min x y) slots = both (λ m n. Some (int_min m n)) (x slots) (y slots)
expr_step (Expr-F.Max x y) slots = both (λ m n. Some (int_max m n)) (x slots) (y slots)

abbrev pub expr_number : Expr → Slots → Option ℤ
expr_number = fold-Expr (Slots → Option ℤ) expr_step

-- Whether a condition holds, none where it is void. Both parts are always evaluated.
abbrev pub cond_step : Cond-F (Slots → Option Bool) → Slots → Option Bool
cond_step (Cond-F.Eq x y) slots = both (λ m n. Some (int_eq m n)) (expr_number x slots) (expr_number y slots)
cond_step (Cond-F.Lt x y) slots = both (λ m n. Some (int_lt m n)) (expr_number x slots) (expr_number y slots)
cond_step (Cond-F.Le x y) slots = both (λ m n. Some (int_le m n)) (expr_number x slots) (expr_number y slots)
cond_step (Cond-F.And x y) slots = both (λ p q. Some (p && q)) (x slots) (y slots)
cond_step (Cond-F.Or x y) slots = both (λ p q. Some (p || q)) (x slots) (y slots)
cond_step (Cond-F.Not x) slots = option_map not (x slots)

abbrev pub cond_holds : Cond → Slots → Option Bool
cond_holds = fold-Cond (Slots → Option Bool) cond_step

-- One of two bodies, by a condition that may be void.
abbrev pub choose : Option Bool → Option Slots → Option Slots → Option Slots
choose None x y = None
choose (Some true) x y = x
choose (Some false) x y = y

-- Statements one after the other, up to the first that is void.
abbrev pub in_order : List (Slots → Option Slots) → Slots → Option Slots
in_order [] slots = Some slots
in_order (run ∷ runs) slots = option_and_then (in_order runs) (run slots)

-- The slots after a statement, none where it is void.
abbrev pub stmt_step : Stmt-F (Slots → Option Slots) → Slots → Option Slots
stmt_step (Stmt-F.Set slot attr expr) slots = option_map (with_number slots slot attr) (expr_number expr slots)
stmt_step (Stmt-F.If test xs ys) slots = choose (cond_holds test slots) (in_order xs slots) (in_order ys slots)

abbrev pub stmt_after : Stmt → Slots → Option Slots
stmt_after = fold-Stmt (Slots → Option Slots) stmt_step

-- The slots after a body, none where it is void.
abbrev pub body_after : List Stmt → Slots → Option Slots
body_after body = in_order (map stmt_after body)

-- The written values: those after the body, or those before it where the body is void.
abbrev pub effect_by : ℕ → Slots → Option Slots → Effect
effect_by mask values None = record { void = true; writes = at_mask mask 0 values }
effect_by mask values (Some slots) = record { void = false; writes = at_mask mask 0 slots }

-- The result of an action on the values of its reads.
unfoldable pub effect_of : Action → List (List ℤ) → Effect
effect_of a values = effect_by a.mask values (body_after a.body values)
