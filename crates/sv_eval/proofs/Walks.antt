-- What each node makes of its parts.
use Rattle.std.proofs.Common.{◌≡◌, ℕ, suc, ℤ, Bool, true, not, List, [], ◌∷◌, drop, Option, Some, None, refl, sym, ap, ◌∙◌, subst}
use Rattle.std.specs.Prelude.{option_map, option_and_then}
use Rattle.sv_world.specs.declared.action.Expr.{Expr}
use Rattle.sv_world.specs.declared.action.Expr.TheVariants as expr
use Rattle.sv_world.specs.declared.node.Operator.{Operator}
use Rattle.sv_world.specs.declared.node.Operator.TheVariants.{Add, Sub, Mul, Div, Rem, Min, Max}
use Rattle.sv_world.specs.declared.node.Comparison.{Comparison}
use Rattle.sv_world.specs.declared.node.Comparison.TheVariants.{Eq, Lt, Le}
use Rattle.sv_world.specs.declared.node.Connective.{Connective}
use Rattle.sv_world.specs.declared.node.Connective.TheVariants.{And, Or}
use Rattle.sv_world.specs.Parts.{Part, Expression, Condition, Statement, Block, first, block, binary, comparison, connective, negated, assignment, choice, with_statement, is_stmt, is_block}
use Rattle.sv_world.proofs.Layers.{binary_layer, compare_layer, join_layer, lit_fold, attr_fold, binary_fold, compare_fold, join_fold, not_fold, set_fold, if_fold}
use Rattle.sv_world.proofs.Sorted.{binary_exprs, compare_exprs, join_conds, not_cond, set_expr, if_parts, more_parts, first_kind}
use Rattle.sv_eval.specs.Evaluation.{Slots, attribute_in, with_number, both, expr_step, expr_number, cond_step, cond_holds, choose, stmt_step}
use Rattle.sv_eval.specs.Walks.{combined, compared, connected, part_number, part_holds, part_after, block_after}

both_none_is : {A B : Type 0} (give : A → A → Option B) (x : Option A) → None ≡ both give x None
both_none_is give None = refl
both_none_is give (Some x) = refl

-- ---- expressions

pub lit_number : (n : ℤ) (slots : Slots) → part_number (Expression (expr.Lit n)) slots ≡ Some n
lit_number n slots = ap (λ (f : Slots → Option ℤ). f slots) (lit_fold (Slots → Option ℤ) expr_step n)

pub attr_number : (slot attr : ℕ) (slots : Slots) → part_number (Expression (expr.Attr slot attr)) slots ≡ Some (attribute_in slots slot attr)
attr_number slot attr slots = ap (λ (f : Slots → Option ℤ). f slots) (attr_fold (Slots → Option ℤ) expr_step slot attr)

binary_step : (o : Operator) (f g : Slots → Option ℤ) (slots : Slots) → expr_step (binary_layer o f g) slots ≡ both (combined o) (f slots) (g slots)
binary_step Add f g slots = refl
binary_step Sub f g slots = refl
binary_step Mul f g slots = refl
binary_step Div f g slots = refl
binary_step Rem f g slots = refl
binary_step Min f g slots = refl
binary_step Max f g slots = refl

pub binary_number : (o : Operator) (p q : Part) (slots : Slots) → part_number (binary o p q) slots ≡ both (combined o) (part_number p slots) (part_number q slots)
binary_number o (Expression a) (Expression b) slots =
    ap (λ (f : Slots → Option ℤ). f slots) (binary_fold (Slots → Option ℤ) expr_step o a b) ∙ binary_step o (expr_number a) (expr_number b) slots
binary_number o (Expression a) q slots = both_none_is (combined o) (expr_number a slots)
binary_number o p q slots = refl

-- ---- conditions

compare_step : (o : Comparison) (a b : Expr) (slots : Slots) → cond_step (compare_layer o a b) slots ≡ both (λ m n. Some (compared o m n)) (expr_number a slots) (expr_number b slots)
compare_step Eq a b slots = refl
compare_step Lt a b slots = refl
compare_step Le a b slots = refl

pub compare_holds : (o : Comparison) (p q : Part) (slots : Slots) → part_holds (comparison o p q) slots ≡ both (λ m n. Some (compared o m n)) (part_number p slots) (part_number q slots)
compare_holds o (Expression a) (Expression b) slots =
    ap (λ (f : Slots → Option Bool). f slots) (compare_fold (Slots → Option Bool) cond_step o a b) ∙ compare_step o a b slots
compare_holds o (Expression a) q slots = both_none_is (λ m n. Some (compared o m n)) (expr_number a slots)
compare_holds o p q slots = refl

join_step : (o : Connective) (f g : Slots → Option Bool) (slots : Slots) → cond_step (join_layer o f g) slots ≡ both (λ x y. Some (connected o x y)) (f slots) (g slots)
join_step And f g slots = refl
join_step Or f g slots = refl

pub join_holds : (o : Connective) (p q : Part) (slots : Slots) → part_holds (connective o p q) slots ≡ both (λ x y. Some (connected o x y)) (part_holds p slots) (part_holds q slots)
join_holds o (Condition a) (Condition b) slots =
    ap (λ (f : Slots → Option Bool). f slots) (join_fold (Slots → Option Bool) cond_step o a b) ∙ join_step o (cond_holds a) (cond_holds b) slots
join_holds o (Condition a) q slots = both_none_is (λ x y. Some (connected o x y)) (cond_holds a slots)
join_holds o p q slots = refl

pub not_holds : (p : Part) (slots : Slots) → part_holds (negated p) slots ≡ option_map not (part_holds p slots)
not_holds (Condition a) slots = ap (λ (f : Slots → Option Bool). f slots) (not_fold (Slots → Option Bool) cond_step a)
not_holds p slots = refl

-- ---- statements

pub set_after : (slot attr : ℕ) (p : Part) (slots : Slots) → part_after (assignment slot attr p) slots ≡ option_map (with_number slots slot attr) (part_number p slots)
set_after slot attr (Expression a) slots = ap (λ (f : Slots → Option Slots). f slots) (set_fold (Slots → Option Slots) stmt_step slot attr a)
set_after slot attr p slots = refl

pub if_after : (p q r : Part) (slots : Slots) → is_stmt (choice p q r) ≡ true
    → part_after (choice p q r) slots ≡ choose (part_holds p slots) (block_after q slots) (block_after r slots)
if_after (Condition c) (Block xs) (Block ys) slots e = ap (λ (f : Slots → Option Slots). f slots) (if_fold (Slots → Option Slots) stmt_step c xs ys)
if_after p q r slots e = cc

pub more_after : (p b : Part) (slots : Slots) → is_block (with_statement p b) ≡ true
    → block_after (with_statement p b) slots ≡ option_and_then (block_after b) (part_after p slots)
more_after (Statement s) (Block xs) slots e = refl
more_after p b slots e = absurd (cc)

-- ---- one more statement of a block

pub next_gives : (n m : ℕ) (ps qs : List Part) (slots after : Slots) → n ≡ suc m → qs ≡ drop 1 ps → is_block (block n ps) ≡ true → part_after (first ps) slots ≡ Some after
    → block_after (block m qs) after ≡ block_after (block n ps) slots
next_gives n m [] qs slots after e f k g = absurd (cc)
next_gives n m (p ∷ ps) qs slots after e f k g =
    let whole : is_block (block (suc m) (p ∷ ps)) ≡ true = subst (λ (i : ℕ). is_block (block i (p ∷ ps)) ≡ true) e k in
    ap (λ (rs : List Part). block_after (block m rs) after) f
    ∙ sym (more_after p (block m ps) slots whole ∙ ap (option_and_then (block_after (block m ps))) g)
    ∙ ap (λ (i : ℕ). block_after (block i (p ∷ ps)) slots) (sym e)

pub ruleset exprs = (lit_number, attr_number, binary_number, binary_exprs)

pub ruleset conds = (compare_holds, join_holds, not_holds, compare_exprs, join_conds, not_cond)

pub ruleset stmts = (set_after, if_after, set_expr, if_parts)

pub ruleset blocks = (more_after, more_parts, first_kind)
