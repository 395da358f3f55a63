-- The measures and tests of what a node makes of its parts.
use Rattle.std.proofs.Common.{◌≡◌, ℕ, zero, suc, ◌+◌, ◌≤◌, max, Bool, true, false, ◌&&◌, List, [], ◌∷◌, map, drop, refl, ap, sym, ◌∙◌, subst, arith}
use Rattle.std.proofs.lemmas.List.Sums.{sum_by-cons}
use Rattle.sv_world.specs.declared.action.Expr.TheVariants as expr
use Rattle.sv_world.specs.declared.node.Operator.{Operator}
use Rattle.sv_world.specs.declared.node.Comparison.{Comparison}
use Rattle.sv_world.specs.declared.node.Connective.{Connective}
use Rattle.sv_world.specs.declared.fits.Limits.{Limits}
use Rattle.sv_world.specs.Parts.{Part, Expression, Condition, Statement, Block, first, binary, comparison, connective, negated, assignment, choice, with_statement, block, is_expr, is_cond, is_stmt, is_block}
use Rattle.sv_world.specs.PartTrees.{part_nodes, part_depth, part_passes, may_set, may_get, fits}
use Rattle.sv_world.specs.Trees.{expr_by as expr_value, cond_by as cond_value, expr_nodes, cond_nodes, stmt_nodes_step, stmt_nodes, expr_depth, cond_depth, stmt_depth_step, expr_passes, cond_passes, stmt_passes_step}
use Rattle.sv_world.proofs.Layers.{lit_fold, attr_fold, binary_fold, compare_fold, join_fold, not_fold, set_fold, if_fold}
use Rattle.sv_world.proofs.Sorted.{more_parts, next_kind, next_behind, first_kind, binary_exprs, compare_exprs, join_conds, not_cond, set_expr, if_parts}
use Rattle.sv_world.proofs.TreeMeasures.{value_layer, compare_value, join_value}

-- ---- how many nodes

pub lit_nodes : (n : _) → part_nodes (Expression (expr.Lit n)) ≡ 1
lit_nodes n = lit_fold ℕ (expr_value 1 (λ _ _. 1) (λ x y. 1 + x + y)) n

pub attr_nodes : (slot attr : ℕ) → part_nodes (Expression (expr.Attr slot attr)) ≡ 1
attr_nodes slot attr = attr_fold ℕ (expr_value 1 (λ _ _. 1) (λ x y. 1 + x + y)) slot attr

pub binary_nodes : (o : Operator) (p q : Part) → is_expr (binary o p q) ≡ true → part_nodes (binary o p q) ≡ 1 + part_nodes p + part_nodes q
binary_nodes o (Expression a) (Expression b) e =
    binary_fold ℕ (expr_value 1 (λ _ _. 1) (λ x y. 1 + x + y)) o a b ∙ value_layer 1 (λ _ _. 1) (λ x y. 1 + x + y) o (expr_nodes a) (expr_nodes b)
binary_nodes o p q e = absurd (cc)

pub compare_nodes : (o : Comparison) (p q : Part) → is_cond (comparison o p q) ≡ true → part_nodes (comparison o p q) ≡ 1 + part_nodes p + part_nodes q
compare_nodes o (Expression a) (Expression b) e =
    compare_fold ℕ (cond_value expr_nodes (λ x y. 1 + x + y) (λ x. 1 + x)) o a b ∙ compare_value expr_nodes (λ x y. 1 + x + y) (λ x. 1 + x) o a b
compare_nodes o p q e = absurd (cc)

pub join_nodes : (o : Connective) (p q : Part) → is_cond (connective o p q) ≡ true → part_nodes (connective o p q) ≡ 1 + part_nodes p + part_nodes q
join_nodes o (Condition a) (Condition b) e =
    join_fold ℕ (cond_value expr_nodes (λ x y. 1 + x + y) (λ x. 1 + x)) o a b ∙ join_value expr_nodes (λ x y. 1 + x + y) (λ x. 1 + x) o (cond_nodes a) (cond_nodes b)
join_nodes o p q e = absurd (cc)

pub not_nodes : (p : Part) → is_cond (negated p) ≡ true → part_nodes (negated p) ≡ 1 + part_nodes p
not_nodes (Condition a) e = not_fold ℕ (cond_value expr_nodes (λ x y. 1 + x + y) (λ x. 1 + x)) a
not_nodes p e = absurd (cc)

pub set_nodes : (slot attr : ℕ) (p : Part) → is_stmt (assignment slot attr p) ≡ true → part_nodes (assignment slot attr p) ≡ 1 + part_nodes p
set_nodes slot attr (Expression a) e = set_fold ℕ stmt_nodes_step slot attr a
set_nodes slot attr p e = absurd (cc)

pub if_nodes : (p q r : Part) → is_stmt (choice p q r) ≡ true → part_nodes (choice p q r) ≡ 1 + part_nodes p + part_nodes q + part_nodes r
if_nodes (Condition c) (Block xs) (Block ys) e = if_fold ℕ stmt_nodes_step c xs ys
if_nodes p q r e = absurd (cc)

pub more_nodes : (p b : Part) → is_block (with_statement p b) ≡ true → part_nodes (with_statement p b) ≡ part_nodes p + part_nodes b
more_nodes (Statement s) (Block xs) e = sum_by-cons (λ (n : ℕ). n) (stmt_nodes s) (map stmt_nodes xs)
more_nodes p b e = absurd (cc)

-- ---- how deep

pub lit_depth : (n : _) → part_depth (Expression (expr.Lit n)) ≡ 1
lit_depth n = lit_fold ℕ (expr_value 1 (λ _ _. 1) (λ x y. 1 + max x y)) n

pub attr_depth : (slot attr : ℕ) → part_depth (Expression (expr.Attr slot attr)) ≡ 1
attr_depth slot attr = attr_fold ℕ (expr_value 1 (λ _ _. 1) (λ x y. 1 + max x y)) slot attr

pub binary_depth : (o : Operator) (p q : Part) → is_expr (binary o p q) ≡ true → part_depth (binary o p q) ≡ 1 + max (part_depth p) (part_depth q)
binary_depth o (Expression a) (Expression b) e =
    binary_fold ℕ (expr_value 1 (λ _ _. 1) (λ x y. 1 + max x y)) o a b ∙ value_layer 1 (λ _ _. 1) (λ x y. 1 + max x y) o (expr_depth a) (expr_depth b)
binary_depth o p q e = absurd (cc)

pub compare_depth : (o : Comparison) (p q : Part) → is_cond (comparison o p q) ≡ true → part_depth (comparison o p q) ≡ 1 + max (part_depth p) (part_depth q)
compare_depth o (Expression a) (Expression b) e =
    compare_fold ℕ (cond_value expr_depth (λ x y. 1 + max x y) (λ x. 1 + x)) o a b ∙ compare_value expr_depth (λ x y. 1 + max x y) (λ x. 1 + x) o a b
compare_depth o p q e = absurd (cc)

pub join_depth : (o : Connective) (p q : Part) → is_cond (connective o p q) ≡ true → part_depth (connective o p q) ≡ 1 + max (part_depth p) (part_depth q)
join_depth o (Condition a) (Condition b) e =
    join_fold ℕ (cond_value expr_depth (λ x y. 1 + max x y) (λ x. 1 + x)) o a b ∙ join_value expr_depth (λ x y. 1 + max x y) (λ x. 1 + x) o (cond_depth a) (cond_depth b)
join_depth o p q e = absurd (cc)

pub not_depth : (p : Part) → is_cond (negated p) ≡ true → part_depth (negated p) ≡ 1 + part_depth p
not_depth (Condition a) e = not_fold ℕ (cond_value expr_depth (λ x y. 1 + max x y) (λ x. 1 + x)) a
not_depth p e = absurd (cc)

pub set_depth : (slot attr : ℕ) (p : Part) → is_stmt (assignment slot attr p) ≡ true → part_depth (assignment slot attr p) ≡ 1 + part_depth p
set_depth slot attr (Expression a) e = set_fold ℕ stmt_depth_step slot attr a
set_depth slot attr p e = absurd (cc)

pub if_depth : (p q r : Part) → is_stmt (choice p q r) ≡ true → part_depth (choice p q r) ≡ 1 + max (part_depth p) (max (part_depth q) (part_depth r))
if_depth (Condition c) (Block xs) (Block ys) e = if_fold ℕ stmt_depth_step c xs ys
if_depth p q r e = absurd (cc)

pub more_depth : (p b : Part) → is_block (with_statement p b) ≡ true → part_depth (with_statement p b) ≡ max (part_depth p) (part_depth b)
more_depth (Statement s) (Block xs) e = refl
more_depth p b e = absurd (cc)

-- ---- which slots and attributes

pub lit_passes : (set get : ℕ → ℕ → Bool) (n : _) → part_passes set get (Expression (expr.Lit n)) ≡ true
lit_passes set get n = lit_fold Bool (expr_value true get (λ x y. x && y)) n

pub attr_passes : (set get : ℕ → ℕ → Bool) (slot attr : ℕ) → part_passes set get (Expression (expr.Attr slot attr)) ≡ get slot attr
attr_passes set get slot attr = attr_fold Bool (expr_value true get (λ x y. x && y)) slot attr

pub binary_passes : (set get : ℕ → ℕ → Bool) (o : Operator) (p q : Part) → is_expr (binary o p q) ≡ true → part_passes set get (binary o p q) ≡ (part_passes set get p && part_passes set get q)
binary_passes set get o (Expression a) (Expression b) e =
    binary_fold Bool (expr_value true get (λ x y. x && y)) o a b ∙ value_layer true get (λ x y. x && y) o (expr_passes get a) (expr_passes get b)
binary_passes set get o p q e = absurd (cc)

pub compare_passes : (set get : ℕ → ℕ → Bool) (o : Comparison) (p q : Part) → is_cond (comparison o p q) ≡ true → part_passes set get (comparison o p q) ≡ (part_passes set get p && part_passes set get q)
compare_passes set get o (Expression a) (Expression b) e =
    compare_fold Bool (cond_value (expr_passes get) (λ x y. x && y) (λ x. x)) o a b ∙ compare_value (expr_passes get) (λ x y. x && y) (λ x. x) o a b
compare_passes set get o p q e = absurd (cc)

pub join_passes : (set get : ℕ → ℕ → Bool) (o : Connective) (p q : Part) → is_cond (connective o p q) ≡ true → part_passes set get (connective o p q) ≡ (part_passes set get p && part_passes set get q)
join_passes set get o (Condition a) (Condition b) e =
    join_fold Bool (cond_value (expr_passes get) (λ x y. x && y) (λ x. x)) o a b ∙ join_value (expr_passes get) (λ x y. x && y) (λ x. x) o (cond_passes get a) (cond_passes get b)
join_passes set get o p q e = absurd (cc)

pub not_passes : (set get : ℕ → ℕ → Bool) (p : Part) → is_cond (negated p) ≡ true → part_passes set get (negated p) ≡ part_passes set get p
not_passes set get (Condition a) e = not_fold Bool (cond_value (expr_passes get) (λ x y. x && y) (λ x. x)) a
not_passes set get p e = absurd (cc)

pub set_passes : (set get : ℕ → ℕ → Bool) (slot attr : ℕ) (p : Part) → is_stmt (assignment slot attr p) ≡ true → part_passes set get (assignment slot attr p) ≡ (set slot attr && part_passes set get p)
set_passes set get slot attr (Expression a) e = set_fold Bool (stmt_passes_step set get) slot attr a
set_passes set get slot attr p e = absurd (cc)

pub if_passes : (set get : ℕ → ℕ → Bool) (p q r : Part) → is_stmt (choice p q r) ≡ true → part_passes set get (choice p q r) ≡ (part_passes set get p && (part_passes set get q && part_passes set get r))
if_passes set get (Condition c) (Block xs) (Block ys) e = if_fold Bool (stmt_passes_step set get) c xs ys
if_passes set get p q r e = absurd (cc)

pub more_passes : (set get : ℕ → ℕ → Bool) (p b : Part) → is_block (with_statement p b) ≡ true → part_passes set get (with_statement p b) ≡ (part_passes set get p && part_passes set get b)
more_passes set get (Statement s) (Block xs) e = refl
more_passes set get p b e = absurd (cc)

-- The same by the limits of an action.
pub lit_fits : (limits : Limits) (n : _) → fits limits (Expression (expr.Lit n)) ≡ true
lit_fits limits n = lit_passes (may_set limits) (may_get limits) n

pub attr_fits : (limits : Limits) (slot attr : ℕ) → fits limits (Expression (expr.Attr slot attr)) ≡ may_get limits slot attr
attr_fits limits slot attr = attr_passes (may_set limits) (may_get limits) slot attr

pub binary_fits : (limits : Limits) (o : Operator) (p q : Part) → is_expr (binary o p q) ≡ true → fits limits (binary o p q) ≡ (fits limits p && fits limits q)
binary_fits limits o p q e = binary_passes (may_set limits) (may_get limits) o p q e

pub compare_fits : (limits : Limits) (o : Comparison) (p q : Part) → is_cond (comparison o p q) ≡ true → fits limits (comparison o p q) ≡ (fits limits p && fits limits q)
compare_fits limits o p q e = compare_passes (may_set limits) (may_get limits) o p q e

pub join_fits : (limits : Limits) (o : Connective) (p q : Part) → is_cond (connective o p q) ≡ true → fits limits (connective o p q) ≡ (fits limits p && fits limits q)
join_fits limits o p q e = join_passes (may_set limits) (may_get limits) o p q e

pub not_fits : (limits : Limits) (p : Part) → is_cond (negated p) ≡ true → fits limits (negated p) ≡ fits limits p
not_fits limits p e = not_passes (may_set limits) (may_get limits) p e

pub set_fits : (limits : Limits) (slot attr : ℕ) (p : Part) → is_stmt (assignment slot attr p) ≡ true → fits limits (assignment slot attr p) ≡ (may_set limits slot attr && fits limits p)
set_fits limits slot attr p e = set_passes (may_set limits) (may_get limits) slot attr p e

pub if_fits : (limits : Limits) (p q r : Part) → is_stmt (choice p q r) ≡ true → fits limits (choice p q r) ≡ (fits limits p && (fits limits q && fits limits r))
if_fits limits p q r e = if_passes (may_set limits) (may_get limits) p q r e

pub more_fits : (limits : Limits) (p b : Part) → is_block (with_statement p b) ≡ true → fits limits (with_statement p b) ≡ (fits limits p && fits limits b)
more_fits limits p b e = more_passes (may_set limits) (may_get limits) p b e

pub ruleset expr_measures = (lit_nodes, attr_nodes, binary_nodes, lit_depth, attr_depth, binary_depth, lit_fits, attr_fits, binary_fits, binary_exprs)

pub ruleset cond_measures = (compare_nodes, join_nodes, not_nodes, compare_depth, join_depth, not_depth, compare_fits, join_fits, not_fits, compare_exprs, join_conds, not_cond)

pub ruleset stmt_measures = (set_nodes, if_nodes, set_depth, if_depth, set_fits, if_fits, set_expr, if_parts)

-- ---- one more statement of a block

pub next_fits : (limits : Limits) (n m : ℕ) (ps qs : List Part) → n ≡ suc m → qs ≡ drop 1 ps → is_block (block n ps) ≡ true
    → fits limits (block n ps) ≡ (fits limits (first ps) && fits limits (block m qs))
next_fits limits n m [] qs e f k =
    let bad : is_block (block (suc m) []) ≡ true = subst (λ (i : ℕ). is_block (block i []) ≡ true) e k in absurd (cc)
next_fits limits n m (p ∷ ps) qs e f k =
    let whole : is_block (block (suc m) (p ∷ ps)) ≡ true = subst (λ (i : ℕ). is_block (block i (p ∷ ps)) ≡ true) e k in
    ap (λ (i : ℕ). fits limits (block i (p ∷ ps))) e ∙ more_fits limits p (block m ps) whole ∙ ap (λ (rs : List Part). fits limits p && fits limits (block m rs)) (sym f)

pub next_nodes : (n m : ℕ) (ps qs : List Part) → n ≡ suc m → qs ≡ drop 1 ps → is_block (block n ps) ≡ true
    → part_nodes (block n ps) ≡ part_nodes (first ps) + part_nodes (block m qs)
next_nodes n m [] qs e f k =
    let bad : is_block (block (suc m) []) ≡ true = subst (λ (i : ℕ). is_block (block i []) ≡ true) e k in absurd (cc)
next_nodes n m (p ∷ ps) qs e f k =
    let whole : is_block (block (suc m) (p ∷ ps)) ≡ true = subst (λ (i : ℕ). is_block (block i (p ∷ ps)) ≡ true) e k in
    ap (λ (i : ℕ). part_nodes (block i (p ∷ ps))) e ∙ more_nodes p (block m ps) whole ∙ ap (λ (rs : List Part). part_nodes p + part_nodes (block m rs)) (sym f)

pub next_depth : (n m : ℕ) (ps qs : List Part) → n ≡ suc m → qs ≡ drop 1 ps → is_block (block n ps) ≡ true
    → part_depth (block n ps) ≡ max (part_depth (first ps)) (part_depth (block m qs))
next_depth n m [] qs e f k =
    let bad : is_block (block (suc m) []) ≡ true = subst (λ (i : ℕ). is_block (block i []) ≡ true) e k in absurd (cc)
next_depth n m (p ∷ ps) qs e f k =
    let whole : is_block (block (suc m) (p ∷ ps)) ≡ true = subst (λ (i : ℕ). is_block (block i (p ∷ ps)) ≡ true) e k in
    ap (λ (i : ℕ). part_depth (block i (p ∷ ps))) e ∙ more_depth p (block m ps) whole ∙ ap (λ (rs : List Part). max (part_depth p) (part_depth (block m rs))) (sym f)

-- The first statement of a block is at most as large and as deep as the block, and fits where the block does.
abbrev pub FirstWithin : Limits → ℕ → List Part → Type 0
FirstWithin limits n ps = (fits limits (block n ps) ≡ true → fits limits (first ps) ≡ true) × (part_nodes (first ps) ≤ part_nodes (block n ps)) × (part_depth (first ps) ≤ part_depth (block n ps))

left_true : (x y : Bool) → (x && y) ≡ true → x ≡ true
left_true true y e = refl
left_true false y e = cc

first_within : (limits : Limits) (n : ℕ) (ps : List Part) → 1 ≤ n → is_block (block n ps) ≡ true → FirstWithin limits n ps
first_within limits zero ps l k = absurd (omega arith)
first_within limits (suc n) [] l k = absurd (cc)
first_within limits (suc n) (p ∷ ps) l k =
    let nodes : part_nodes (block (suc n) (p ∷ ps)) ≡ part_nodes p + part_nodes (block n ps) = more_nodes p (block n ps) k in
    let depth : part_depth (block (suc n) (p ∷ ps)) ≡ max (part_depth p) (part_depth (block n ps)) = more_depth p (block n ps) k in
    (λ e. left_true (fits limits p) (fits limits (block n ps)) (sym (more_fits limits p (block n ps) k) ∙ e), omega arith, omega arith)

pub first_fits : (limits : Limits) (n : ℕ) (ps : List Part) → 1 ≤ n → is_block (block n ps) ≡ true → fits limits (block n ps) ≡ true → fits limits (first ps) ≡ true
first_fits limits n ps l k = (first_within limits n ps l k).0

pub first_nodes : (limits : Limits) (n : ℕ) (ps : List Part) → 1 ≤ n → is_block (block n ps) ≡ true → part_nodes (first ps) ≤ part_nodes (block n ps)
first_nodes limits n ps l k = (first_within limits n ps l k).1

pub first_depth : (limits : Limits) (n : ℕ) (ps : List Part) → 1 ≤ n → is_block (block n ps) ≡ true → part_depth (first ps) ≤ part_depth (block n ps)
first_depth limits n ps l k = (first_within limits n ps l k).2

pub ruleset block_measures = (next_kind, first_kind)
