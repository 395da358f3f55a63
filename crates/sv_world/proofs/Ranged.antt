-- The numbers of a body are those of its nodes.
use Rattle.std.proofs.Common.{◌≡◌, ℕ, ℤ, Bool, true, false, ◌&&◌, List, [], ◌∷◌, ◌++◌, map, refl, sym, ap, ◌∙◌, subst}
use Rattle.std.proofs.lemmas.List.Concat.{flat_map-cons}
use Rattle.sv_world.specs.Trees.{all_true}
use Rattle.sv_world.specs.declared.action.Expr.{Expr}
use Rattle.sv_world.specs.declared.action.Expr.TheVariants as expr
use Rattle.sv_world.specs.declared.action.Cond.{Cond}
use Rattle.sv_world.specs.declared.action.Cond.TheVariants as test
use Rattle.sv_world.specs.declared.action.Stmt.{Stmt, map-Stmt}
use Rattle.sv_world.specs.declared.action.Stmt.TheVariants as stmt
use Rattle.sv_world.specs.declared.action.Stmt.TheOpen.{Stmt-F}
use Rattle.sv_world.specs.declared.action.Stmt.TheViews.{roll-Stmt}
use Rattle.sv_world.specs.declared.action.Stmt.TheFolds.{ind-Stmt}
use Rattle.sv_world.specs.declared.node.Node.{Node}
use Rattle.sv_world.specs.declared.node.Node.TheVariants as node
use Rattle.sv_world.specs.declared.node.Operator.{Operator}
use Rattle.sv_world.specs.declared.node.Operator.TheVariants.{Add, Sub, Mul, Div, Rem, Min, Max}
use Rattle.sv_world.specs.declared.node.Comparison.{Comparison}
use Rattle.sv_world.specs.declared.node.Comparison.TheVariants.{Eq, Lt, Le}
use Rattle.sv_world.specs.declared.node.Connective.{Connective}
use Rattle.sv_world.specs.declared.node.Connective.TheVariants.{And, Or}
use Rattle.sv_world.specs.Parts.{binary_by, compare_by, join_by, Block, parts}
use Rattle.sv_world.specs.Spelled.{expr_spelled, cond_spelled, stmt_spelled, run_spelled, body_spelled}
use Rattle.sv_world.specs.Ranges.{is_i64, is_byte, expr_fits_step, expr_fits, cond_fits_step, cond_fits, stmt_fits_step, stmt_fits, body_fits, node_fits}
use Rattle.sv_world.proofs.Layers.{binary_layer, compare_layer, join_layer, lit_fold, attr_fold, binary_fold, compare_fold, join_fold, not_fold, set_fold, if_fold, lit_spelled, attr_spelled, binary_spelled, compare_spelled, join_spelled, not_spelled, set_spelled, if_spelled}
use Rattle.sv_world.proofs.Back.{body_back}
use Rattle.sv_world.proofs.TreeInduction.{each_expr, each_cond}

-- ---- the test of a tree at each kind of node

binary_fits_layer : (o : Operator) (x y : Bool) → expr_fits_step (binary_layer o x y) ≡ (x && y)
binary_fits_layer Add x y = refl
binary_fits_layer Sub x y = refl
binary_fits_layer Mul x y = refl
binary_fits_layer Div x y = refl
binary_fits_layer Rem x y = refl
binary_fits_layer Min x y = refl
binary_fits_layer Max x y = refl

compare_fits_layer : (o : Comparison) (a b : Expr) → cond_fits_step (compare_layer o a b) ≡ (expr_fits a && expr_fits b)
compare_fits_layer Eq a b = refl
compare_fits_layer Lt a b = refl
compare_fits_layer Le a b = refl

join_fits_layer : (o : Connective) (x y : Bool) → cond_fits_step (join_layer o x y) ≡ (x && y)
join_fits_layer And x y = refl
join_fits_layer Or x y = refl

pub lit_fits : (n : ℤ) → expr_fits (expr.Lit n) ≡ is_i64 n
lit_fits n = lit_fold Bool expr_fits_step n

pub attr_fits : (slot attr : ℕ) → expr_fits (expr.Attr slot attr) ≡ (is_byte slot && is_byte attr)
attr_fits slot attr = attr_fold Bool expr_fits_step slot attr

pub binary_fits : (o : Operator) (a b : Expr) → expr_fits (binary_by o a b) ≡ (expr_fits a && expr_fits b)
binary_fits o a b = binary_fold Bool expr_fits_step o a b ∙ binary_fits_layer o (expr_fits a) (expr_fits b)

pub compare_fits : (o : Comparison) (a b : Expr) → cond_fits (compare_by o a b) ≡ (expr_fits a && expr_fits b)
compare_fits o a b = compare_fold Bool cond_fits_step o a b ∙ compare_fits_layer o a b

pub join_fits : (o : Connective) (a b : Cond) → cond_fits (join_by o a b) ≡ (cond_fits a && cond_fits b)
join_fits o a b = join_fold Bool cond_fits_step o a b ∙ join_fits_layer o (cond_fits a) (cond_fits b)

pub not_fits : (a : Cond) → cond_fits (test.Not a) ≡ cond_fits a
not_fits a = not_fold Bool cond_fits_step a

pub set_fits : (slot attr : ℕ) (value : Expr) → stmt_fits (stmt.Set slot attr value) ≡ (is_byte slot && (is_byte attr && expr_fits value))
set_fits slot attr value = set_fold Bool stmt_fits_step slot attr value

pub if_fits : (c : Cond) (xs ys : List Stmt) → stmt_fits (stmt.If c xs ys) ≡ (cond_fits c && (body_fits xs && body_fits ys))
if_fits c xs ys = if_fold Bool stmt_fits_step c xs ys

-- ---- the nodes of a tree

abbrev all_fit : List Node → Bool
all_fit ns = all_true (map node_fits ns)

and_assoc : (x y z : Bool) → (x && (y && z)) ≡ ((x && y) && z)
and_assoc true y z = refl
and_assoc false y z = refl

fit_append : (u v : List Node) → all_fit (u ++ v) ≡ (all_fit u && all_fit v)
fit_append [] v = refl
fit_append (n ∷ u) v = ap (λ (b : Bool). node_fits n && b) (fit_append u v) ∙ and_assoc (node_fits n) (all_fit u) (all_fit v)

two : (u v : List Node) (x y : Bool) → all_fit u ≡ x → all_fit v ≡ y → all_fit (u ++ v) ≡ (x && y)
two u v x y left right = fit_append u v ∙ rw (left, right) refl

-- a node and those that follow it, which spell a tree, and the tree's test
over : (n : Node) (ns whole : List Node) (x all : Bool) → whole ≡ n ∷ ns → all ≡ (node_fits n && x) → all_fit ns ≡ x → all_fit whole ≡ all
over n ns whole x all nodes is others = ap all_fit nodes ∙ ap (λ (b : Bool). node_fits n && b) others ∙ sym is

and_true : (x : Bool) → x ≡ (x && true)
and_true true = refl
and_true false = refl

abbrev ExprRanged : Expr → Type 0
ExprRanged e = all_fit (expr_spelled e) ≡ expr_fits e

lit_ranged : (n : ℤ) → ExprRanged (expr.Lit n)
lit_ranged n = over (node.Lit n) [] (expr_spelled (expr.Lit n)) true (expr_fits (expr.Lit n)) (lit_spelled n) (lit_fits n ∙ and_true (is_i64 n)) refl

attr_ranged : (slot attr : ℕ) → ExprRanged (expr.Attr slot attr)
attr_ranged slot attr = over (node.Attr slot attr) [] (expr_spelled (expr.Attr slot attr)) true (expr_fits (expr.Attr slot attr)) (attr_spelled slot attr) (attr_fits slot attr ∙ and_true (is_byte slot && is_byte attr)) refl

binary_ranged : (o : Operator) (a b : Expr) → ExprRanged a → ExprRanged b → ExprRanged (binary_by o a b)
binary_ranged o a b left right = over (node.Binary o) (expr_spelled a ++ expr_spelled b) (expr_spelled (binary_by o a b)) (expr_fits a && expr_fits b) (expr_fits (binary_by o a b)) (binary_spelled o a b) (binary_fits o a b) (two (expr_spelled a) (expr_spelled b) (expr_fits a) (expr_fits b) left right)

expr_ranged : (e : Expr) → ExprRanged e
expr_ranged = each_expr ExprRanged lit_ranged attr_ranged binary_ranged

abbrev CondRanged : Cond → Type 0
CondRanged c = all_fit (cond_spelled c) ≡ cond_fits c

compare_ranged : (o : Comparison) (a b : Expr) → CondRanged (compare_by o a b)
compare_ranged o a b = over (node.Compare o) (expr_spelled a ++ expr_spelled b) (cond_spelled (compare_by o a b)) (expr_fits a && expr_fits b) (cond_fits (compare_by o a b)) (compare_spelled o a b) (compare_fits o a b) (two (expr_spelled a) (expr_spelled b) (expr_fits a) (expr_fits b) (expr_ranged a) (expr_ranged b))

join_ranged : (o : Connective) (a b : Cond) → CondRanged a → CondRanged b → CondRanged (join_by o a b)
join_ranged o a b left right = over (node.Join o) (cond_spelled a ++ cond_spelled b) (cond_spelled (join_by o a b)) (cond_fits a && cond_fits b) (cond_fits (join_by o a b)) (join_spelled o a b) (join_fits o a b) (two (cond_spelled a) (cond_spelled b) (cond_fits a) (cond_fits b) left right)

not_ranged : (a : Cond) → CondRanged a → CondRanged (test.Not a)
not_ranged a one = over node.Not (cond_spelled a) (cond_spelled (test.Not a)) (cond_fits a) (cond_fits (test.Not a)) (not_spelled a) (not_fits a) one

cond_ranged : (c : Cond) → CondRanged c
cond_ranged = each_cond CondRanged compare_ranged join_ranged not_ranged

abbrev StmtRanged : Stmt → Type 0
StmtRanged s = all_fit (stmt_spelled s) ≡ stmt_fits s

abbrev RunRanged : List Stmt → Type 0
RunRanged xs = all_fit (run_spelled xs) ≡ body_fits xs

set_ranged : (slot attr : ℕ) (value : Expr) → StmtRanged (stmt.Set slot attr value)
set_ranged slot attr value = over (node.Set slot attr) (expr_spelled value) (stmt_spelled (stmt.Set slot attr value)) (expr_fits value) (stmt_fits (stmt.Set slot attr value)) (set_spelled slot attr value) (set_fits slot attr value ∙ and_assoc (is_byte slot) (is_byte attr) (expr_fits value)) (expr_ranged value)

-- A block's own node has no number that matters.
if_ranged : (c : Cond) (xs ys : List Stmt) → RunRanged xs → RunRanged ys → StmtRanged (stmt.If c xs ys)
if_ranged c xs ys left right =
    let front = two (cond_spelled c) (body_spelled xs) (cond_fits c) (body_fits xs) (cond_ranged c) left in
    let all = two (cond_spelled c ++ body_spelled xs) (body_spelled ys) (cond_fits c && body_fits xs) (body_fits ys) front right in
    over node.If (cond_spelled c ++ body_spelled xs ++ body_spelled ys) (stmt_spelled (stmt.If c xs ys)) ((cond_fits c && body_fits xs) && body_fits ys) (stmt_fits (stmt.If c xs ys)) (if_spelled c xs ys) (if_fits c xs ys ∙ and_assoc (cond_fits c) (body_fits xs) (body_fits ys)) all

run_more : (s : Stmt) (xs : List Stmt) → StmtRanged s → RunRanged xs → RunRanged (s ∷ xs)
run_more s xs one others = ap all_fit (flat_map-cons stmt_spelled s xs) ∙ two (stmt_spelled s) (run_spelled xs) (stmt_fits s) (body_fits xs) one others

runs_ranged : {Z : Type 0} (p : Z → Stmt) → ((z : Z) → StmtRanged (p z)) → (zs : List Z) → RunRanged (map p zs)
runs_ranged p each [] = refl
runs_ranged p each (z ∷ zs) = run_more (p z) (map p zs) (each z) (runs_ranged p each zs)

stmt_layer : {Z : Type 0} (p : Z → Stmt) → ((z : Z) → StmtRanged (p z)) → (y : Stmt-F Z) → StmtRanged (roll-Stmt (map-Stmt Z Stmt p y))
stmt_layer p each (Stmt-F.Set slot attr value) = subst StmtRanged (sym (stmt.rolls-Set slot attr value)) (set_ranged slot attr value)
stmt_layer p each (Stmt-F.If c xs ys) = subst StmtRanged (sym (stmt.rolls-If c (map p xs) (map p ys))) (if_ranged c (map p xs) (map p ys) (runs_ranged p each xs) (runs_ranged p each ys))

stmt_ranged : (s : Stmt) → StmtRanged s
stmt_ranged = ind-Stmt StmtRanged (λ x y is. subst (λ (z : Stmt-F Stmt). StmtRanged (roll-Stmt z)) is (stmt_layer (λ e. e.0) (λ e. e.1) y))

run_ranged : (xs : List Stmt) → RunRanged xs
run_ranged [] = refl
run_ranged (s ∷ xs) = run_more s xs (stmt_ranged s) (run_ranged xs)

-- The numbers of nodes that spell a body are those of the body.
pub body_ranged : (ns : List Node) (xs : List Stmt) → parts ns ≡ Block xs ∷ [] → all_true (map node_fits ns) ≡ true → body_fits xs ≡ true
body_ranged ns xs h fit = sym (run_ranged xs) ∙ ap all_fit (sym (body_back ns xs h)) ∙ fit
