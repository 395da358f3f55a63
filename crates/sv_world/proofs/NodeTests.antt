-- The tests of a body's nodes, one by one, are those of its trees.
use Rattle.std.proofs.Common.{◌≡◌, ℕ, ◌+◌, Bool, true, false, ◌&&◌, List, [], ◌∷◌, ◌++◌, map, refl, sym, ap, ◌∙◌, subst, arith}
use Rattle.sv_world.specs.declared.action.Expr.{Expr}
use Rattle.sv_world.specs.declared.action.Expr.TheVariants as expr
use Rattle.sv_world.specs.declared.action.Cond.{Cond}
use Rattle.sv_world.specs.declared.action.Cond.TheVariants as test
use Rattle.sv_world.specs.declared.action.Stmt.{Stmt, map-Stmt}
use Rattle.sv_world.specs.declared.action.Stmt.TheVariants as stmt
use Rattle.sv_world.specs.declared.action.Stmt.TheOpen.{Stmt-F}
use Rattle.sv_world.specs.declared.action.Stmt.TheViews.{roll-Stmt}
use Rattle.sv_world.specs.declared.action.Stmt.TheFolds.{ind-Stmt}
use Rattle.sv_world.specs.declared.node.Node.{Node}
use Rattle.sv_world.specs.declared.node.Operator.{Operator}
use Rattle.sv_world.specs.declared.node.Comparison.{Comparison}
use Rattle.sv_world.specs.declared.node.Connective.{Connective}
use Rattle.sv_world.specs.NodeTests.{node_passes, nodes_pass, nodes_weight}
use Rattle.sv_world.specs.Parts.{Part, Expression, Condition, Statement, Block, binary_by, compare_by, join_by, parts}
use Rattle.sv_world.specs.PartTrees.{part_nodes, part_passes}
use Rattle.sv_world.specs.Spelled.{expr_spelled, cond_spelled, stmt_spelled, run_spelled, body_spelled}
use Rattle.sv_world.specs.Trees.{body_nodes, body_passes}
use Rattle.sv_world.proofs.Back.{body_back}
use Rattle.sv_world.proofs.Layers.{lit_spelled, attr_spelled, binary_spelled, compare_spelled, join_spelled, not_spelled, set_spelled, if_spelled}
use Rattle.sv_world.proofs.Measured.{lit_nodes, attr_nodes, binary_nodes, compare_nodes, join_nodes, not_nodes, set_nodes, if_nodes, more_nodes, lit_passes, attr_passes, binary_passes, compare_passes, join_passes, not_passes, set_passes, if_passes, more_passes}
use Rattle.sv_world.proofs.TreeInduction.{each_expr, each_cond}

and_assoc : (x y z : Bool) → ((x && y) && z) ≡ (x && (y && z))
and_assoc true y z = refl
and_assoc false y z = refl

and_true : (x : Bool) → (x && true) ≡ x
and_true true = refl
and_true false = refl

pass_append : (set get : ℕ → ℕ → Bool) (u v : List Node) → nodes_pass set get (u ++ v) ≡ (nodes_pass set get u && nodes_pass set get v)
pass_append set get [] v = refl
pass_append set get (n ∷ u) v =
    ap (λ (b : Bool). node_passes set get n && b) (pass_append set get u v) ∙ sym (and_assoc (node_passes set get n) (nodes_pass set get u) (nodes_pass set get v))

weight_append : (u v : List Node) → nodes_weight (u ++ v) ≡ nodes_weight u + nodes_weight v
weight_append [] v = omega arith
weight_append (n ∷ u) v = let rest = weight_append u v in omega (arith, rest)

-- The tests of some nodes are those of a part.
record Counts (ns : List Node) (p : Part) : Type 0 where
  passes : (set get : ℕ → ℕ → Bool) → nodes_pass set get ns ≡ part_passes set get p
  weight : nodes_weight ns ≡ part_nodes p

both_are : (x y a b : Bool) → x ≡ a → y ≡ b → (x && y) ≡ (a && b)
both_are x y a b e f = ap (λ (z : Bool). z && y) e ∙ ap (λ (z : Bool). a && z) f

two_pass : (set get : ℕ → ℕ → Bool) (u v : List Node) (p q : Part) → Counts u p → Counts v q → nodes_pass set get (u ++ v) ≡ (part_passes set get p && part_passes set get q)
two_pass set get u v p q a b = pass_append set get u v ∙ both_are (nodes_pass set get u) (nodes_pass set get v) (part_passes set get p) (part_passes set get q) (a.passes set get) (b.passes set get)

two_weigh : (u v : List Node) (p q : Part) → Counts u p → Counts v q → nodes_weight (u ++ v) ≡ part_nodes p + part_nodes q
two_weigh u v p q a b = omega (arith, weight_append u v, a.weight, b.weight)

-- ---- expressions

abbrev ExprCounts : Expr → Type 0
ExprCounts e = Counts (expr_spelled e) (Expression e)

lit_counts : (n : _) → ExprCounts (expr.Lit n)
lit_counts n = record {
  passes = λ set get. ap (nodes_pass set get) (lit_spelled n) ∙ sym (lit_passes set get n);
  weight = ap nodes_weight (lit_spelled n) ∙ sym (lit_nodes n);
}

attr_counts : (slot attr : ℕ) → ExprCounts (expr.Attr slot attr)
attr_counts slot attr = record {
  passes = λ set get. ap (nodes_pass set get) (attr_spelled slot attr) ∙ and_true (get slot attr) ∙ sym (attr_passes set get slot attr);
  weight = ap nodes_weight (attr_spelled slot attr) ∙ sym (attr_nodes slot attr);
}

binary_counts : (o : Operator) (a b : Expr) → ExprCounts a → ExprCounts b → ExprCounts (binary_by o a b)
binary_counts o a b x y = record {
  passes = λ set get. ap (nodes_pass set get) (binary_spelled o a b) ∙ two_pass set get (expr_spelled a) (expr_spelled b) (Expression a) (Expression b) x y ∙ sym (binary_passes set get o (Expression a) (Expression b) refl);
  weight = omega (arith, ap nodes_weight (binary_spelled o a b), two_weigh (expr_spelled a) (expr_spelled b) (Expression a) (Expression b) x y, binary_nodes o (Expression a) (Expression b) refl);
}

expr_counts : (e : Expr) → ExprCounts e
expr_counts = each_expr ExprCounts lit_counts attr_counts binary_counts

-- ---- conditions

abbrev CondCounts : Cond → Type 0
CondCounts c = Counts (cond_spelled c) (Condition c)

compare_counts : (o : Comparison) (a b : Expr) → CondCounts (compare_by o a b)
compare_counts o a b = record {
  passes = λ set get. ap (nodes_pass set get) (compare_spelled o a b) ∙ two_pass set get (expr_spelled a) (expr_spelled b) (Expression a) (Expression b) (expr_counts a) (expr_counts b) ∙ sym (compare_passes set get o (Expression a) (Expression b) refl);
  weight = omega (arith, ap nodes_weight (compare_spelled o a b), two_weigh (expr_spelled a) (expr_spelled b) (Expression a) (Expression b) (expr_counts a) (expr_counts b), compare_nodes o (Expression a) (Expression b) refl);
}

join_counts : (o : Connective) (a b : Cond) → CondCounts a → CondCounts b → CondCounts (join_by o a b)
join_counts o a b x y = record {
  passes = λ set get. ap (nodes_pass set get) (join_spelled o a b) ∙ two_pass set get (cond_spelled a) (cond_spelled b) (Condition a) (Condition b) x y ∙ sym (join_passes set get o (Condition a) (Condition b) refl);
  weight = omega (arith, ap nodes_weight (join_spelled o a b), two_weigh (cond_spelled a) (cond_spelled b) (Condition a) (Condition b) x y, join_nodes o (Condition a) (Condition b) refl);
}

not_counts : (a : Cond) → CondCounts a → CondCounts (test.Not a)
not_counts a x = record {
  passes = λ set get. ap (nodes_pass set get) (not_spelled a) ∙ x.passes set get ∙ sym (not_passes set get (Condition a) refl);
  weight = omega (arith, ap nodes_weight (not_spelled a), x.weight, not_nodes (Condition a) refl);
}

cond_counts : (c : Cond) → CondCounts c
cond_counts = each_cond CondCounts compare_counts join_counts not_counts

-- ---- statements and blocks

abbrev StmtCounts : Stmt → Type 0
StmtCounts s = Counts (stmt_spelled s) (Statement s)

abbrev RunCounts : List Stmt → Type 0
RunCounts xs = Counts (run_spelled xs) (Block xs)

set_counts : (slot attr : ℕ) (value : Expr) → StmtCounts (stmt.Set slot attr value)
set_counts slot attr value = record {
  passes = λ set get. ap (nodes_pass set get) (set_spelled slot attr value) ∙ ap (λ (b : Bool). set slot attr && b) ((expr_counts value).passes set get) ∙ sym (set_passes set get slot attr (Expression value) refl);
  weight = omega (arith, ap nodes_weight (set_spelled slot attr value), (expr_counts value).weight, set_nodes slot attr (Expression value) refl);
}

-- A block's own node counts nothing.
body_counts : (xs : List Stmt) → RunCounts xs → Counts (body_spelled xs) (Block xs)
body_counts xs x = record { passes = x.passes; weight = omega (arith, x.weight) }

if_counts : (c : Cond) (xs ys : List Stmt) → RunCounts xs → RunCounts ys → StmtCounts (stmt.If c xs ys)
if_counts c xs ys x y = record {
  passes = λ set get. ap (nodes_pass set get) (if_spelled c xs ys)
      ∙ pass_append set get (cond_spelled c ++ body_spelled xs) (body_spelled ys)
      ∙ both_are (nodes_pass set get (cond_spelled c ++ body_spelled xs)) (nodes_pass set get (body_spelled ys)) (part_passes set get (Condition c) && part_passes set get (Block xs)) (part_passes set get (Block ys))
      (two_pass set get (cond_spelled c) (body_spelled xs) (Condition c) (Block xs) (cond_counts c) (body_counts xs x)) (y.passes set get)
      ∙ and_assoc (part_passes set get (Condition c)) (part_passes set get (Block xs)) (part_passes set get (Block ys))
      ∙ sym (if_passes set get (Condition c) (Block xs) (Block ys) refl);
  weight = omega (
    arith,
    ap nodes_weight (if_spelled c xs ys),
    weight_append (cond_spelled c ++ body_spelled xs) (body_spelled ys),
    two_weigh (cond_spelled c) (body_spelled xs) (Condition c) (Block xs) (cond_counts c) (body_counts xs x),
    (body_counts ys y).weight,
    if_nodes (Condition c) (Block xs) (Block ys) refl,
  );
}

run_more : (s : Stmt) (xs : List Stmt) → StmtCounts s → RunCounts xs → RunCounts (s ∷ xs)
run_more s xs a b = record {
  passes = λ set get. two_pass set get (stmt_spelled s) (run_spelled xs) (Statement s) (Block xs) a b ∙ sym (more_passes set get (Statement s) (Block xs) refl);
  weight = omega (arith, two_weigh (stmt_spelled s) (run_spelled xs) (Statement s) (Block xs) a b, more_nodes (Statement s) (Block xs) refl);
}

runs_count : {Z : Type 0} (p : Z → Stmt) → ((z : Z) → StmtCounts (p z)) → (zs : List Z) → RunCounts (map p zs)
runs_count p each [] = record { passes = λ set get. refl; weight = refl }
runs_count p each (z ∷ zs) = run_more (p z) (map p zs) (each z) (runs_count p each zs)

stmt_layer : {Z : Type 0} (p : Z → Stmt) → ((z : Z) → StmtCounts (p z)) → (y : Stmt-F Z) → StmtCounts (roll-Stmt (map-Stmt Z Stmt p y))
stmt_layer p each (Stmt-F.Set slot attr value) = subst StmtCounts (sym (stmt.rolls-Set slot attr value)) (set_counts slot attr value)
stmt_layer p each (Stmt-F.If c xs ys) =
    subst StmtCounts (sym (stmt.rolls-If c (map p xs) (map p ys))) (if_counts c (map p xs) (map p ys) (runs_count p each xs) (runs_count p each ys))

stmt_counts : (s : Stmt) → StmtCounts s
stmt_counts = ind-Stmt StmtCounts (λ x y is. subst (λ (z : Stmt-F Stmt). StmtCounts (roll-Stmt z)) is (stmt_layer (λ e. e.0) (λ e. e.1) y))

run_counts : (xs : List Stmt) → RunCounts xs
run_counts [] = record { passes = λ set get. refl; weight = refl }
run_counts (s ∷ xs) = run_more s xs (stmt_counts s) (run_counts xs)

pub spelled_pass : (set get : ℕ → ℕ → Bool) (xs : List Stmt) → nodes_pass set get (body_spelled xs) ≡ body_passes set get xs
spelled_pass set get xs = (body_counts xs (run_counts xs)).passes set get

pub body_pass : (set get : ℕ → ℕ → Bool) (ns : List Node) (xs : List Stmt) → parts ns ≡ Block xs ∷ [] → nodes_pass set get ns ≡ body_passes set get xs
body_pass set get ns xs e = ap (nodes_pass set get) (body_back ns xs e) ∙ (body_counts xs (run_counts xs)).passes set get

pub body_weight : (ns : List Node) (xs : List Stmt) → parts ns ≡ Block xs ∷ [] → nodes_weight ns ≡ body_nodes xs
body_weight ns xs e = ap nodes_weight (body_back ns xs e) ∙ (body_counts xs (run_counts xs)).weight
