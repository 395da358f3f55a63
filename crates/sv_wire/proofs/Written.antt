-- The bytes of a body are those of its nodes, one after the other.
use Rattle.std.proofs.Common.{◌≡◌, ℕ, ℤ, List, [], ◌∷◌, ◌++◌, length, map, refl, sym, ap, ◌∙◌, subst}
use Rattle.std.specs.List.{flat_map}
use Rattle.std.proofs.lemmas.Grind.{flat_map-append}
use Rattle.std.proofs.lemmas.List.{append-nil}
use Rattle.std.proofs.lemmas.List.Concat.{flat_map-cons}
use Rattle.sv_world.specs.declared.action.Expr.{Expr}
use Rattle.sv_world.specs.declared.action.Expr.TheVariants as expr
use Rattle.sv_world.specs.declared.action.Cond.{Cond}
use Rattle.sv_world.specs.declared.action.Cond.TheVariants as test
use Rattle.sv_world.specs.declared.action.Stmt.{Stmt, map-Stmt}
use Rattle.sv_world.specs.declared.action.Stmt.TheVariants as stmt
use Rattle.sv_world.specs.declared.action.Stmt.TheOpen.{Stmt-F}
use Rattle.sv_world.specs.declared.action.Stmt.TheViews.{roll-Stmt}
use Rattle.sv_world.specs.declared.action.Stmt.TheFolds.{ind-Stmt}
use Rattle.sv_world.specs.declared.node.Node.{Node}
use Rattle.sv_world.specs.declared.node.Node.TheVariants as node
use Rattle.sv_world.specs.declared.node.Operator.{Operator}
use Rattle.sv_world.specs.declared.node.Comparison.{Comparison}
use Rattle.sv_world.specs.declared.node.Connective.{Connective}
use Rattle.sv_world.specs.Parts.{binary_by, compare_by, join_by, Block, parts}
use Rattle.sv_world.specs.Spelled.{expr_spelled, cond_spelled, stmt_spelled, run_spelled, body_spelled}
use Rattle.sv_world.proofs.Layers.{lit_spelled, attr_spelled, binary_spelled, compare_spelled, join_spelled, not_spelled, set_spelled, if_spelled}
use Rattle.sv_world.proofs.Back.{body_back}
use Rattle.sv_world.proofs.TreeInduction.{each_expr, each_cond}
use Rattle.sv_wire.specs.Spelling.{expr_bytes, cond_bytes, stmt_bytes, body_bytes, node_bytes}
use Rattle.sv_wire.proofs.Append.{body_is}
use Rattle.sv_wire.proofs.Layers.{lit_bytes, attr_bytes, bytes_by, compare_bytes, join_bytes, not_bytes, set_bytes, if_bytes}

abbrev written : List Node → List ℕ
written ns = flat_map node_bytes ns

two : (u v : List Node) (x y : List ℕ) → written u ≡ x → written v ≡ y → written (u ++ v) ≡ x ++ y
two u v x y left right = flat_map-append node_bytes u v ∙ rw (left, right) refl

-- a node and what follows it, which spell a tree, and its bytes
over : (n : Node) (ns whole : List Node) (bytes all : List ℕ) → whole ≡ n ∷ ns → all ≡ node_bytes n ++ bytes → written ns ≡ bytes → written whole ≡ all
over n ns whole bytes all nodes is parts = ap written nodes ∙ flat_map-cons node_bytes n ns ∙ ap (λ (x : List ℕ). node_bytes n ++ x) parts ∙ sym is

abbrev ExprWritten : Expr → Type 0
ExprWritten e = written (expr_spelled e) ≡ expr_bytes e

lit_written : (n : ℤ) → ExprWritten (expr.Lit n)
lit_written n = over (node.Lit n) [] (expr_spelled (expr.Lit n)) [] (expr_bytes (expr.Lit n)) (lit_spelled n) (lit_bytes n ∙ sym (append-nil (node_bytes (node.Lit n)))) refl

attr_written : (slot attr : ℕ) → ExprWritten (expr.Attr slot attr)
attr_written slot attr = over (node.Attr slot attr) [] (expr_spelled (expr.Attr slot attr)) [] (expr_bytes (expr.Attr slot attr)) (attr_spelled slot attr) (attr_bytes slot attr) refl

binary_written : (o : Operator) (a b : Expr) → ExprWritten a → ExprWritten b → ExprWritten (binary_by o a b)
binary_written o a b left right = over (node.Binary o) (expr_spelled a ++ expr_spelled b) (expr_spelled (binary_by o a b)) (expr_bytes a ++ expr_bytes b) (expr_bytes (binary_by o a b)) (binary_spelled o a b) (bytes_by o a b) (two (expr_spelled a) (expr_spelled b) (expr_bytes a) (expr_bytes b) left right)

expr_written : (e : Expr) → ExprWritten e
expr_written = each_expr ExprWritten lit_written attr_written binary_written

abbrev CondWritten : Cond → Type 0
CondWritten c = written (cond_spelled c) ≡ cond_bytes c

compare_written : (o : Comparison) (a b : Expr) → CondWritten (compare_by o a b)
compare_written o a b = over (node.Compare o) (expr_spelled a ++ expr_spelled b) (cond_spelled (compare_by o a b)) (expr_bytes a ++ expr_bytes b) (cond_bytes (compare_by o a b)) (compare_spelled o a b) (compare_bytes o a b) (two (expr_spelled a) (expr_spelled b) (expr_bytes a) (expr_bytes b) (expr_written a) (expr_written b))

join_written : (o : Connective) (a b : Cond) → CondWritten a → CondWritten b → CondWritten (join_by o a b)
join_written o a b left right = over (node.Join o) (cond_spelled a ++ cond_spelled b) (cond_spelled (join_by o a b)) (cond_bytes a ++ cond_bytes b) (cond_bytes (join_by o a b)) (join_spelled o a b) (join_bytes o a b) (two (cond_spelled a) (cond_spelled b) (cond_bytes a) (cond_bytes b) left right)

not_written : (a : Cond) → CondWritten a → CondWritten (test.Not a)
not_written a one = over node.Not (cond_spelled a) (cond_spelled (test.Not a)) (cond_bytes a) (cond_bytes (test.Not a)) (not_spelled a) (not_bytes a) one

cond_written : (c : Cond) → CondWritten c
cond_written = each_cond CondWritten compare_written join_written not_written

abbrev StmtWritten : Stmt → Type 0
StmtWritten s = written (stmt_spelled s) ≡ stmt_bytes s

abbrev RunWritten : List Stmt → Type 0
RunWritten xs = written (run_spelled xs) ≡ flat_map stmt_bytes xs

body_by : (xs : List Stmt) → RunWritten xs → written (body_spelled xs) ≡ body_bytes xs
body_by xs run = over (node.Block (length xs) (length (run_spelled xs))) (run_spelled xs) (body_spelled xs) (flat_map stmt_bytes xs) (body_bytes xs) refl (sym (body_is xs)) run

set_written : (slot attr : ℕ) (value : Expr) → StmtWritten (stmt.Set slot attr value)
set_written slot attr value = over (node.Set slot attr) (expr_spelled value) (stmt_spelled (stmt.Set slot attr value)) (expr_bytes value) (stmt_bytes (stmt.Set slot attr value)) (set_spelled slot attr value) (set_bytes slot attr value) (expr_written value)

if_written : (c : Cond) (xs ys : List Stmt) → RunWritten xs → RunWritten ys → StmtWritten (stmt.If c xs ys)
if_written c xs ys left right =
    let front = two (cond_spelled c) (body_spelled xs) (cond_bytes c) (body_bytes xs) (cond_written c) (body_by xs left) in
    let all = two (cond_spelled c ++ body_spelled xs) (body_spelled ys) (cond_bytes c ++ body_bytes xs) (body_bytes ys) front (body_by ys right) in
    over node.If (cond_spelled c ++ body_spelled xs ++ body_spelled ys) (stmt_spelled (stmt.If c xs ys)) (cond_bytes c ++ body_bytes xs ++ body_bytes ys) (stmt_bytes (stmt.If c xs ys)) (if_spelled c xs ys) (if_bytes c xs ys) all

run_more : (s : Stmt) (xs : List Stmt) → StmtWritten s → RunWritten xs → RunWritten (s ∷ xs)
run_more s xs one others =
    ap written (flat_map-cons stmt_spelled s xs)
    ∙ two (stmt_spelled s) (run_spelled xs) (stmt_bytes s) (flat_map stmt_bytes xs) one others
    ∙ sym (flat_map-cons stmt_bytes s xs)

runs_written : {Z : Type 0} (p : Z → Stmt) → ((z : Z) → StmtWritten (p z)) → (zs : List Z) → RunWritten (map p zs)
runs_written p each [] = refl
runs_written p each (z ∷ zs) = run_more (p z) (map p zs) (each z) (runs_written p each zs)

stmt_layer : {Z : Type 0} (p : Z → Stmt) → ((z : Z) → StmtWritten (p z)) → (y : Stmt-F Z) → StmtWritten (roll-Stmt (map-Stmt Z Stmt p y))
stmt_layer p each (Stmt-F.Set slot attr value) = subst StmtWritten (sym (stmt.rolls-Set slot attr value)) (set_written slot attr value)
stmt_layer p each (Stmt-F.If c xs ys) = subst StmtWritten (sym (stmt.rolls-If c (map p xs) (map p ys))) (if_written c (map p xs) (map p ys) (runs_written p each xs) (runs_written p each ys))

stmt_written : (s : Stmt) → StmtWritten s
stmt_written = ind-Stmt StmtWritten (λ x y is. subst (λ (z : Stmt-F Stmt). StmtWritten (roll-Stmt z)) is (stmt_layer (λ e. e.0) (λ e. e.1) y))

run_written : (xs : List Stmt) → RunWritten xs
run_written [] = refl
run_written (s ∷ xs) = run_more s xs (stmt_written s) (run_written xs)

body_written : (xs : List Stmt) → flat_map node_bytes (body_spelled xs) ≡ body_bytes xs
body_written xs = body_by xs (run_written xs)

-- The nodes that spell a body, in bytes.
pub nodes_written : (ns : List Node) (xs : List Stmt) → parts ns ≡ Block xs ∷ [] → flat_map node_bytes ns ≡ body_bytes xs
nodes_written ns xs h = ap written (body_back ns xs h) ∙ body_written xs
