-- What was written is read again, whatever follows it: the body of an action.
use Rattle.std.proofs.Common.{◌≡◌, ℕ, suc, ◌+◌, ◌-◌, ◌<◌, ◌≤◌, max, true, ◌&&◌, ℤ, pos, negsuc, List, [], ◌∷◌, ◌++◌, length, map, Option, Some, Ok, SFits, refl, sym, ap, subst, ◌∙◌, append_assoc, arith, int_le}
use Rattle.std.specs.List.{flat_map, AllByRecursion}
use Rattle.std.specs.Int.{w64}
use Rattle.std.proofs.lemmas.Bool.{lt-ltb, leb-true}
use Rattle.std.proofs.lemmas.List.{length-map}
use Rattle.sv_world.specs.Trees.{expr_nodes, cond_nodes, stmt_nodes, body_nodes, expr_depth, cond_depth, stmt_depth, body_depth, all_true}
use Rattle.sv_world.specs.declared.action.Expr.{Expr}
use Rattle.sv_world.specs.declared.action.Expr.TheVariants as expr
use Rattle.sv_world.specs.declared.action.Cond.{Cond}
use Rattle.sv_world.specs.declared.action.Cond.TheVariants as test
use Rattle.sv_world.specs.declared.action.Stmt.{Stmt}
use Rattle.sv_world.specs.declared.action.Stmt.TheVariants as stmt
use Rattle.sv_world.specs.declared.node.Operator.{Operator}
use Rattle.sv_wire.specs.declared.nodes.ExprKind.TheVariants as expr_kind
use Rattle.sv_world.specs.declared.node.Comparison.{Comparison}
use Rattle.sv_world.specs.declared.node.Connective.{Connective}
use Rattle.sv_wire.specs.declared.nodes.CondKind.TheVariants as cond_kind
use Rattle.sv_wire.specs.declared.nodes.StmtKind.TheVariants as stmt_kind
use Rattle.sv_wire.specs.Steps.{Turn, in_turn}
use Rattle.sv_wire.specs.Fields.{byte_from}
use Rattle.sv_world.specs.Parts.{binary_by as expr_by, compare_by, join_by}
use Rattle.sv_wire.specs.Nodes.{room_at, node_from, expr_kind_of, cond_kind_of, stmt_kind_of}
use Rattle.sv_wire.specs.Trees.{lit_from, attr_from, pair_from, expr_level, expr_from, compare_from, join_from, not_from, cond_level, cond_from, set_from, list_by, other_from, lists_from, if_from, stmt_level, stmt_from, body_from}
use Rattle.sv_wire.specs.Spelling.{operator_byte, comparison_byte, connective_byte, int_bytes, expr_bytes, cond_bytes, with_count, stmt_bytes, body_bytes}
use Rattle.sv_world.specs.Ranges.{is_i64, is_byte, expr_fits, cond_fits, stmt_fits}
use Rattle.sv_wire.proofs.Trees.{expr_from_is, cond_from_is, stmt_from_is}
use Rattle.sv_wire.proofs.Append.{nodes_more}
use Rattle.sv_wire.proofs.Again.{int64_again, and_left, and_right}
use Rattle.sv_world.proofs.Ranged.{binary_fits as fits_by, lit_fits, compare_fits, join_fits, not_fits, set_fits, if_fits}
use Rattle.sv_world.proofs.TreeInduction.{each_expr, each_cond, all_stmts}
use Rattle.sv_world.proofs.TreeMeasures.{pair_nodes, pair_depth, lit_nodes, lit_depth, attr_nodes, attr_depth, test_nodes, test_depth, joint_nodes, joint_depth, not_nodes, not_depth, set_nodes, set_depth, if_nodes, if_depth}
use Rattle.sv_wire.proofs.Layers.{bytes_by, kind_by, lit_bytes, attr_bytes, compare_bytes, compare_kind, join_bytes, join_kind, not_bytes, set_bytes, if_bytes}

node_again : {K : Type 0} (kind_of : ℕ → Option K) (kind : K) (b : ℕ) → kind_of b ≡ Some kind → (depth nodes : ℕ) (rest : List ℕ) → 0 < depth → nodes < 64 → node_from kind_of depth nodes (b ∷ rest) ≡ Ok (kind, rest)
unfolding node_from byte_from room_at
node_again kind_of kind b is depth nodes rest deep few = rw (is, lt-ltb nodes 64 few, lt-ltb 0 depth deep) refl

is_signed : (z : ℤ) → is_i64 z ≡ true → SFits w64 z
is_signed (pos n) e = record { sfits = omega (arith, leb-true n 9223372036854775807 e) }
is_signed (negsuc n) e = record { sfits = omega (arith, leb-true n 9223372036854775807 (and_left (int_le (negsuc 9223372036854775807) (negsuc n)) (int_le (negsuc n) (pos 9223372036854775807)) e)) }

-- The bytes may be written in two ways, and so may the number of nodes.
along : {X : Type 0} (reader : List ℕ → Turn X) (a b : List ℕ) (x : X) (m n : ℕ) (rest : List ℕ) → a ≡ b → m ≡ n → reader b ≡ Ok (x, m, rest) → reader a ≡ Ok (x, n, rest)
along {X = X} reader a b x m n rest p q h = ap reader p ∙ subst (λ (k : ℕ). reader b ≡ Ok (x, k, rest)) q h

-- ---- expressions

abbrev pub ExprAgain : Expr → Type 0
ExprAgain e = (depth nodes : ℕ) (rest : List ℕ) → expr_fits e ≡ true → expr_depth e ≤ depth → nodes + expr_nodes e ≤ 64 → expr_from depth nodes (expr_bytes e ++ rest) ≡ Ok (e, nodes + expr_nodes e, rest)

lit_read : (n : ℤ) (depth nodes : ℕ) (rest : List ℕ) → SFits w64 n → 0 < depth → nodes < 64 → expr_from depth nodes (0x20 ∷ (int_bytes w64 n ++ rest)) ≡ Ok (expr.Lit n, nodes + 1, rest)
unfolding expr_level expr_kind_of lit_from
lit_read n depth nodes rest fits deep few =
    expr_from_is depth nodes (0x20 ∷ (int_bytes w64 n ++ rest)) deep
    ∙ rw (node_again expr_kind_of expr_kind.Lit 0x20 refl depth nodes (int_bytes w64 n ++ rest) deep few, int64_again n rest fits) refl

lit_again : (n : ℤ) → ExprAgain (expr.Lit n)
lit_again n depth nodes rest fits deep few =
    let count = lit_nodes n in
    let level = lit_depth n in
    along (expr_from depth nodes) (expr_bytes (expr.Lit n) ++ rest) (0x20 ∷ (int_bytes w64 n ++ rest)) (expr.Lit n) (nodes + 1) (nodes + expr_nodes (expr.Lit n)) rest
    (ap (λ (t : List ℕ). t ++ rest) (lit_bytes n)) (omega arith) (lit_read n depth nodes rest (is_signed n (sym (lit_fits n) ∙ fits)) (omega arith) (omega arith))

attr_read : (slot attr depth nodes : ℕ) (rest : List ℕ) → 0 < depth → nodes < 64 → expr_from depth nodes (0x21 ∷ slot ∷ attr ∷ rest) ≡ Ok (expr.Attr slot attr, nodes + 1, rest)
unfolding expr_level expr_kind_of attr_from byte_from
attr_read slot attr depth nodes rest deep few =
    expr_from_is depth nodes (0x21 ∷ slot ∷ attr ∷ rest) deep
    ∙ rw (node_again expr_kind_of expr_kind.Attr 0x21 refl depth nodes (slot ∷ attr ∷ rest) deep few) refl

attr_again : (slot attr : ℕ) → ExprAgain (expr.Attr slot attr)
attr_again slot attr depth nodes rest fits deep few =
    let count = attr_nodes slot attr in
    let level = attr_depth slot attr in
    along (expr_from depth nodes) (expr_bytes (expr.Attr slot attr) ++ rest) (0x21 ∷ slot ∷ attr ∷ rest) (expr.Attr slot attr) (nodes + 1) (nodes + expr_nodes (expr.Attr slot attr)) rest
    (ap (λ (t : List ℕ). t ++ rest) (attr_bytes slot attr)) (omega arith) (attr_read slot attr depth nodes rest (omega arith) (omega arith))

pair_read : (o : Operator) (a b : Expr) → ExprAgain a → ExprAgain b → (depth nodes : ℕ) (rest : List ℕ) → expr_fits a ≡ true → expr_fits b ≡ true → expr_depth a < depth → expr_depth b < depth → nodes + 1 + expr_nodes a + expr_nodes b ≤ 64
    → expr_from depth nodes (operator_byte o ∷ (expr_bytes a ++ (expr_bytes b ++ rest))) ≡ Ok (expr_by o a b, nodes + 1 + expr_nodes a + expr_nodes b, rest)
unfolding expr_level pair_from
pair_read o a b p q depth nodes rest fa fb da db few =
    expr_from_is depth nodes (operator_byte o ∷ (expr_bytes a ++ (expr_bytes b ++ rest))) (omega arith)
    ∙ rw (
      node_again expr_kind_of (expr_kind.Both o) (operator_byte o) (kind_by o) depth nodes (expr_bytes a ++ (expr_bytes b ++ rest)) (omega arith) (omega arith),
      p (depth - 1) (nodes + 1) (expr_bytes b ++ rest) fa (omega arith) (omega arith),
      q (depth - 1) (nodes + 1 + expr_nodes a) rest fb (omega arith) (omega arith),
    ) refl

pair_again : (o : Operator) (a b : Expr) → ExprAgain a → ExprAgain b → ExprAgain (expr_by o a b)
pair_again o a b p q depth nodes rest fits deep few =
    let count = pair_nodes o a b in
    let level = pair_depth o a b in
    let both = sym (fits_by o a b) ∙ fits in
    along (expr_from depth nodes) (expr_bytes (expr_by o a b) ++ rest) (operator_byte o ∷ (expr_bytes a ++ (expr_bytes b ++ rest))) (expr_by o a b) (nodes + 1 + expr_nodes a + expr_nodes b) (nodes + expr_nodes (expr_by o a b)) rest
    (ap (λ (t : List ℕ). t ++ rest) (bytes_by o a b) ∙ ap (λ (t : List ℕ). operator_byte o ∷ t) (append_assoc (expr_bytes a) (expr_bytes b) rest))
    (omega arith)
    (pair_read o a b p q depth nodes rest (and_left (expr_fits a) (expr_fits b) both) (and_right (expr_fits a) (expr_fits b) both) (omega arith) (omega arith) (omega arith))

pub expr_again : (e : Expr) → ExprAgain e
expr_again = each_expr ExprAgain lit_again attr_again pair_again

-- ---- conditions

abbrev pub CondAgain : Cond → Type 0
CondAgain c = (depth nodes : ℕ) (rest : List ℕ) → cond_fits c ≡ true → cond_depth c ≤ depth → nodes + cond_nodes c ≤ 64 → cond_from depth nodes (cond_bytes c ++ rest) ≡ Ok (c, nodes + cond_nodes c, rest)

compare_read : (o : Comparison) (a b : Expr) (depth nodes : ℕ) (rest : List ℕ) → expr_fits a ≡ true → expr_fits b ≡ true → expr_depth a < depth → expr_depth b < depth → nodes + 1 + expr_nodes a + expr_nodes b ≤ 64
    → cond_from depth nodes (comparison_byte o ∷ (expr_bytes a ++ (expr_bytes b ++ rest))) ≡ Ok (compare_by o a b, nodes + 1 + expr_nodes a + expr_nodes b, rest)
unfolding cond_level compare_from
compare_read o a b depth nodes rest fa fb da db few =
    cond_from_is depth nodes (comparison_byte o ∷ (expr_bytes a ++ (expr_bytes b ++ rest))) (omega arith)
    ∙ rw (
      node_again cond_kind_of (cond_kind.Compare o) (comparison_byte o) (compare_kind o) depth nodes (expr_bytes a ++ (expr_bytes b ++ rest)) (omega arith) (omega arith),
      expr_again a (depth - 1) (nodes + 1) (expr_bytes b ++ rest) fa (omega arith) (omega arith),
      expr_again b (depth - 1) (nodes + 1 + expr_nodes a) rest fb (omega arith) (omega arith),
    ) refl

compare_again : (o : Comparison) (a b : Expr) → CondAgain (compare_by o a b)
compare_again o a b depth nodes rest fits deep few =
    let count = test_nodes o a b in
    let level = test_depth o a b in
    let both = sym (compare_fits o a b) ∙ fits in
    along (cond_from depth nodes) (cond_bytes (compare_by o a b) ++ rest) (comparison_byte o ∷ (expr_bytes a ++ (expr_bytes b ++ rest))) (compare_by o a b) (nodes + 1 + expr_nodes a + expr_nodes b) (nodes + cond_nodes (compare_by o a b)) rest
    (ap (λ (t : List ℕ). t ++ rest) (compare_bytes o a b) ∙ ap (λ (t : List ℕ). comparison_byte o ∷ t) (append_assoc (expr_bytes a) (expr_bytes b) rest))
    (omega arith)
    (compare_read o a b depth nodes rest (and_left (expr_fits a) (expr_fits b) both) (and_right (expr_fits a) (expr_fits b) both) (omega arith) (omega arith) (omega arith))

join_read : (o : Connective) (a b : Cond) → CondAgain a → CondAgain b → (depth nodes : ℕ) (rest : List ℕ) → cond_fits a ≡ true → cond_fits b ≡ true → cond_depth a < depth → cond_depth b < depth → nodes + 1 + cond_nodes a + cond_nodes b ≤ 64
    → cond_from depth nodes (connective_byte o ∷ (cond_bytes a ++ (cond_bytes b ++ rest))) ≡ Ok (join_by o a b, nodes + 1 + cond_nodes a + cond_nodes b, rest)
unfolding cond_level join_from
join_read o a b p q depth nodes rest fa fb da db few =
    cond_from_is depth nodes (connective_byte o ∷ (cond_bytes a ++ (cond_bytes b ++ rest))) (omega arith)
    ∙ rw (
      node_again cond_kind_of (cond_kind.Both o) (connective_byte o) (join_kind o) depth nodes (cond_bytes a ++ (cond_bytes b ++ rest)) (omega arith) (omega arith),
      p (depth - 1) (nodes + 1) (cond_bytes b ++ rest) fa (omega arith) (omega arith),
      q (depth - 1) (nodes + 1 + cond_nodes a) rest fb (omega arith) (omega arith),
    ) refl

join_again : (o : Connective) (a b : Cond) → CondAgain a → CondAgain b → CondAgain (join_by o a b)
join_again o a b p q depth nodes rest fits deep few =
    let count = joint_nodes o a b in
    let level = joint_depth o a b in
    let both = sym (join_fits o a b) ∙ fits in
    along (cond_from depth nodes) (cond_bytes (join_by o a b) ++ rest) (connective_byte o ∷ (cond_bytes a ++ (cond_bytes b ++ rest))) (join_by o a b) (nodes + 1 + cond_nodes a + cond_nodes b) (nodes + cond_nodes (join_by o a b)) rest
    (ap (λ (t : List ℕ). t ++ rest) (join_bytes o a b) ∙ ap (λ (t : List ℕ). connective_byte o ∷ t) (append_assoc (cond_bytes a) (cond_bytes b) rest))
    (omega arith)
    (join_read o a b p q depth nodes rest (and_left (cond_fits a) (cond_fits b) both) (and_right (cond_fits a) (cond_fits b) both) (omega arith) (omega arith) (omega arith))

not_read : (a : Cond) → CondAgain a → (depth nodes : ℕ) (rest : List ℕ) → cond_fits a ≡ true → cond_depth a < depth → nodes + 1 + cond_nodes a ≤ 64 → cond_from depth nodes (0x35 ∷ (cond_bytes a ++ rest)) ≡ Ok (test.Not a, nodes + 1 + cond_nodes a, rest)
unfolding cond_level not_from cond_kind_of
not_read a p depth nodes rest fa da few =
    cond_from_is depth nodes (0x35 ∷ (cond_bytes a ++ rest)) (omega arith)
    ∙ rw (
      node_again cond_kind_of cond_kind.Not 0x35 refl depth nodes (cond_bytes a ++ rest) (omega arith) (omega arith),
      p (depth - 1) (nodes + 1) rest fa (omega arith) (omega arith),
    ) refl

not_again : (a : Cond) → CondAgain a → CondAgain (test.Not a)
not_again a p depth nodes rest fits deep few =
    let count = not_nodes a in
    let level = not_depth a in
    along (cond_from depth nodes) (cond_bytes (test.Not a) ++ rest) (0x35 ∷ (cond_bytes a ++ rest)) (test.Not a) (nodes + 1 + cond_nodes a) (nodes + cond_nodes (test.Not a)) rest
    (ap (λ (t : List ℕ). t ++ rest) (not_bytes a)) (omega arith) (not_read a p depth nodes rest (sym (not_fits a) ∙ fits) (omega arith) (omega arith))

pub cond_again : (c : Cond) → CondAgain c
cond_again = each_cond CondAgain compare_again join_again not_again

-- ---- statements

abbrev pub StmtAgain : Stmt → Type 0
StmtAgain s = (depth nodes : ℕ) (rest : List ℕ) → stmt_fits s ≡ true → stmt_depth s ≤ depth → nodes + stmt_nodes s ≤ 64 → stmt_from depth nodes (stmt_bytes s ++ rest) ≡ Ok (s, nodes + stmt_nodes s, rest)

set_read : (slot attr : ℕ) (value : Expr) (depth nodes : ℕ) (rest : List ℕ) → expr_fits value ≡ true → expr_depth value < depth → nodes + 1 + expr_nodes value ≤ 64
    → stmt_from depth nodes (0x10 ∷ slot ∷ attr ∷ (expr_bytes value ++ rest)) ≡ Ok (stmt.Set slot attr value, nodes + 1 + expr_nodes value, rest)
unfolding stmt_level stmt_kind_of set_from byte_from
set_read slot attr value depth nodes rest fits deep few =
    stmt_from_is depth nodes (0x10 ∷ slot ∷ attr ∷ (expr_bytes value ++ rest)) (omega arith)
    ∙ rw (
      node_again stmt_kind_of stmt_kind.Set 0x10 refl depth nodes (slot ∷ attr ∷ (expr_bytes value ++ rest)) (omega arith) (omega arith),
      expr_again value (depth - 1) (nodes + 1) rest fits (omega arith) (omega arith),
    ) refl

set_again : (slot attr : ℕ) (value : Expr) → StmtAgain (stmt.Set slot attr value)
set_again slot attr value depth nodes rest fits deep few =
    let count = set_nodes slot attr value in
    let level = set_depth slot attr value in
    let parts = sym (set_fits slot attr value) ∙ fits in
    let most = and_right (is_byte slot) (is_byte attr && expr_fits value) parts in
    along (stmt_from depth nodes) (stmt_bytes (stmt.Set slot attr value) ++ rest) (0x10 ∷ slot ∷ attr ∷ (expr_bytes value ++ rest)) (stmt.Set slot attr value) (nodes + 1 + expr_nodes value) (nodes + stmt_nodes (stmt.Set slot attr value)) rest
    (ap (λ (t : List ℕ). t ++ rest) (set_bytes slot attr value)) (omega arith)
    (set_read slot attr value depth nodes rest (and_right (is_byte attr) (expr_fits value) most) (omega arith) (omega arith))

turns_again : (xs : List Stmt) → AllByRecursion StmtAgain xs → (depth nodes : ℕ) (rest : List ℕ) → all_true (map stmt_fits xs) ≡ true → body_depth xs ≤ depth → nodes + body_nodes xs ≤ 64
    → in_turn (λ n r. stmt_from depth n r) (length xs) nodes (flat_map (λ x. x) (map stmt_bytes xs) ++ rest) ≡ Ok (xs, nodes + body_nodes xs, rest)
unfolding in_turn
turns_again [] each depth nodes rest fits deep few =
    let e : nodes ≡ nodes + 0 = omega arith in
    ap (λ (k : ℕ). Ok ([], k, rest)) e
turns_again (x ∷ xs) each depth nodes rest fits deep few =
    let more = flat_map (λ (t : List ℕ). t) (map stmt_bytes xs) in
    let count = nodes_more x xs in
    let level : body_depth (x ∷ xs) ≡ max (stmt_depth x) (body_depth xs) = refl in
    let regrouped : (stmt_bytes x ++ more) ++ rest ≡ stmt_bytes x ++ (more ++ rest) = append_assoc (stmt_bytes x) more rest in
    let first = each.0 depth nodes (more ++ rest) (and_left (stmt_fits x) (all_true (map stmt_fits xs)) fits) (omega arith) (omega arith) in
    let others = turns_again xs each.1 depth (nodes + stmt_nodes x) rest (and_right (stmt_fits x) (all_true (map stmt_fits xs)) fits) (omega arith) (omega arith) in
    let total : nodes + stmt_nodes x + body_nodes xs ≡ nodes + body_nodes (x ∷ xs) = omega (arith, count) in
    along (in_turn (λ n r. stmt_from depth n r) (suc (length xs)) nodes) ((stmt_bytes x ++ more) ++ rest) (stmt_bytes x ++ (more ++ rest)) (x ∷ xs) (nodes + stmt_nodes x + body_nodes xs) (nodes + body_nodes (x ∷ xs)) rest
    regrouped total (rw (first, others) refl)

list_again : (xs : List Stmt) → AllByRecursion StmtAgain xs → (depth nodes : ℕ) (rest : List ℕ) → all_true (map stmt_fits xs) ≡ true → body_depth xs ≤ depth → nodes + body_nodes xs ≤ 64
    → list_by (λ n r. stmt_from depth n r) nodes (with_count (map stmt_bytes xs) ++ rest) ≡ Ok (xs, nodes + body_nodes xs, rest)
unfolding list_by byte_from
list_again xs each depth nodes rest fits deep few = rw (length-map xs stmt_bytes) (turns_again xs each depth nodes rest fits deep few)

if_read : (c : Cond) (xs ys : List Stmt) → AllByRecursion StmtAgain xs → AllByRecursion StmtAgain ys → (depth nodes : ℕ) (rest : List ℕ) → cond_fits c ≡ true → all_true (map stmt_fits xs) ≡ true → all_true (map stmt_fits ys) ≡ true
    → cond_depth c < depth → body_depth xs < depth → body_depth ys < depth → nodes + 1 + cond_nodes c + body_nodes xs + body_nodes ys ≤ 64
    → stmt_from depth nodes (0x11 ∷ (cond_bytes c ++ (with_count (map stmt_bytes xs) ++ (with_count (map stmt_bytes ys) ++ rest)))) ≡ Ok (stmt.If c xs ys, nodes + 1 + cond_nodes c + body_nodes xs + body_nodes ys, rest)
unfolding stmt_level stmt_kind_of if_from lists_from other_from
if_read c xs ys p q depth nodes rest fc fx fy dc dx dy few =
    let third = with_count (map stmt_bytes ys) ++ rest in
    let second = with_count (map stmt_bytes xs) ++ third in
    stmt_from_is depth nodes (0x11 ∷ (cond_bytes c ++ second)) (omega arith)
    ∙ rw (
      node_again stmt_kind_of stmt_kind.If 0x11 refl depth nodes (cond_bytes c ++ second) (omega arith) (omega arith),
      cond_again c (depth - 1) (nodes + 1) second fc (omega arith) (omega arith),
      list_again xs p (depth - 1) (nodes + 1 + cond_nodes c) third fx (omega arith) (omega arith),
      list_again ys q (depth - 1) (nodes + 1 + cond_nodes c + body_nodes xs) rest fy (omega arith) (omega arith),
    ) refl

if_again : (c : Cond) (xs ys : List Stmt) → AllByRecursion StmtAgain xs → AllByRecursion StmtAgain ys → StmtAgain (stmt.If c xs ys)
if_again c xs ys p q depth nodes rest fits deep few =
    let count = if_nodes c xs ys in
    let level = if_depth c xs ys in
    let parts = sym (if_fits c xs ys) ∙ fits in
    let lists = and_right (cond_fits c) (all_true (map stmt_fits xs) && all_true (map stmt_fits ys)) parts in
    let bx = with_count (map stmt_bytes xs) in
    let by = with_count (map stmt_bytes ys) in
    along (stmt_from depth nodes) (stmt_bytes (stmt.If c xs ys) ++ rest) (0x11 ∷ (cond_bytes c ++ (bx ++ (by ++ rest)))) (stmt.If c xs ys) (nodes + 1 + cond_nodes c + body_nodes xs + body_nodes ys) (nodes + stmt_nodes (stmt.If c xs ys)) rest
    (ap (λ (t : List ℕ). t ++ rest) (if_bytes c xs ys) ∙ ap (λ (t : List ℕ). 0x11 ∷ t) (append_assoc (cond_bytes c ++ bx) by rest ∙ append_assoc (cond_bytes c) bx (by ++ rest)))
    (omega arith)
    (if_read c xs ys p q depth nodes rest (and_left (cond_fits c) (all_true (map stmt_fits xs) && all_true (map stmt_fits ys)) parts)
    (and_left (all_true (map stmt_fits xs)) (all_true (map stmt_fits ys)) lists) (and_right (all_true (map stmt_fits xs)) (all_true (map stmt_fits ys)) lists) (omega arith) (omega arith) (omega arith) (omega arith))

all_again : (xs : List Stmt) → AllByRecursion StmtAgain xs
all_again = all_stmts StmtAgain set_again if_again

pub body_again : (xs : List Stmt) (rest : List ℕ) → all_true (map stmt_fits xs) ≡ true → body_depth xs ≤ 8 → body_nodes xs ≤ 64 → body_from (body_bytes xs ++ rest) ≡ Ok (xs, rest)
unfolding body_from
body_again xs rest fits deep few = rw (list_again xs (all_again xs) 8 0 rest fits deep (omega arith)) refl
