-- How many bytes a body has at most: nine for each node.
use Rattle.std.proofs.Common.{◌≡◌, ℕ, zero, suc, ◌+◌, ◌*◌, ◌<◌, ◌≤◌, Bool, true, false, cond, ltb, List, [], ◌∷◌, length, Option, Some, None, Result, Ok, Err, refl, subst, arith}
use Rattle.std.specs.Int.{w64}
use Rattle.std.proofs.lemmas.Bool.{ltb-true}
use Rattle.sv_world.specs.declared.action.Expr.{Expr}
use Rattle.sv_world.specs.declared.action.Cond.{Cond}
use Rattle.sv_world.specs.declared.action.Stmt.{Stmt}
use Rattle.sv_wire.specs.declared.fault.Stop.{Stop}
use Rattle.sv_wire.specs.declared.fault.WireCause.TheVariants.{Short, Kind, Large, Deep}
use Rattle.sv_world.specs.declared.node.Operator.{Operator}
use Rattle.sv_world.specs.declared.node.Comparison.{Comparison}
use Rattle.sv_world.specs.declared.node.Connective.{Connective}
use Rattle.sv_wire.specs.declared.nodes.ExprKind.{ExprKind}
use Rattle.sv_wire.specs.declared.nodes.ExprKind.TheVariants as expr_kind
use Rattle.sv_wire.specs.declared.nodes.CondKind.{CondKind}
use Rattle.sv_wire.specs.declared.nodes.CondKind.TheVariants as cond_kind
use Rattle.sv_wire.specs.declared.nodes.StmtKind.{StmtKind}
use Rattle.sv_wire.specs.declared.nodes.StmtKind.TheVariants as stmt_kind
use Rattle.sv_wire.specs.Steps.{◌>>=◌, Read, Turn, stop, in_turn}
use Rattle.sv_wire.specs.Fields.{byte_from, int_from}
use Rattle.sv_wire.specs.Nodes.{kind_in, room_at, node_from, expr_kind_of, cond_kind_of, stmt_kind_of}
use Rattle.sv_wire.specs.Trees.{Reader, no_level, lit_from, attr_from, pair_from, expr_of, expr_level, expr_from, compare_from, join_from, not_from, cond_of, cond_level, cond_from, set_from, list_by, other_from, lists_from, if_from, stmt_of, stmt_level, stmt_from, body_from}
use Rattle.sv_wire.proofs.Near.{left2, left3, Near, near_done, near_then, ok_is, err_is, failed_is}
use Rattle.sv_wire.proofs.NearFields.{byte_near, int_near}

-- Reading a tree from n bytes, with so many nodes before it, takes nine bytes a node at most, and k.
pub record NearTree {X : Type 0} (k n nodes : ℕ) (read : Turn X) : Type 0 where
  pub ok : (x : X × ℕ × List ℕ) → read ≡ Ok x → (length x.2 ≤ n) × (x.1 ≤ 64) × (n + 9 * nodes ≤ length x.2 + 9 * x.1 + k)
  pub err : (s : Stop) → read ≡ Err s → (s.left ≤ n) × (n + 9 * nodes ≤ s.left + 576 + k)

tree_done : {X : Type 0} (k nodes : ℕ) (x : X) (rest : List ℕ) → nodes ≤ 64 → NearTree k (length rest) nodes (Ok (x, nodes, rest))
tree_done {X = X} k nodes x rest few =
    record {
      ok = λ y e. subst (λ (z : X × ℕ × List ℕ). (length z.2 ≤ length rest) × (z.1 ≤ 64) × (length rest + 9 * nodes ≤ length z.2 + 9 * z.1 + k)) (ok_is (x, nodes, rest) y e) (omega arith, few, omega arith);
      err = λ s e. absurd cc;
    }

tree_stop : {X : Type 0} (k n nodes : ℕ) (s : Stop) → nodes ≤ 64 → s.left ≡ n → NearTree {X = X} k n nodes (Err s)
tree_stop {X = X} k n nodes s few is =
    record {
      ok = λ y e. absurd cc;
      err = λ t e. subst (λ (v : Stop). (v.left ≤ n) × (n + 9 * nodes ≤ v.left + 576 + k)) (err_is {X = X × ℕ × List ℕ} s t e) (omega arith, omega arith);
    }

tree_more : {X : Type 0} (j k n nodes : ℕ) (read : Turn X) → j ≤ k → NearTree j n nodes read → NearTree k n nodes read
tree_more j k n nodes read le near =
    record {
      ok = λ x e. let a = near.ok x e in (a.0, a.1, omega arith);
      err = λ s e. let a = near.err s e in (a.0, omega arith);
    }

tree_then : {X Y : Type 0} (j k t n nodes : ℕ) (read : Turn X) (f : X × ℕ × List ℕ → Turn Y) → j + k ≤ t → NearTree j n nodes read → ((x : X × ℕ × List ℕ) → x.1 ≤ 64 → NearTree k (length x.2) x.1 (f x)) → NearTree t n nodes (read >>= f)
tree_then j k t n nodes (Ok x) f le near next =
    let a = near.ok x refl in
    let r = next x a.1 in
    record {
      ok = λ y e. let b = r.ok y e in (omega arith, b.1, omega arith);
      err = λ s e. let b = r.err s e in (omega arith, omega arith);
    }
tree_then {X = X} {Y = Y} j k t n nodes (Err s) f le near next =
    record {
      ok = λ y e. absurd cc;
      err = λ u e. let a = near.err u (failed_is {X = Y × ℕ × List ℕ} {Y = X × ℕ × List ℕ} s u e) in (a.0, omega arith);
    }

field_then : {X Y : Type 0} (c k t n nodes : ℕ) (read : Read X) (f : X × List ℕ → Turn Y) → c + k ≤ t → nodes ≤ 64 → Near left2 c n read → ((x : X × List ℕ) → NearTree k (length x.1) nodes (f x)) → NearTree t n nodes (read >>= f)
field_then c k t n nodes (Ok x) f le few near next =
    let a = near.ok x refl in
    let r = next x in
    record {
      ok = λ y e. let b = r.ok y e in (omega arith, b.1, omega arith);
      err = λ s e. let b = r.err s e in (omega arith, omega arith);
    }
field_then {X = X} {Y = Y} c k t n nodes (Err s) f le few near next =
    record {
      ok = λ y e. absurd cc;
      err = λ u e. let a = near.err u (failed_is {X = Y × ℕ × List ℕ} {Y = X × List ℕ} s u e) in (a.0, omega arith);
    }

-- A node takes one byte, and there are fewer than 64 before it; reading may also stop at this byte.
record NodeIs {K : Type 0} (nodes n : ℕ) (read : Read K) : Type 0 where
  ok : (x : K × List ℕ) → read ≡ Ok x → (nodes < 64) × (n ≡ suc (length x.1))
  err : (s : Stop) → read ≡ Err s → s.left ≡ n

node_stop : {K : Type 0} (nodes n : ℕ) (s : Stop) → s.left ≡ n → NodeIs {K = K} nodes n (Err s)
node_stop {K = K} nodes n s is = record { ok = λ x e. absurd cc; err = λ t e. subst (λ (v : Stop). v.left ≡ n) (err_is {X = K × List ℕ} s t e) is }

abbrev room : Bool → Bool → List ℕ → Result (Unit {0}) Stop
room p q bytes = cond p (cond q (Ok tt) (stop bytes Deep)) (stop bytes Large)

room_is : {K : Type 0} (p q : Bool) (nodes b : ℕ) (bs : List ℕ) (kind : K) → (p ≡ true → nodes < 64) → NodeIs nodes (suc (length bs)) (room p q (b ∷ bs) >>= λ _. Ok (kind, bs))
room_is {K = K} true true nodes b bs kind few = record { ok = λ x e. subst (λ (y : K × List ℕ). (nodes < 64) × (suc (length bs) ≡ suc (length y.1))) (ok_is (kind, bs) x e) (few refl, refl); err = λ t e. absurd cc }
room_is true false nodes b bs kind few = node_stop nodes (suc (length bs)) (record { left = length (b ∷ bs); cause = Deep }) refl
room_is false q nodes b bs kind few = node_stop nodes (suc (length bs)) (record { left = length (b ∷ bs); cause = Large }) refl

kind_is : {K : Type 0} (o : Option K) (depth nodes b : ℕ) (bs : List ℕ) → NodeIs nodes (suc (length bs)) (kind_in o (b ∷ bs) >>= λ kind. room_at depth nodes (b ∷ bs) >>= λ _. Ok (kind, bs))
unfolding room_at
kind_is None depth nodes b bs = node_stop nodes (suc (length bs)) (record { left = length (b ∷ bs); cause = Kind }) refl
kind_is (Some kind) depth nodes b bs = room_is (ltb nodes 64) (ltb 0 depth) nodes b bs kind (λ e. omega (arith, ltb-true nodes 64 e))

node_is : {K : Type 0} (kind_of : ℕ → Option K) (depth nodes : ℕ) (bytes : List ℕ) → NodeIs nodes (length bytes) (node_from kind_of depth nodes bytes)
unfolding node_from byte_from
node_is kind_of depth nodes [] = node_stop nodes 0 (record { left = 0; cause = Short }) refl
node_is kind_of depth nodes (b ∷ bs) = kind_is (kind_of b) depth nodes b bs

after_node : {K X : Type 0} (nodes n : ℕ) (read : Read K) (f : K × List ℕ → Turn X) → nodes ≤ 64 → NodeIs nodes n read → ((x : K × List ℕ) → nodes + 1 ≤ 64 → NearTree 8 (length x.1) (nodes + 1) (f x)) → NearTree 0 n nodes (read >>= f)
after_node nodes n (Ok x) f few node next =
    let a = node.ok x refl in
    let r = next x (omega arith) in
    record {
      ok = λ y e. let b = r.ok y e in (omega arith, b.1, omega arith);
      err = λ s e. let b = r.err s e in (omega arith, omega arith);
    }
after_node {K = K} {X = X} nodes n (Err s) f few node next =
    record {
      ok = λ y e. absurd cc;
      err = λ u e. let a = node.err u (failed_is {X = X × ℕ × List ℕ} {Y = K × List ℕ} s u e) in (omega arith, omega arith);
    }

-- what reads trees within nine bytes a node
abbrev pub IsNear : {X : Type 0} → Reader X → Type 0
IsNear reader = (nodes : ℕ) (bytes : List ℕ) → nodes ≤ 64 → NearTree 0 (length bytes) nodes (reader nodes bytes)

no_level_near : {X : Type 0} → IsNear (no_level {A = X})
no_level_near nodes bytes few = tree_stop 0 (length bytes) nodes (record { left = length bytes; cause = Deep }) few refl

turns_near : {X : Type 0} (reader : Reader X) → IsNear reader → (n : ℕ) → IsNear (λ nodes bytes. in_turn reader n nodes bytes)
unfolding in_turn
turns_near reader each zero nodes bytes few = tree_done 0 nodes [] bytes few
turns_near reader each (suc n) nodes bytes few =
    tree_then 0 0 0 (length bytes) nodes (reader nodes bytes) _ (omega arith) (each nodes bytes few)
    (λ first more. tree_then 0 0 0 (length first.2) first.1 (in_turn reader n first.1 first.2) _ (omega arith) (turns_near reader each n first.1 first.2 more)
    (λ others most. tree_done 0 others.1 (first.0 ∷ others.0) others.2 most))

-- ---- expressions

lit_near : (nodes : ℕ) (bytes : List ℕ) → nodes ≤ 64 → NearTree 8 (length bytes) nodes (lit_from nodes bytes)
unfolding lit_from
lit_near nodes bytes few =
    field_then 8 0 8 (length bytes) nodes (int_from w64 bytes) _ (omega arith) few (int_near w64 bytes) (λ n. tree_done 0 nodes _ n.1 few)

attr_near : (nodes : ℕ) (bytes : List ℕ) → nodes ≤ 64 → NearTree 8 (length bytes) nodes (attr_from nodes bytes)
unfolding attr_from
attr_near nodes bytes few =
    field_then 1 1 8 (length bytes) nodes (byte_from bytes) _ (omega arith) few (byte_near bytes)
    (λ slot. field_then 1 0 1 (length slot.1) nodes (byte_from slot.1) _ (omega arith) few (byte_near slot.1) (λ attr. tree_done 0 nodes _ attr.1 few))

pair_near : (reader : Reader Expr) (operator : Operator) → IsNear reader → (nodes : ℕ) (bytes : List ℕ) → nodes ≤ 64 → NearTree 8 (length bytes) nodes (pair_from reader operator nodes bytes)
unfolding pair_from
pair_near reader operator each nodes bytes few =
    tree_then 0 0 8 (length bytes) nodes (reader nodes bytes) _ (omega arith) (each nodes bytes few)
    (λ a more. tree_then 0 0 0 (length a.2) a.1 (reader a.1 a.2) _ (omega arith) (each a.1 a.2 more) (λ b most. tree_done 0 b.1 _ b.2 most))

expr_of_near : (reader : Reader Expr) → IsNear reader → (kind : ExprKind) (nodes : ℕ) (bytes : List ℕ) → nodes ≤ 64 → NearTree 8 (length bytes) nodes (expr_of reader kind nodes bytes)
expr_of_near reader each expr_kind.Lit nodes bytes few = lit_near nodes bytes few
expr_of_near reader each expr_kind.Attr nodes bytes few = attr_near nodes bytes few
expr_of_near reader each (expr_kind.Both operator) nodes bytes few = pair_near reader operator each nodes bytes few

expr_level_near : (reader : Reader Expr) → IsNear reader → (depth : ℕ) → IsNear (expr_level reader depth)
unfolding expr_level
expr_level_near reader each depth nodes bytes few =
    after_node nodes (length bytes) (node_from expr_kind_of depth nodes bytes) _ few (node_is expr_kind_of depth nodes bytes) (λ kind more. expr_of_near reader each kind.0 (nodes + 1) kind.1 more)

expr_near : (depth : ℕ) → IsNear (expr_from depth)
unfolding expr_from
expr_near zero nodes bytes few = expr_level_near no_level no_level_near 0 nodes bytes few
expr_near (suc depth) nodes bytes few = expr_level_near (λ n rest. expr_from depth n rest) (expr_near depth) (suc depth) nodes bytes few

-- ---- conditions

compare_near : (reader : Reader Expr) (comparison : Comparison) → IsNear reader → (nodes : ℕ) (bytes : List ℕ) → nodes ≤ 64 → NearTree 8 (length bytes) nodes (compare_from reader comparison nodes bytes)
unfolding compare_from
compare_near reader comparison each nodes bytes few =
    tree_then 0 0 8 (length bytes) nodes (reader nodes bytes) _ (omega arith) (each nodes bytes few)
    (λ a more. tree_then 0 0 0 (length a.2) a.1 (reader a.1 a.2) _ (omega arith) (each a.1 a.2 more) (λ b most. tree_done 0 b.1 _ b.2 most))

join_near : (reader : Reader Cond) (connective : Connective) → IsNear reader → (nodes : ℕ) (bytes : List ℕ) → nodes ≤ 64 → NearTree 8 (length bytes) nodes (join_from reader connective nodes bytes)
unfolding join_from
join_near reader connective each nodes bytes few =
    tree_then 0 0 8 (length bytes) nodes (reader nodes bytes) _ (omega arith) (each nodes bytes few)
    (λ a more. tree_then 0 0 0 (length a.2) a.1 (reader a.1 a.2) _ (omega arith) (each a.1 a.2 more) (λ b most. tree_done 0 b.1 _ b.2 most))

not_near : (reader : Reader Cond) → IsNear reader → (nodes : ℕ) (bytes : List ℕ) → nodes ≤ 64 → NearTree 8 (length bytes) nodes (not_from reader nodes bytes)
unfolding not_from
not_near reader each nodes bytes few =
    tree_then 0 0 8 (length bytes) nodes (reader nodes bytes) _ (omega arith) (each nodes bytes few) (λ a more. tree_done 0 a.1 _ a.2 more)

cond_of_near : (exprs : Reader Expr) (conds : Reader Cond) → IsNear exprs → IsNear conds → (kind : CondKind) (nodes : ℕ) (bytes : List ℕ) → nodes ≤ 64 → NearTree 8 (length bytes) nodes (cond_of exprs conds kind nodes bytes)
cond_of_near exprs conds h k (cond_kind.Compare comparison) nodes bytes few = compare_near exprs comparison h nodes bytes few
cond_of_near exprs conds h k (cond_kind.Both connective) nodes bytes few = join_near conds connective k nodes bytes few
cond_of_near exprs conds h k cond_kind.Not nodes bytes few = not_near conds k nodes bytes few

cond_level_near : (exprs : Reader Expr) (conds : Reader Cond) → IsNear exprs → IsNear conds → (depth : ℕ) → IsNear (cond_level exprs conds depth)
unfolding cond_level
cond_level_near exprs conds h k depth nodes bytes few =
    after_node nodes (length bytes) (node_from cond_kind_of depth nodes bytes) _ few (node_is cond_kind_of depth nodes bytes) (λ kind more. cond_of_near exprs conds h k kind.0 (nodes + 1) kind.1 more)

cond_near : (depth : ℕ) → IsNear (cond_from depth)
unfolding cond_from
cond_near zero nodes bytes few = cond_level_near no_level no_level no_level_near no_level_near 0 nodes bytes few
cond_near (suc depth) nodes bytes few = cond_level_near (λ n rest. expr_from depth n rest) (λ n rest. cond_from depth n rest) (expr_near depth) (cond_near depth) (suc depth) nodes bytes few

-- ---- statements

set_near : (exprs : Reader Expr) → IsNear exprs → (nodes : ℕ) (bytes : List ℕ) → nodes ≤ 64 → NearTree 8 (length bytes) nodes (set_from exprs nodes bytes)
unfolding set_from
set_near exprs each nodes bytes few =
    field_then 1 1 8 (length bytes) nodes (byte_from bytes) _ (omega arith) few (byte_near bytes)
    (λ slot. field_then 1 0 1 (length slot.1) nodes (byte_from slot.1) _ (omega arith) few (byte_near slot.1)
    (λ attr. tree_then 0 0 0 (length attr.1) nodes (exprs nodes attr.1) _ (omega arith) (each nodes attr.1 few) (λ value more. tree_done 0 value.1 _ value.2 more)))

pub list_near : (stmts : Reader Stmt) → IsNear stmts → (nodes : ℕ) (bytes : List ℕ) → nodes ≤ 64 → NearTree 1 (length bytes) nodes (list_by stmts nodes bytes)
unfolding list_by
list_near stmts each nodes bytes few =
    field_then 1 0 1 (length bytes) nodes (byte_from bytes) _ (omega arith) few (byte_near bytes) (λ n. turns_near stmts each n.0 nodes n.1 few)

other_near : (stmts : Reader Stmt) → IsNear stmts → (c : Cond) (body : List Stmt) (nodes : ℕ) (bytes : List ℕ) → nodes ≤ 64 → NearTree 1 (length bytes) nodes (other_from stmts c body nodes bytes)
unfolding other_from
other_near stmts each c body nodes bytes few =
    tree_then 1 0 1 (length bytes) nodes (list_by stmts nodes bytes) _ (omega arith) (list_near stmts each nodes bytes few) (λ other more. tree_done 0 other.1 _ other.2 more)

lists_near : (stmts : Reader Stmt) → IsNear stmts → (c : Cond) (nodes : ℕ) (bytes : List ℕ) → nodes ≤ 64 → NearTree 2 (length bytes) nodes (lists_from stmts c nodes bytes)
unfolding lists_from
lists_near stmts each c nodes bytes few =
    tree_then 1 1 2 (length bytes) nodes (list_by stmts nodes bytes) _ (omega arith) (list_near stmts each nodes bytes few) (λ body more. other_near stmts each c body.0 body.1 body.2 more)

if_near : (conds : Reader Cond) (stmts : Reader Stmt) → IsNear conds → IsNear stmts → (nodes : ℕ) (bytes : List ℕ) → nodes ≤ 64 → NearTree 8 (length bytes) nodes (if_from conds stmts nodes bytes)
unfolding if_from
if_near conds stmts h k nodes bytes few =
    tree_then 0 2 8 (length bytes) nodes (conds nodes bytes) _ (omega arith) (h nodes bytes few) (λ c more. lists_near stmts k c.0 c.1 c.2 more)

stmt_of_near : (exprs : Reader Expr) (conds : Reader Cond) (stmts : Reader Stmt) → IsNear exprs → IsNear conds → IsNear stmts → (kind : StmtKind) (nodes : ℕ) (bytes : List ℕ) → nodes ≤ 64 → NearTree 8 (length bytes) nodes (stmt_of exprs conds stmts kind nodes bytes)
stmt_of_near exprs conds stmts h k l stmt_kind.Set nodes bytes few = set_near exprs h nodes bytes few
stmt_of_near exprs conds stmts h k l stmt_kind.If nodes bytes few = if_near conds stmts k l nodes bytes few

stmt_level_near : (exprs : Reader Expr) (conds : Reader Cond) (stmts : Reader Stmt) → IsNear exprs → IsNear conds → IsNear stmts → (depth : ℕ) → IsNear (stmt_level exprs conds stmts depth)
unfolding stmt_level
stmt_level_near exprs conds stmts h k l depth nodes bytes few =
    after_node nodes (length bytes) (node_from stmt_kind_of depth nodes bytes) _ few (node_is stmt_kind_of depth nodes bytes) (λ kind more. stmt_of_near exprs conds stmts h k l kind.0 (nodes + 1) kind.1 more)

pub stmt_near : (depth : ℕ) → IsNear (stmt_from depth)
unfolding stmt_from
stmt_near zero nodes bytes few = stmt_level_near no_level no_level no_level no_level_near no_level_near no_level_near 0 nodes bytes few
stmt_near (suc depth) nodes bytes few =
    stmt_level_near (λ n rest. expr_from depth n rest) (λ n rest. cond_from depth n rest) (λ n rest. stmt_from depth n rest) (expr_near depth) (cond_near depth) (stmt_near depth) (suc depth) nodes bytes few

tree_near : {X : Type 0} (k n : ℕ) (read : Turn X) → NearTree k n 0 read → Near left3 (576 + k) n read
tree_near k n read near =
    record {
      ok = λ x e. let a = near.ok x e in (a.0, omega arith);
      err = λ s e. let a = near.err s e in (a.0, omega arith);
    }

pub body_near : (bytes : List ℕ) → Near left2 577 (length bytes) (body_from bytes)
unfolding body_from
body_near bytes =
    near_then left3 left2 577 0 577 (length bytes) (list_by (λ n rest. stmt_from 8 n rest) 0 bytes) _ (omega arith)
    (tree_near 1 (length bytes) (list_by (λ n rest. stmt_from 8 n rest) 0 bytes) (list_near (λ n rest. stmt_from 8 n rest) (stmt_near 8) 0 bytes (omega arith)))
    (λ body _. near_done left2 0 (length body.2) _ (omega arith) (omega arith))
