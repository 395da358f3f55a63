-- Reading a tree, with its nodes appended: what a node adds before its parts are read.
use Rattle.std.proofs.Common.{◌≡◌, ℕ, zero, suc, ℤ, ◌+◌, ◌-◌, ◌≤◌, ◌<◌, List, [], ◌∷◌, ◌++◌, length, set, Result, Ok, Err, refl, sym, ap, subst, ◌∙◌, append_assoc, arith}
use Rattle.std.proofs.Math.Seq.{set-append_seam}
use Rattle.std.proofs.lemmas.List.{length-append, append-nil}
use Rattle.std.proofs.lemmas.List.Concat.{flat_map-cons}
use Rattle.std.specs.Int.{w64}
use Rattle.sv_world.specs.declared.action.Expr.{Expr}
use Rattle.sv_world.specs.declared.action.Expr.TheVariants as expr
use Rattle.sv_world.specs.declared.action.Cond.{Cond}
use Rattle.sv_world.specs.declared.action.Cond.TheVariants as test
use Rattle.sv_world.specs.declared.action.Stmt.{Stmt}
use Rattle.sv_world.specs.declared.action.Stmt.TheVariants as stmt
use Rattle.sv_world.specs.declared.node.Node.{Node}
use Rattle.sv_world.specs.declared.node.Node.TheVariants as node
use Rattle.sv_world.specs.declared.node.Operator.{Operator}
use Rattle.sv_world.specs.declared.node.Comparison.{Comparison}
use Rattle.sv_world.specs.declared.node.Connective.{Connective}
use Rattle.sv_world.specs.Parts.{binary_by, compare_by, join_by, first, parts, block_in, IsBody}
use Rattle.sv_world.specs.Spelled.{expr_spelled, cond_spelled, stmt_spelled, run_spelled, body_spelled}
use Rattle.sv_world.proofs.Spells.{body_is, body_view}
use Rattle.sv_world.proofs.Layers.{lit_spelled, attr_spelled, binary_spelled, compare_spelled, join_spelled, not_spelled, set_spelled, if_spelled}
use Rattle.sv_wire.specs.declared.fault.Stop.{Stop}
use Rattle.sv_wire.specs.declared.fault.DecodeFault.{DecodeFault}
use Rattle.sv_wire.specs.declared.fault.DecodeFault.TheVariants as faults
use Rattle.sv_wire.specs.Steps.{Read, Turn, ◌>>=◌, Fails, in_turn}
use Rattle.sv_wire.specs.Fields.{byte_from, int_from}
use Rattle.sv_wire.specs.Nodes.{node_from, expr_kind_of, cond_kind_of, stmt_kind_of}
use Rattle.sv_wire.proofs.Loop.{fails_first}
use Rattle.sv_wire.specs.Trees.{Reader, appended, lit_from, attr_from, pair_from, expr_of, expr_level, expr_from, compare_from, join_from, not_from, cond_of, cond_level, cond_from, set_from, list_by, other_from, lists_from, if_from, stmt_of, stmt_level, stmt_from}

-- ---- a node over parts

behind : (old xs ys : List Node) (n : Node) → ys ≡ n ∷ xs → old ++ ys ≡ (old ++ n ∷ []) ++ xs
behind old xs ys n is = rw is (sym (append_assoc old (n ∷ []) xs))

behind_two : (old xs ys zs : List Node) (n : Node) → zs ≡ n ∷ (xs ++ ys) → old ++ zs ≡ ((old ++ n ∷ []) ++ xs) ++ ys
behind_two old xs ys zs n is = behind old (xs ++ ys) zs n is ∙ sym (append_assoc (old ++ n ∷ []) xs ys)

module _ {A B : Type 0} (spell : A → List Node) (whole : B → List Node) (make : A → B) (n : Node) (is : (a : A) → whole (make a) ≡ n ∷ spell a) (old : List Node) where
  over_one : (read : Turn A) → appended whole old (read >>= λ a. Ok (make a.0, a.1, a.2)) ≡ appended spell (old ++ n ∷ []) read
  over_one (Ok x) = ap (λ (ns : List Node). Ok (ns, x.1, x.2)) (behind old (spell x.0) (whole (make x.0)) n (is x.0))
  over_one (Err e) = refl

module _ {A B C : Type 0} (left : A → List Node) (right : B → List Node) (whole : C → List Node) (make : A → B → C) (n : Node) (is : (a : A) (b : B) → whole (make a b) ≡ n ∷ (left a ++ right b)) (old : List Node) where
  over_second : (a : A) (read : Turn B) → appended whole old (read >>= λ b. Ok (make a b.0, b.1, b.2)) ≡ appended right ((old ++ n ∷ []) ++ left a) read
  over_second a (Ok y) = ap (λ (ns : List Node). Ok (ns, y.1, y.2)) (behind_two old (left a) (right y.0) (whole (make a y.0)) n (is a y.0))
  over_second a (Err e) = refl

  over_two : (read : Turn A) (next : Reader B) → appended whole old (read >>= λ a. next a.1 a.2 >>= λ b. Ok (make a.0 b.0, b.1, b.2)) ≡ (appended left (old ++ n ∷ []) read >>= λ a. appended right a.0 (next a.1 a.2))
  over_two (Ok x) next = over_second x.0 (next x.1 x.2)
  over_two (Err e) next = refl

-- appended goes behind what is read first
pub appended_then : {A : Type 0} {X : Type 0} (spell : A → List Node) (old : List Node) (first : Result X Stop) (f : X → Turn A) → appended spell old (first >>= f) ≡ (first >>= λ x. appended spell old (f x))
appended_then spell old (Ok x) f = refl
appended_then spell old (Err e) f = refl

abbrev done : List Node × ℕ × List ℕ → Turn (List Node)
done q = Ok q

longer : (old xs out : List Node) (m : ℕ) (s : List ℕ) (n : ℕ) (t : List ℕ) → done (old ++ xs, m, s) ≡ done (out, n, t) → length old ≤ length out
longer old xs out m s n t h =
    let p : (old ++ xs, m, s) ≡ (out, n, t) = cc in
    let q : old ++ xs ≡ out = ap (λ (q : List Node × ℕ × List ℕ). q.0) p in
    let e : length (old ++ xs) ≡ length out = ap (λ (l : List Node). length l) q in
    omega (arith, e, length-append old xs)

pub appended_longer : {A : Type 0} (spell : A → List Node) (old : List Node) (read : Turn A) (out : List Node) (nodes : ℕ) (rest : List ℕ) → appended spell old read ≡ Ok (out, nodes, rest) → length old ≤ length out
appended_longer spell old (Ok x) out nodes rest h = longer old (spell x.0) out x.1 x.2 nodes rest h
appended_longer spell old (Err e) out nodes rest h = absurd cc

-- what is said of a reader's first fault, with nothing appended
pub appended_fails : {A : Type 0} (spell : A → List Node) (old : List Node) (e : DecodeFault) (read : Turn A) → Fails e read → Fails e (appended spell old read)
appended_fails spell old faults.Memory read h = tt
appended_fails spell old (faults.Stop s) read h = rw h refl

-- ---- expressions

lit_read : (old : List Node) (nodes : ℕ) (read : Read ℤ) → appended expr_spelled old (read >>= λ n. Ok (expr.Lit n.0, nodes, n.1)) ≡ (read >>= λ n. Ok (old ++ node.Lit n.0 ∷ [], nodes, n.1))
lit_read old nodes (Ok n) = rw (lit_spelled n.0) refl
lit_read old nodes (Err e) = refl

pub lit_appended : (old : List Node) (nodes : ℕ) (bytes : List ℕ) → appended expr_spelled old (lit_from nodes bytes) ≡ (int_from w64 bytes >>= λ n. Ok (old ++ node.Lit n.0 ∷ [], nodes, n.1))
unfolding lit_from
lit_appended old nodes bytes = lit_read old nodes (int_from w64 bytes)

attr_read : (old : List Node) (nodes slot : ℕ) (read : Read ℕ) → appended expr_spelled old (read >>= λ attr. Ok (expr.Attr slot attr.0, nodes, attr.1)) ≡ (read >>= λ attr. Ok (old ++ node.Attr slot attr.0 ∷ [], nodes, attr.1))
attr_read old nodes slot (Ok attr) = rw (attr_spelled slot attr.0) refl
attr_read old nodes slot (Err e) = refl

attr_reads : (old : List Node) (nodes : ℕ) (read : Read ℕ) → appended expr_spelled old (read >>= λ slot. byte_from slot.1 >>= λ attr. Ok (expr.Attr slot.0 attr.0, nodes, attr.1))
    ≡ (read >>= λ slot. byte_from slot.1 >>= λ attr. Ok (old ++ node.Attr slot.0 attr.0 ∷ [], nodes, attr.1))
attr_reads old nodes (Ok slot) = attr_read old nodes slot.0 (byte_from slot.1)
attr_reads old nodes (Err e) = refl

pub attr_appended : (old : List Node) (nodes : ℕ) (bytes : List ℕ) → appended expr_spelled old (attr_from nodes bytes)
    ≡ (byte_from bytes >>= λ slot. byte_from slot.1 >>= λ attr. Ok (old ++ node.Attr slot.0 attr.0 ∷ [], nodes, attr.1))
unfolding attr_from
attr_appended old nodes bytes = attr_reads old nodes (byte_from bytes)

pub pair_appended : (old : List Node) (reader : Reader Expr) (o : Operator) (nodes : ℕ) (bytes : List ℕ) → appended expr_spelled old (pair_from reader o nodes bytes)
    ≡ (appended expr_spelled (old ++ node.Binary o ∷ []) (reader nodes bytes) >>= λ a. appended expr_spelled a.0 (reader a.1 a.2))
unfolding pair_from
pair_appended old reader o nodes bytes = over_two expr_spelled expr_spelled expr_spelled (binary_by o) (node.Binary o) (binary_spelled o) old (reader nodes bytes) reader

pub expr_level_appended : (old : List Node) (reader : Reader Expr) (depth nodes : ℕ) (bytes : List ℕ) → appended expr_spelled old (expr_level reader depth nodes bytes)
    ≡ (node_from expr_kind_of depth nodes bytes >>= λ kind. appended expr_spelled old (expr_of reader kind.0 (nodes + 1) kind.1))
unfolding expr_level
expr_level_appended old reader depth nodes bytes = appended_then expr_spelled old (node_from expr_kind_of depth nodes bytes) (λ kind. expr_of reader kind.0 (nodes + 1) kind.1)

-- ---- conditions

pub compare_appended : (old : List Node) (reader : Reader Expr) (o : Comparison) (nodes : ℕ) (bytes : List ℕ) → appended cond_spelled old (compare_from reader o nodes bytes)
    ≡ (appended expr_spelled (old ++ node.Compare o ∷ []) (reader nodes bytes) >>= λ a. appended expr_spelled a.0 (reader a.1 a.2))
unfolding compare_from
compare_appended old reader o nodes bytes = over_two expr_spelled expr_spelled cond_spelled (compare_by o) (node.Compare o) (compare_spelled o) old (reader nodes bytes) reader

pub join_appended : (old : List Node) (reader : Reader Cond) (o : Connective) (nodes : ℕ) (bytes : List ℕ) → appended cond_spelled old (join_from reader o nodes bytes)
    ≡ (appended cond_spelled (old ++ node.Join o ∷ []) (reader nodes bytes) >>= λ a. appended cond_spelled a.0 (reader a.1 a.2))
unfolding join_from
join_appended old reader o nodes bytes = over_two cond_spelled cond_spelled cond_spelled (join_by o) (node.Join o) (join_spelled o) old (reader nodes bytes) reader

pub not_appended : (old : List Node) (reader : Reader Cond) (nodes : ℕ) (bytes : List ℕ) → appended cond_spelled old (not_from reader nodes bytes) ≡ appended cond_spelled (old ++ node.Not ∷ []) (reader nodes bytes)
unfolding not_from
not_appended old reader nodes bytes = over_one cond_spelled cond_spelled (λ c. test.Not c) node.Not not_spelled old (reader nodes bytes)

pub cond_level_appended : (old : List Node) (exprs : Reader Expr) (conds : Reader Cond) (depth nodes : ℕ) (bytes : List ℕ) → appended cond_spelled old (cond_level exprs conds depth nodes bytes)
    ≡ (node_from cond_kind_of depth nodes bytes >>= λ kind. appended cond_spelled old (cond_of exprs conds kind.0 (nodes + 1) kind.1))
unfolding cond_level
cond_level_appended old exprs conds depth nodes bytes = appended_then cond_spelled old (node_from cond_kind_of depth nodes bytes) (λ kind. cond_of exprs conds kind.0 (nodes + 1) kind.1)

-- ---- statements

set_read : (old : List Node) (exprs : Reader Expr) (nodes slot : ℕ) (read : Read ℕ) → appended stmt_spelled old (read >>= λ attr. exprs nodes attr.1 >>= λ value. Ok (stmt.Set slot attr.0 value.0, value.1, value.2))
    ≡ (read >>= λ attr. appended expr_spelled (old ++ node.Set slot attr.0 ∷ []) (exprs nodes attr.1))
set_read old exprs nodes slot (Ok attr) = over_one expr_spelled stmt_spelled (λ value. stmt.Set slot attr.0 value) (node.Set slot attr.0) (set_spelled slot attr.0) old (exprs nodes attr.1)
set_read old exprs nodes slot (Err e) = refl

set_reads : (old : List Node) (exprs : Reader Expr) (nodes : ℕ) (read : Read ℕ) → appended stmt_spelled old (read >>= λ slot. byte_from slot.1 >>= λ attr. exprs nodes attr.1 >>= λ value. Ok (stmt.Set slot.0 attr.0 value.0, value.1, value.2))
    ≡ (read >>= λ slot. byte_from slot.1 >>= λ attr. appended expr_spelled (old ++ node.Set slot.0 attr.0 ∷ []) (exprs nodes attr.1))
set_reads old exprs nodes (Ok slot) = set_read old exprs nodes slot.0 (byte_from slot.1)
set_reads old exprs nodes (Err e) = refl

pub set_appended : (old : List Node) (exprs : Reader Expr) (nodes : ℕ) (bytes : List ℕ) → appended stmt_spelled old (set_from exprs nodes bytes)
    ≡ (byte_from bytes >>= λ slot. byte_from slot.1 >>= λ attr. appended expr_spelled (old ++ node.Set slot.0 attr.0 ∷ []) (exprs nodes attr.1))
unfolding set_from
set_appended old exprs nodes bytes = set_reads old exprs nodes (byte_from bytes)

if_other : (old : List Node) (c : Cond) (xs : List Stmt) (read : Turn (List Stmt)) → appended stmt_spelled old (read >>= λ ys. Ok (stmt.If c xs ys.0, ys.1, ys.2)) ≡ appended body_spelled (((old ++ node.If ∷ []) ++ cond_spelled c) ++ body_spelled xs) read
if_other old c xs (Ok ys) =
    let whole = behind_two old (cond_spelled c ++ body_spelled xs) (body_spelled ys.0) (stmt_spelled (stmt.If c xs ys.0)) node.If (if_spelled c xs ys.0) in
    ap (λ (ns : List Node). Ok (ns, ys.1, ys.2)) (whole ∙ ap (λ (ns : List Node). ns ++ body_spelled ys.0) (sym (append_assoc (old ++ node.If ∷ []) (cond_spelled c) (body_spelled xs))))
if_other old c xs (Err e) = refl

if_lists : (old : List Node) (stmts : Reader Stmt) (c : Cond) (read : Turn (List Stmt)) → appended stmt_spelled old (read >>= λ xs. list_by stmts xs.1 xs.2 >>= λ ys. Ok (stmt.If c xs.0 ys.0, ys.1, ys.2))
    ≡ (appended body_spelled ((old ++ node.If ∷ []) ++ cond_spelled c) read >>= λ xs. appended body_spelled xs.0 (list_by stmts xs.1 xs.2))
if_lists old stmts c (Ok xs) = if_other old c xs.0 (list_by stmts xs.1 xs.2)
if_lists old stmts c (Err e) = refl

if_whole : (old : List Node) (stmts : Reader Stmt) (read : Turn Cond) → appended stmt_spelled old (read >>= λ c. list_by stmts c.1 c.2 >>= λ xs. list_by stmts xs.1 xs.2 >>= λ ys. Ok (stmt.If c.0 xs.0 ys.0, ys.1, ys.2))
    ≡ (appended cond_spelled (old ++ node.If ∷ []) read >>= λ c. appended body_spelled c.0 (list_by stmts c.1 c.2) >>= λ xs. appended body_spelled xs.0 (list_by stmts xs.1 xs.2))
if_whole old stmts (Ok c) = if_lists old stmts c.0 (list_by stmts c.1 c.2)
if_whole old stmts (Err e) = refl

pub if_appended : (old : List Node) (conds : Reader Cond) (stmts : Reader Stmt) (nodes : ℕ) (bytes : List ℕ) → appended stmt_spelled old (if_from conds stmts nodes bytes)
    ≡ (appended cond_spelled (old ++ node.If ∷ []) (conds nodes bytes) >>= λ c. appended body_spelled c.0 (list_by stmts c.1 c.2) >>= λ xs. appended body_spelled xs.0 (list_by stmts xs.1 xs.2))
unfolding if_from lists_from other_from
if_appended old conds stmts nodes bytes = if_whole old stmts (conds nodes bytes)

pub stmt_level_appended : (old : List Node) (exprs : Reader Expr) (conds : Reader Cond) (stmts : Reader Stmt) (depth nodes : ℕ) (bytes : List ℕ) → appended stmt_spelled old (stmt_level exprs conds stmts depth nodes bytes)
    ≡ (node_from stmt_kind_of depth nodes bytes >>= λ kind. appended stmt_spelled old (stmt_of exprs conds stmts kind.0 (nodes + 1) kind.1))
unfolding stmt_level
stmt_level_appended old exprs conds stmts depth nodes bytes = appended_then stmt_spelled old (node_from stmt_kind_of depth nodes bytes) (λ kind. stmt_of exprs conds stmts kind.0 (nodes + 1) kind.1)

-- ---- statements one after the other

run_front : (old : List Node) (x : Stmt) (read : Turn (List Stmt)) → appended run_spelled old (read >>= λ xs. Ok (x ∷ xs.0, xs.1, xs.2)) ≡ appended run_spelled (old ++ stmt_spelled x) read
run_front old x (Ok xs) = ap (λ (ns : List Node). Ok (ns, xs.1, xs.2)) (ap (λ (ns : List Node). old ++ ns) (flat_map-cons stmt_spelled x xs.0) ∙ sym (append_assoc old (stmt_spelled x) (run_spelled xs.0)))
run_front old x (Err e) = refl

run_first : (old : List Node) (stmts : Reader Stmt) (n : ℕ) (read : Turn Stmt) → appended run_spelled old (read >>= λ x. in_turn stmts n x.1 x.2 >>= λ xs. Ok (x.0 ∷ xs.0, xs.1, xs.2))
    ≡ (appended stmt_spelled old read >>= λ a. appended run_spelled a.0 (in_turn stmts n a.1 a.2))
run_first old stmts n (Ok x) = run_front old x.0 (in_turn stmts n x.1 x.2)
run_first old stmts n (Err e) = refl

run_appended : (old : List Node) (stmts : Reader Stmt) (n from : ℕ) (bytes : List ℕ) → appended run_spelled old (in_turn stmts (suc n) from bytes) ≡ (appended stmt_spelled old (stmts from bytes) >>= λ a. appended run_spelled a.0 (in_turn stmts n a.1 a.2))
unfolding in_turn
run_appended old stmts n from bytes = run_first old stmts n (stmts from bytes)

run_none : (old : List Node) (stmts : Reader Stmt) (from : ℕ) (bytes : List ℕ) → appended run_spelled old (in_turn stmts 0 from bytes) ≡ Ok (old, from, bytes)
unfolding in_turn
run_none old stmts from bytes = ap (λ (ns : List Node). Ok (ns, from, bytes)) (append-nil old)

-- one turn of a loop over them
module _ (stmts : Reader Stmt) (old : List Node) (count i from : ℕ) (bytes : List ℕ) (total : Turn (List Node)) (told : appended run_spelled old (in_turn stmts (count - i) from bytes) ≡ total) where
  turn_is : i < count → total ≡ (appended stmt_spelled old (stmts from bytes) >>= λ a. appended run_spelled a.0 (in_turn stmts (count - (i + 1)) a.1 a.2))
  turn_is lt =
      let k : count - i ≡ suc (count - (i + 1)) = omega arith in
      sym told ∙ ap (λ (n : ℕ). appended run_spelled old (in_turn stmts n from bytes)) k ∙ run_appended old stmts (count - (i + 1)) from bytes

  pub run_goes_on : (out : List Node) (next : ℕ) (after : List ℕ) → i < count → appended stmt_spelled old (stmts from bytes) ≡ Ok (out, next, after) → appended run_spelled out (in_turn stmts (count - (i + 1)) next after) ≡ total
  run_goes_on out next after lt h = sym (turn_is lt ∙ rw h refl)

  pub run_ends : (e : DecodeFault) → i < count → Fails e (appended stmt_spelled old (stmts from bytes)) → Fails e total
  run_ends e lt h = subst (λ (read : Turn (List Node)). Fails e read) (sym (turn_is lt)) (fails_first e (appended stmt_spelled old (stmts from bytes)) (λ a. appended run_spelled a.0 (in_turn stmts (count - (i + 1)) a.1 a.2)) h)

  pub run_is_done : count ≤ i → total ≡ Ok (old, from, bytes)
  run_is_done le =
      let k : count - i ≡ 0 = omega arith in
      sym told ∙ ap (λ (n : ℕ). appended run_spelled old (in_turn stmts n from bytes)) k ∙ run_none old stmts from bytes

-- Reading n statements gives n.
abbrev Counts : ℕ → Turn (List Stmt) → Type 0
Counts n (Ok x) = length x.0 ≡ n
Counts n (Err e) = Unit {0}

counts_more : (n : ℕ) (x : Stmt) (read : Turn (List Stmt)) → Counts n read → Counts (suc n) (read >>= λ xs. Ok (x ∷ xs.0, xs.1, xs.2))
counts_more n x (Ok xs) is = ap (λ (k : ℕ). suc k) is
counts_more n x (Err e) is = tt

counts_first : (stmts : Reader Stmt) (n : ℕ) → ((from : ℕ) (bytes : List ℕ) → Counts n (in_turn stmts n from bytes)) → (read : Turn Stmt) → Counts (suc n) (read >>= λ x. in_turn stmts n x.1 x.2 >>= λ xs. Ok (x.0 ∷ xs.0, xs.1, xs.2))
counts_first stmts n others (Ok x) = counts_more n x.0 (in_turn stmts n x.1 x.2) (others x.1 x.2)
counts_first stmts n others (Err e) = tt

counts : (stmts : Reader Stmt) (n from : ℕ) (bytes : List ℕ) → Counts n (in_turn stmts n from bytes)
unfolding in_turn
counts stmts zero from bytes = refl
counts stmts (suc n) from bytes = counts_first stmts n (λ m rest. counts stmts n m rest) (stmts from bytes)

-- A block's place is kept until its size is known.
block_end : (old run : List Node) (n m : ℕ) → m ≡ n → old ++ node.Block m (length run) ∷ run ≡ set ((old ++ node.Block n 0 ∷ []) ++ run) (length old) (node.Block n (length ((old ++ node.Block n 0 ∷ []) ++ run) - length old - 1))
block_end old run n m is =
    let p = node.Block n 0 in
    let a : (old ++ p ∷ []) ++ run ≡ old ++ p ∷ run = append_assoc old (p ∷ []) run in
    let l : length (old ++ p ∷ run) ≡ length old + suc (length run) = length-append old (p ∷ run) in
    let size : length (old ++ p ∷ run) - length old - 1 ≡ length run = omega (arith, l) in
    rw (a, size, is) (sym (set-append_seam old p run (node.Block n (length run))))

block_read : (old : List Node) (n : ℕ) (read : Turn (List Stmt)) → Counts n read → appended body_spelled old read
    ≡ (appended run_spelled (old ++ node.Block n 0 ∷ []) read >>= λ a. Ok (set a.0 (length old) (node.Block n (length a.0 - length old - 1)), a.1, a.2))
block_read old n (Ok x) is = ap (λ (ns : List Node). Ok (ns, x.1, x.2)) (block_end old (run_spelled x.0) n (length x.0) is)
block_read old n (Err e) is = refl

list_read : (old : List Node) (stmts : Reader Stmt) (nodes : ℕ) (read : Read ℕ) → appended body_spelled old (read >>= λ n. in_turn stmts n.0 nodes n.1)
    ≡ (read >>= λ n. appended run_spelled (old ++ node.Block n.0 0 ∷ []) (in_turn stmts n.0 nodes n.1) >>= λ a. Ok (set a.0 (length old) (node.Block n.0 (length a.0 - length old - 1)), a.1, a.2))
list_read old stmts nodes (Ok n) = block_read old n.0 (in_turn stmts n.0 nodes n.1) (counts stmts n.0 nodes n.1)
list_read old stmts nodes (Err e) = refl

pub list_appended : (old : List Node) (stmts : Reader Stmt) (nodes : ℕ) (bytes : List ℕ) → appended body_spelled old (list_by stmts nodes bytes)
    ≡ (byte_from bytes >>= λ n. appended run_spelled (old ++ node.Block n.0 0 ∷ []) (in_turn stmts n.0 nodes n.1) >>= λ a. Ok (set a.0 (length old) (node.Block n.0 (length a.0 - length old - 1)), a.1, a.2))
unfolding list_by
list_appended old stmts nodes bytes = list_read old stmts nodes (byte_from bytes)

-- A body that was read is what its nodes spell.
read_found : (out : List Node) (read : Turn (List Stmt)) (nodes : ℕ) (rest : List ℕ) → appended body_spelled [] read ≡ Ok (out, nodes, rest) → IsBody out × (read ≡ Ok (block_in (first (parts out)), nodes, rest))
read_found out (Ok x) nodes rest h =
    let p : (body_spelled x.0, x.1, x.2) ≡ (out, nodes, rest) = cc in
    let is : out ≡ body_spelled x.0 = sym (ap (λ (q : List Node × ℕ × List ℕ). q.0) p) in
    let n : x.1 ≡ nodes = ap (λ (q : List Node × ℕ × List ℕ). q.1) p in
    let r : x.2 ≡ rest = ap (λ (q : List Node × ℕ × List ℕ). q.2) p in
    (body_is out x.0 is, rw (body_view out x.0 is, ← n, ← r) refl)
read_found out (Err e) nodes rest h = absurd cc

pub body_found : (out : List Node) (stmts : Reader Stmt) (from : ℕ) (bytes : List ℕ) (nodes : ℕ) (rest : List ℕ) → appended body_spelled [] (list_by stmts from bytes) ≡ Ok (out, nodes, rest)
    → IsBody out × (list_by stmts from bytes ≡ Ok (block_in (first (parts out)), nodes, rest))
body_found out stmts from bytes nodes rest h = read_found out (list_by stmts from bytes) nodes rest h
