-- Reading a tree, with its nodes appended: what a node adds before and behind its parts.
use Rattle.std.proofs.Common.{◌≡◌, ℕ, zero, suc, ◌+◌, ◌-◌, ◌≤◌, ◌<◌, ℤ, Bool, true, false, cond, eqb, List, [], ◌∷◌, ◌++◌, length, set, Result, Ok, Err, refl, sym, ap, subst, ◌∙◌, append_assoc, arith}
use Rattle.std.proofs.Math.Seq.{set-append_seam}
use Rattle.std.proofs.lemmas.Bool.{ne_eqb}
use Rattle.std.proofs.lemmas.List.{length-append, append-nil, flat_map_more}
use Rattle.sv_world.specs.declared.action.Expr.{Expr}
use Rattle.sv_world.specs.declared.action.Expr.TheVariants as expr
use Rattle.sv_world.specs.declared.action.Cond.{Cond}
use Rattle.sv_world.specs.declared.action.Cond.TheVariants as test
use Rattle.sv_world.specs.declared.action.Stmt.{Stmt}
use Rattle.sv_world.specs.declared.action.Stmt.TheVariants as stmt
use Rattle.sv_world.specs.declared.world.ObjectId.{ObjectId}
use Rattle.sv_world.specs.declared.node.Node.{Node}
use Rattle.sv_world.specs.declared.node.Node.TheVariants as node
use Rattle.sv_world.specs.declared.node.Operator.{Operator}
use Rattle.sv_world.specs.declared.node.Comparison.{Comparison}
use Rattle.sv_world.specs.declared.node.Connective.{Connective}
use Rattle.sv_world.specs.Parts.{binary_by as with_op, compare_by as with_comparison, join_by as with_joint, first, parts, block_in, IsBody}
use Rattle.sv_world.specs.Spelled.{expr_spelled, cond_spelled, stmt_spelled, run_spelled, body_spelled}
use Rattle.sv_world.proofs.Spells.{body_is, body_view}
use Rattle.sv_world.proofs.Layers.{lit_spelled, attr_spelled, binary_spelled, compare_spelled, join_spelled, not_spelled, set_spelled, if_spelled}
use Rattle.sv_text.specs.declared.fault.TextCause.TheVariants as causes
use Rattle.sv_text.specs.declared.fault.TextFault.{TextFault}
use Rattle.sv_text.specs.declared.fault.ParseFault.{ParseFault}
use Rattle.sv_text.specs.declared.fault.ParseFault.TheVariants as faults
use Rattle.sv_text.specs.declared.token.Mark.{Mark}
use Rattle.sv_text.specs.declared.token.Mark.TheVariants as marks
use Rattle.sv_text.specs.declared.token.Token.{Token}
use Rattle.sv_text.specs.declared.token.Token.TheVariants as tokens
use Rattle.sv_text.specs.declared.token.Lexeme.{Lexeme}
use Rattle.sv_text.specs.Ahead.{next_of}
use Rattle.sv_text.specs.Reading.{◌>>=◌, Read, Fails, seen, fault, unexpected, rest_of, is_at, expect, start, slot_at, op_at, comparison_at, joint_at, leaf_by, leaf_at, closed_by, bracketed_by, pair_by, expr_by, compare_by, join_by, not_by, cond_by, target_at, set_by, else_by, branches_by, if_by, stmts_by, block_by, stmt_by, appended}
use Rattle.sv_text.proofs.Next.{leaf_at_is}

-- a reader of what starts here: the nodes started so far, and the tokens that are left
abbrev Reader : Type 0 → Type 0
Reader A = ℕ → List Lexeme → Read A

abbrev done : List Node × ℕ × List Lexeme → Read (List Node)
done q = Ok q

longer : (old xs out : List Node) (m : ℕ) (s : List Lexeme) (n : ℕ) (t : List Lexeme) → done (old ++ xs, m, s) ≡ done (out, n, t) → length old ≤ length out
longer old xs out m s n t h =
    let p : (old ++ xs, m, s) ≡ (out, n, t) = cc in
    let q : old ++ xs ≡ out = ap (λ (q : List Node × ℕ × List Lexeme). q.0) p in
    let e : length (old ++ xs) ≡ length out = ap (λ (l : List Node). length l) q in
    omega (arith, e, length-append old xs)

pub appended_longer : {A : Type 0} (spell : A → List Node) (old : List Node) (read : Read A) (out : List Node) (nodes : ℕ) (rest : List Lexeme) → appended spell old read ≡ Ok (out, nodes, rest) → length old ≤ length out
appended_longer spell old (Ok x) out nodes rest h = longer old (spell x.0) out x.1 x.2 nodes rest h
appended_longer spell old (Err e) out nodes rest h = absurd cc

-- ---- a node over parts

behind : (old xs ys : List Node) (n : Node) → ys ≡ n ∷ xs → old ++ ys ≡ (old ++ n ∷ []) ++ xs
behind old xs ys n is = rw is (sym (append_assoc old (n ∷ []) xs))

module _ {A B : Type 0} (spell : A → List Node) (whole : B → List Node) (make : A → B) (n : Node) (is : (a : A) → whole (make a) ≡ n ∷ spell a) (old : List Node) where
  over_one : (read : Read A) → appended whole old (read >>= λ a. Ok (make a.0, a.1, a.2)) ≡ appended spell (old ++ n ∷ []) read
  over_one (Ok x) = ap (λ (ns : List Node). Ok (ns, x.1, x.2)) (behind old (spell x.0) (whole (make x.0)) n (is x.0))
  over_one (Err e) = refl

-- Two parts with an operator between them, and a sign behind them. The node's place p is kept until the operator o is read.
placed : (old xs ys whole : List Node) (p n : Node) → whole ≡ n ∷ (xs ++ ys) → old ++ whole ≡ set (((old ++ p ∷ []) ++ xs) ++ ys) (length old) n
placed old xs ys whole p n is =
    let a : ((old ++ p ∷ []) ++ xs) ++ ys ≡ old ++ p ∷ (xs ++ ys) = append_assoc (old ++ p ∷ []) xs ys ∙ append_assoc old (p ∷ []) (xs ++ ys) in
    rw (is, a) (sym (set-append_seam old p (xs ++ ys) n))

module _ {A C O : Type 0} (spell : A → List Node) (whole : C → List Node) (make : O → A → A → C) (tag : O → Node) (is : (o : O) (a b : A) → whole (make o a b) ≡ tag o ∷ (spell a ++ spell b)) (sign : Mark) (old : List Node) where
  two_close : (o : O) (a b : A) (nodes : ℕ) (read : Result (List Lexeme) TextFault) → appended whole old (read >>= λ rest. Ok (make o a b, nodes, rest))
      ≡ (read >>= λ rest. Ok (set (((old ++ node.Not ∷ []) ++ spell a) ++ spell b) (length old) (tag o), nodes, rest))
  two_close o a b nodes (Ok rest) = ap (λ (ns : List Node). Ok (ns, nodes, rest)) (placed old (spell a) (spell b) (whole (make o a b)) node.Not (tag o) (is o a b))
  two_close o a b nodes (Err e) = refl

  two_right : (o : O) (a : A) (read : Read A) → appended whole old (read >>= λ b. expect sign b.2 >>= λ rest. Ok (make o a b.0, b.1, rest))
      ≡ (appended spell ((old ++ node.Not ∷ []) ++ spell a) read >>= λ b. expect sign b.2 >>= λ rest. Ok (set b.0 (length old) (tag o), b.1, rest))
  two_right o a (Ok b) = two_close o a b.0 b.1 (expect sign b.2)
  two_right o a (Err e) = refl

  two_middle : (below : Reader A) (a : A) (nodes : ℕ) (ts : List Lexeme) (read : Result O TextFault) → appended whole old (read >>= λ o. below nodes ts >>= λ b. expect sign b.2 >>= λ rest. Ok (make o a b.0, b.1, rest))
      ≡ (read >>= λ o. appended spell ((old ++ node.Not ∷ []) ++ spell a) (below nodes ts) >>= λ b. expect sign b.2 >>= λ rest. Ok (set b.0 (length old) (tag o), b.1, rest))
  two_middle below a nodes ts (Ok o) = two_right o a (below nodes ts)
  two_middle below a nodes ts (Err e) = refl

  two_parts : (below : Reader A) (middle : List Lexeme → Result O TextFault) (read : Read A) → appended whole old (read >>= λ a. middle a.2 >>= λ o. below a.1 (rest_of a.2) >>= λ b. expect sign b.2 >>= λ rest. Ok (make o a.0 b.0, b.1, rest))
      ≡ (appended spell (old ++ node.Not ∷ []) read >>= λ a. middle a.2 >>= λ o. appended spell a.0 (below a.1 (rest_of a.2)) >>= λ b. expect sign b.2 >>= λ rest. Ok (set b.0 (length old) (tag o), b.1, rest))
  two_parts below middle (Ok a) = two_middle below a.0 a.1 (rest_of a.2) (middle a.2)
  two_parts below middle (Err e) = refl

-- ---- what is read first, and then

appended_then : {A : Type 0} (spell : A → List Node) (old : List Node) (first : Result ℕ TextFault) (f : ℕ → Read A) → appended spell old (first >>= f) ≡ (first >>= λ n. appended spell old (f n))
appended_then spell old (Ok n) f = refl
appended_then spell old (Err e) f = refl

start_then : {A : Type 0} (spell : A → List Node) (old : List Node) (depth nodes : ℕ) (ts : List Lexeme) (f : ℕ → Read A) → appended spell old (start depth nodes ts >>= f) ≡ (start depth nodes ts >>= λ n. appended spell old (f n))
start_then spell old depth nodes ts f = appended_then spell old (start depth nodes ts) f

cond_then : {A : Type 0} (spell : A → List Node) (old : List Node) (b : Bool) (x y : Read A) → appended spell old (cond b x y) ≡ cond b (appended spell old x) (appended spell old y)
cond_then spell old true x y = refl
cond_then spell old false x y = refl

-- ---- expressions

-- a leaf is one node
abbrev pub lit_node : ℤ → List Node
lit_node z = expr_spelled (expr.Lit z)

slot_seen : (attr : ℕ) (read : Result ℕ TextFault) → seen expr_spelled (read >>= λ k. Ok (expr.Attr k attr)) ≡ (read >>= λ k. Ok (node.Attr k attr ∷ []))
slot_seen attr (Ok k) = ap (λ (ns : List Node). Ok ns) (attr_spelled k attr)
slot_seen attr (Err e) = refl

abbrev leaf_node : List ObjectId → List Lexeme → Bool → Token → Result (List Node) TextFault
leaf_node reads ts glued (tokens.Number z) = cond glued (Err (fault ts causes.Expected)) (Ok (node.Lit z ∷ []))
leaf_node reads ts glued tokens.Wide = Err (fault ts causes.Number)
leaf_node reads ts glued (tokens.Ref object attr) = slot_at reads object ts >>= λ k. Ok (node.Attr k attr ∷ [])
leaf_node reads ts glued (tokens.Mark m) = Err (fault ts causes.Expected)
leaf_node reads ts glued (tokens.Bad cause) = Err (fault ts cause)

leaf_by_seen : (reads : List ObjectId) (ts : List Lexeme) (glued : Bool) (t : Token) → seen expr_spelled (leaf_by reads ts glued t) ≡ leaf_node reads ts glued t
leaf_by_seen reads ts true (tokens.Number z) = refl
leaf_by_seen reads ts false (tokens.Number z) = ap (λ (ns : List Node). Ok ns) (lit_spelled z)
leaf_by_seen reads ts glued tokens.Wide = refl
leaf_by_seen reads ts glued (tokens.Ref object attr) = slot_seen attr (slot_at reads object ts)
leaf_by_seen reads ts glued (tokens.Mark m) = refl
leaf_by_seen reads ts glued (tokens.Bad cause) = refl

pub leaf_seen : (reads : List ObjectId) (ts : List Lexeme) → seen expr_spelled (leaf_at reads ts) ≡ leaf_node reads ts (next_of ts).glued (next_of ts).token
leaf_seen reads ts = ap (λ (read : Result Expr TextFault). seen expr_spelled read) (leaf_at_is reads ts) ∙ leaf_by_seen reads ts (next_of ts).glued (next_of ts).token

leaf_start : (old : List Node) (leaf : Expr) (ts : List Lexeme) (read : Result ℕ TextFault) → appended expr_spelled old (read >>= λ n. Ok (leaf, n, ts)) ≡ (read >>= λ n. Ok (old ++ expr_spelled leaf, n, ts))
leaf_start old leaf ts (Ok n) = refl
leaf_start old leaf ts (Err e) = refl

leaf_read : (old : List Node) (depth nodes : ℕ) (ts : List Lexeme) (read : Result Expr TextFault) → appended expr_spelled old (read >>= λ leaf. start depth nodes ts >>= λ n. Ok (leaf, n, rest_of ts))
    ≡ (seen expr_spelled read >>= λ ns. start depth nodes ts >>= λ n. Ok (old ++ ns, n, rest_of ts))
leaf_read old depth nodes ts (Ok leaf) = leaf_start old leaf (rest_of ts) (start depth nodes ts)
leaf_read old depth nodes ts (Err e) = refl

pub expr_appended : (old : List Node) (reads : List ObjectId) (below : Reader Expr) (depth nodes : ℕ) (ts : List Lexeme) → appended expr_spelled old (expr_by reads below depth nodes ts) ≡ cond (is_at marks.Open ts)
    (start depth nodes ts >>= λ n. appended expr_spelled old (pair_by below n (rest_of ts)))
    (seen expr_spelled (leaf_at reads ts) >>= λ ns. start depth nodes ts >>= λ n. Ok (old ++ ns, n, rest_of ts))
unfolding expr_by
expr_appended old reads below depth nodes ts =
    cond_then expr_spelled old (is_at marks.Open ts) _ _
    ∙ rw (start_then expr_spelled old depth nodes ts (λ n. pair_by below n (rest_of ts)), leaf_read old depth nodes ts (leaf_at reads ts)) refl

pub pair_appended : (old : List Node) (below : Reader Expr) (nodes : ℕ) (ts : List Lexeme) → appended expr_spelled old (pair_by below nodes ts)
    ≡ (appended expr_spelled (old ++ node.Not ∷ []) (below nodes ts) >>= λ a. op_at a.2 >>= λ o. appended expr_spelled a.0 (below a.1 (rest_of a.2)) >>= λ b. expect marks.Close b.2 >>= λ rest. Ok (set b.0 (length old) (node.Binary o), b.1, rest))
unfolding pair_by bracketed_by
pair_appended old below nodes ts = two_parts expr_spelled expr_spelled with_op (λ o. node.Binary o) binary_spelled marks.Close old below op_at (below nodes ts)

-- ---- conditions

pub compare_appended : (old : List Node) (exprs : Reader Expr) (nodes : ℕ) (ts : List Lexeme) → appended cond_spelled old (compare_by exprs nodes ts)
    ≡ (appended expr_spelled (old ++ node.Not ∷ []) (exprs nodes ts) >>= λ a. comparison_at a.2 >>= λ o. appended expr_spelled a.0 (exprs a.1 (rest_of a.2)) >>= λ b. expect marks.CloseTest b.2 >>= λ rest. Ok (set b.0 (length old) (node.Compare o), b.1, rest))
unfolding compare_by bracketed_by
compare_appended old exprs nodes ts =
    two_parts expr_spelled cond_spelled with_comparison (λ o. node.Compare o) compare_spelled marks.CloseTest old exprs comparison_at (exprs nodes ts)

pub join_appended : (old : List Node) (below : Reader Cond) (nodes : ℕ) (ts : List Lexeme) → appended cond_spelled old (join_by below nodes ts)
    ≡ (appended cond_spelled (old ++ node.Not ∷ []) (below nodes ts) >>= λ a. joint_at a.2 >>= λ o. appended cond_spelled a.0 (below a.1 (rest_of a.2)) >>= λ b. expect marks.Close b.2 >>= λ rest. Ok (set b.0 (length old) (node.Join o), b.1, rest))
unfolding join_by bracketed_by
join_appended old below nodes ts =
    two_parts cond_spelled cond_spelled with_joint (λ o. node.Join o) join_spelled marks.Close old below joint_at (below nodes ts)

pub not_appended : (old : List Node) (below : Reader Cond) (nodes : ℕ) (ts : List Lexeme) → appended cond_spelled old (not_by below nodes ts) ≡ appended cond_spelled (old ++ node.Not ∷ []) (below nodes ts)
unfolding not_by
not_appended old below nodes ts = over_one cond_spelled cond_spelled (λ c. test.Not c) node.Not not_spelled old (below nodes ts)

pub cond_appended : (old : List Node) (exprs : Reader Expr) (below : Reader Cond) (depth nodes : ℕ) (ts : List Lexeme) → appended cond_spelled old (cond_by exprs below depth nodes ts) ≡
    cond (is_at marks.OpenTest ts) (start depth nodes ts >>= λ n. appended cond_spelled old (compare_by exprs n (rest_of ts)))
    (cond (is_at marks.Open ts) (start depth nodes ts >>= λ n. appended cond_spelled old (join_by below n (rest_of ts)))
    (cond (is_at marks.Not ts) (start depth nodes ts >>= λ n. appended cond_spelled old (not_by below n (rest_of ts)))
    (Err (unexpected ts))))
unfolding cond_by
cond_appended old exprs below depth nodes ts =
    cond_then cond_spelled old (is_at marks.OpenTest ts) _ _
    ∙ rw (
      start_then cond_spelled old depth nodes ts (λ n. compare_by exprs n (rest_of ts)),
      cond_then cond_spelled old (is_at marks.Open ts) (start depth nodes ts >>= λ n. join_by below n (rest_of ts)) (cond (is_at marks.Not ts) (start depth nodes ts >>= λ n. not_by below n (rest_of ts)) (Err (unexpected ts))),
      start_then cond_spelled old depth nodes ts (λ n. join_by below n (rest_of ts)),
      cond_then cond_spelled old (is_at marks.Not ts) (start depth nodes ts >>= λ n. not_by below n (rest_of ts)) (Err (unexpected ts)),
      start_then cond_spelled old depth nodes ts (λ n. not_by below n (rest_of ts)),
    ) refl

-- ---- statements

-- what closes a part, and then
abbrev with_rest : {A : Type 0} → A → ℕ → Result (List Lexeme) TextFault → Read A
with_rest a nodes read = read >>= λ rest. Ok (a, nodes, rest)

abbrev closing : {A : Type 0} → Mark → Read A → Read A
closing sign read = read >>= λ a. with_rest a.0 a.1 (expect sign a.2)

set_close : (old : List Node) (slot attr : ℕ) (e : Expr) (nodes : ℕ) (read : Result (List Lexeme) TextFault) → appended stmt_spelled old (with_rest e nodes read >>= λ b. Ok (stmt.Set slot attr b.0, b.1, b.2))
    ≡ (read >>= λ rest. Ok ((old ++ node.Set slot attr ∷ []) ++ expr_spelled e, nodes, rest))
set_close old slot attr e nodes (Ok rest) = ap (λ (ns : List Node). Ok (ns, nodes, rest)) (behind old (expr_spelled e) (stmt_spelled (stmt.Set slot attr e)) (node.Set slot attr) (set_spelled slot attr e))
set_close old slot attr e nodes (Err f) = refl

set_value : (old : List Node) (slot attr : ℕ) (read : Read Expr) → appended stmt_spelled old (closing marks.Semicolon read >>= λ b. Ok (stmt.Set slot attr b.0, b.1, b.2))
    ≡ (appended expr_spelled (old ++ node.Set slot attr ∷ []) read >>= λ a. expect marks.Semicolon a.2 >>= λ rest. Ok (a.0, a.1, rest))
set_value old slot attr (Ok a) = set_close old slot attr a.0 a.1 (expect marks.Semicolon a.2)
set_value old slot attr (Err f) = refl

set_target : (old : List Node) (exprs : Reader Expr) (nodes : ℕ) (ts : List Lexeme) (read : Result (ℕ × ℕ) TextFault) → appended stmt_spelled old (read >>= λ t. closed_by exprs marks.Semicolon nodes ts >>= λ e. Ok (stmt.Set t.0 t.1 e.0, e.1, e.2))
    ≡ (read >>= λ t. appended expr_spelled (old ++ node.Set t.0 t.1 ∷ []) (exprs nodes ts) >>= λ a. expect marks.Semicolon a.2 >>= λ rest. Ok (a.0, a.1, rest))
unfolding closed_by
set_target old exprs nodes ts (Ok t) = set_value old t.0 t.1 (exprs nodes ts)
set_target old exprs nodes ts (Err f) = refl

pub set_appended : (old : List Node) (reads : List ObjectId) (exprs : Reader Expr) (nodes : ℕ) (ts : List Lexeme) → appended stmt_spelled old (set_by reads exprs nodes ts)
    ≡ (target_at reads ts >>= λ t. appended expr_spelled (old ++ node.Set t.0 t.1 ∷ []) (exprs nodes (rest_of ts)) >>= λ a. expect marks.Semicolon a.2 >>= λ rest. Ok (a.0, a.1, rest))
unfolding set_by
set_appended old reads exprs nodes ts = set_target old exprs nodes (rest_of ts) (target_at reads ts)

abbrev with_first : List Stmt → Read (List Stmt) → Read (List Stmt × List Stmt)
with_first xs read = read >>= λ ys. Ok ((xs, ys.0), ys.1, ys.2)

abbrev with_else : Reader (List Stmt) → Read (List Stmt) → Read (List Stmt × List Stmt)
with_else blocks read = read >>= λ xs. with_first xs.0 (else_by blocks xs.1 xs.2)

if_second : (old : List Node) (c : Cond) (xs : List Stmt) (read : Read (List Stmt)) → appended stmt_spelled old (with_first xs read >>= λ b. Ok (stmt.If c b.0.0 b.0.1, b.1, b.2)) ≡ appended body_spelled (((old ++ node.If ∷ []) ++ cond_spelled c) ++ body_spelled xs) read
if_second old c xs (Ok ys) =
    let whole = behind old ((cond_spelled c ++ body_spelled xs) ++ body_spelled ys.0) (stmt_spelled (stmt.If c xs ys.0)) node.If (if_spelled c xs ys.0) in
    let apart = append_assoc (old ++ node.If ∷ []) (cond_spelled c ++ body_spelled xs) (body_spelled ys.0) in
    ap (λ (ns : List Node). Ok (ns, ys.1, ys.2)) (whole ∙ sym apart ∙ ap (λ (ns : List Node). ns ++ body_spelled ys.0) (sym (append_assoc (old ++ node.If ∷ []) (cond_spelled c) (body_spelled xs))))
if_second old c xs (Err e) = refl

if_first : (old : List Node) (blocks : Reader (List Stmt)) (c : Cond) (read : Read (List Stmt)) → appended stmt_spelled old (with_else blocks read >>= λ b. Ok (stmt.If c b.0.0 b.0.1, b.1, b.2))
    ≡ (appended body_spelled ((old ++ node.If ∷ []) ++ cond_spelled c) read >>= λ a. appended body_spelled a.0 (else_by blocks a.1 a.2))
if_first old blocks c (Ok xs) = if_second old c xs.0 (else_by blocks xs.1 xs.2)
if_first old blocks c (Err e) = refl

if_test : (old : List Node) (blocks : Reader (List Stmt)) (read : Read Cond) → appended stmt_spelled old (read >>= λ c. branches_by blocks c.1 c.2 >>= λ b. Ok (stmt.If c.0 b.0.0 b.0.1, b.1, b.2))
    ≡ (appended cond_spelled (old ++ node.If ∷ []) read >>= λ c. appended body_spelled c.0 (blocks c.1 c.2) >>= λ a. appended body_spelled a.0 (else_by blocks a.1 a.2))
unfolding branches_by
if_test old blocks (Ok c) = if_first old blocks c.0 (blocks c.1 c.2)
if_test old blocks (Err e) = refl

pub if_appended : (old : List Node) (conds : Reader Cond) (blocks : Reader (List Stmt)) (nodes : ℕ) (ts : List Lexeme) → appended stmt_spelled old (if_by conds blocks nodes ts)
    ≡ (appended cond_spelled (old ++ node.If ∷ []) (conds nodes ts) >>= λ c. appended body_spelled c.0 (blocks c.1 c.2) >>= λ a. appended body_spelled a.0 (else_by blocks a.1 a.2))
unfolding if_by
if_appended old conds blocks nodes ts = if_test old blocks (conds nodes ts)

pub else_appended : (old : List Node) (blocks : Reader (List Stmt)) (nodes : ℕ) (ts : List Lexeme) → appended body_spelled old (else_by blocks nodes ts)
    ≡ cond (is_at marks.Else ts) (appended body_spelled old (blocks nodes (rest_of ts))) (Ok (old ++ node.Block 0 0 ∷ [], nodes, ts))
unfolding else_by
else_appended old blocks nodes ts = cond_then body_spelled old (is_at marks.Else ts) (blocks nodes (rest_of ts)) (Ok ([], nodes, ts))

pub stmt_appended : (old : List Node) (reads : List ObjectId) (exprs : Reader Expr) (conds : Reader Cond) (blocks : Reader (List Stmt)) (depth nodes : ℕ) (ts : List Lexeme) → appended stmt_spelled old (stmt_by reads exprs conds blocks depth nodes ts) ≡
    cond (is_at marks.Set ts) (start depth nodes ts >>= λ n. appended stmt_spelled old (set_by reads exprs n (rest_of ts)))
    (cond (is_at marks.If ts) (start depth nodes ts >>= λ n. appended stmt_spelled old (if_by conds blocks n (rest_of ts)))
    (Err (unexpected ts)))
unfolding stmt_by
stmt_appended old reads exprs conds blocks depth nodes ts =
    cond_then stmt_spelled old (is_at marks.Set ts) _ _
    ∙ rw (
      start_then stmt_spelled old depth nodes ts (λ n. set_by reads exprs n (rest_of ts)),
      cond_then stmt_spelled old (is_at marks.If ts) (start depth nodes ts >>= λ n. if_by conds blocks n (rest_of ts)) (Err (unexpected ts)),
      start_then stmt_spelled old depth nodes ts (λ n. if_by conds blocks n (rest_of ts)),
    ) refl

-- ---- a block, whose place is kept until its end

-- Statements whose nodes go behind those of a block at a place that has so many before them.
pub run_by : Reader Stmt → ℕ → ℕ → ℕ → List Node → ℕ → List Lexeme → Read (List Node)
run_by stmts zero place count out nodes ts = Err (fault ts causes.TooLarge)
run_by stmts (suc turns) place count out nodes ts = cond (is_at marks.CloseBlock ts)
    (Ok (set out place (node.Block count (length out - place - 1)), nodes, rest_of ts))
    (appended stmt_spelled out (stmts nodes ts) >>= λ s. run_by stmts turns place (count + 1) s.0 s.1 s.2)

-- the nodes of a block that is not at its end
abbrev opened : List Node → List Stmt → List Node
opened old before = (old ++ node.Block 0 0 ∷ []) ++ run_spelled before

block_end : (old : List Node) (before : List Stmt) → old ++ body_spelled before ≡ set (opened old before) (length old) (node.Block (length before) (length (opened old before) - length old - 1))
block_end old before =
    let p = node.Block 0 0 in
    let run = run_spelled before in
    let a : (old ++ p ∷ []) ++ run ≡ old ++ p ∷ run = append_assoc old (p ∷ []) run in
    let l : length (old ++ p ∷ run) ≡ length old + suc (length run) = length-append old (p ∷ run) in
    let size : length (old ++ p ∷ run) - length old - 1 ≡ length run = omega (arith, l) in
    rw (a, size) (sym (set-append_seam old p run (node.Block (length before) (length run))))

opened_more : (old : List Node) (before : List Stmt) (s : Stmt) → opened old (before ++ s ∷ []) ≡ opened old before ++ stmt_spelled s
opened_more old before s = sym (flat_map_more stmt_spelled (old ++ node.Block 0 0 ∷ []) before s)

module _ (stmts : Reader Stmt) (old : List Node) where
  run_more : (turns : ℕ) (before : List Stmt) → ((b : List Stmt) (n : ℕ) (t : List Lexeme) → appended body_spelled old (stmts_by stmts turns b n t) ≡ run_by stmts turns (length old) (length b) (opened old b) n t)
      → (read : Read Stmt) → appended body_spelled old (read >>= λ s. stmts_by stmts turns (before ++ s.0 ∷ []) s.1 s.2)
      ≡ (appended stmt_spelled (opened old before) read >>= λ s. run_by stmts turns (length old) (length before + 1) s.0 s.1 s.2)
  run_more turns before fewer (Ok s) =
      let l : length (before ++ s.0 ∷ []) ≡ length before + 1 = length-append before (s.0 ∷ []) in
      fewer (before ++ s.0 ∷ []) s.1 s.2 ∙ ap (λ (k : ℕ). run_by stmts turns (length old) k (opened old (before ++ s.0 ∷ [])) s.1 s.2) l
      ∙ ap (λ (ns : List Node). run_by stmts turns (length old) (length before + 1) ns s.1 s.2) (opened_more old before s.0)
  run_more turns before fewer (Err e) = refl

  run_is : (turns : ℕ) (before : List Stmt) (nodes : ℕ) (ts : List Lexeme) → appended body_spelled old (stmts_by stmts turns before nodes ts) ≡ run_by stmts turns (length old) (length before) (opened old before) nodes ts
  unfolding stmts_by run_by
  run_is zero before nodes ts = refl
  run_is (suc turns) before nodes ts =
      let at_end = is_at marks.CloseBlock ts in
      let ends : done (old ++ body_spelled before, nodes, rest_of ts) ≡ done (set (opened old before) (length old) (node.Block (length before) (length (opened old before) - length old - 1)), nodes, rest_of ts) = ap (λ (ns : List Node). done (ns, nodes, rest_of ts)) (block_end old before) in
      let more = run_more turns before (λ b n t. run_is turns b n t) (stmts nodes ts) in
      cond_then body_spelled old at_end (Ok (before, nodes, rest_of ts)) (stmts nodes ts >>= λ s. stmts_by stmts turns (before ++ s.0 ∷ []) s.1 s.2)
      ∙ ap (λ (x : Read (List Node)). cond at_end x (appended body_spelled old (stmts nodes ts >>= λ s. stmts_by stmts turns (before ++ s.0 ∷ []) s.1 s.2))) ends
      ∙ ap (λ (y : Read (List Node)). cond at_end (done (set (opened old before) (length old) (node.Block (length before) (length (opened old before) - length old - 1)), nodes, rest_of ts)) y) more

  block_read : (nodes : ℕ) (read : Result (List Lexeme) TextFault) → appended body_spelled old (read >>= λ rest. stmts_by stmts 65 [] nodes rest) ≡ (read >>= λ rest. run_by stmts 65 (length old) 0 (old ++ node.Block 0 0 ∷ []) nodes rest)
  block_read nodes (Ok rest) = run_is 65 [] nodes rest ∙ ap (λ (ns : List Node). run_by stmts 65 (length old) 0 ns nodes rest) (append-nil (old ++ node.Block 0 0 ∷ []))
  block_read nodes (Err e) = refl

  pub block_appended : (nodes : ℕ) (ts : List Lexeme) → appended body_spelled old (block_by stmts nodes ts) ≡ (expect marks.OpenBlock ts >>= λ rest. run_by stmts 65 (length old) 0 (old ++ node.Block 0 0 ∷ []) nodes rest)
  unfolding block_by
  block_appended nodes ts = block_read nodes (expect marks.OpenBlock ts)

  block_rest : (nodes : ℕ) (read : Result (List Lexeme) TextFault) (rest : List Lexeme) (total : Read (List Node)) → read ≡ Ok rest → run_by stmts 65 (length old) 0 (old ++ node.Block 0 0 ∷ []) nodes rest ≡ total
      → (read >>= λ r. run_by stmts 65 (length old) 0 (old ++ node.Block 0 0 ∷ []) nodes r) ≡ total
  block_rest nodes read rest total is told = rw is told

  -- a block whose brace was read, and whose place is kept
  pub block_goes_on : (nodes : ℕ) (ts rest : List Lexeme) (place : ℕ) (out : List Node) (total : Read (List Node)) → expect marks.OpenBlock ts ≡ Ok rest → place ≡ length old → out ≡ old ++ node.Block 0 0 ∷ []
      → run_by stmts 65 place 0 out nodes rest ≡ total → appended body_spelled old (block_by stmts nodes ts) ≡ total
  block_goes_on nodes ts rest place out total is at begun told =
      let same : run_by stmts 65 (length old) 0 (old ++ node.Block 0 0 ∷ []) nodes rest ≡ run_by stmts 65 place 0 out nodes rest = rw (at, begun) refl in
      block_appended nodes ts ∙ block_rest nodes (expect marks.OpenBlock ts) rest total is (same ∙ told)

run_by_is : (stmts : Reader Stmt) (turns place count : ℕ) (out : List Node) (nodes : ℕ) (ts : List Lexeme) → run_by stmts turns place count out nodes ts ≡
    cond (eqb turns 0) (Err (fault ts causes.TooLarge)) (cond (is_at marks.CloseBlock ts) (Ok (set out place (node.Block count (length out - place - 1)), nodes, rest_of ts))
    (appended stmt_spelled out (stmts nodes ts) >>= λ s. run_by stmts (turns - 1) place (count + 1) s.0 s.1 s.2))
unfolding run_by
run_by_is stmts zero place count out nodes ts = refl
run_by_is stmts (suc turns) place count out nodes ts =
    let one : suc turns - 1 ≡ turns = omega arith in
    let some : eqb (suc turns) 0 ≡ false = ne_eqb (suc turns) 0 (λ e. absurd (omega arith)) in
    rw (one, some) refl

-- one turn of the loop over them
module _ (stmts : Reader Stmt) (turns place i : ℕ) (out : List Node) (nodes : ℕ) (ts : List Lexeme) (total : Read (List Node)) (told : run_by stmts (turns - i) place i out nodes ts ≡ total) where
  turn_is : i < turns → total ≡ cond (is_at marks.CloseBlock ts) (Ok (set out place (node.Block i (length out - place - 1)), nodes, rest_of ts))
      (appended stmt_spelled out (stmts nodes ts) >>= λ s. run_by stmts (turns - i - 1) place (i + 1) s.0 s.1 s.2)
  turn_is lt =
      let left : eqb (turns - i) 0 ≡ false = ne_eqb (turns - i) 0 (λ e. omega arith) in
      sym told ∙ run_by_is stmts (turns - i) place i out nodes ts ∙ rw left refl

  pub run_ends : i < turns → is_at marks.CloseBlock ts ≡ true → total ≡ Ok (set out place (node.Block i (length out - place - 1)), nodes, rest_of ts)
  run_ends lt h = turn_is lt ∙ rw h refl

  pub run_goes_on : i < turns → is_at marks.CloseBlock ts ≡ false → (s : List Node × ℕ × List Lexeme) → appended stmt_spelled out (stmts nodes ts) ≡ Ok s → run_by stmts (turns - (i + 1)) place (i + 1) s.0 s.1 s.2 ≡ total
  run_goes_on lt h s is =
      let fewer : turns - i - 1 ≡ turns - (i + 1) = omega arith in
      ap (λ (k : ℕ). run_by stmts k place (i + 1) s.0 s.1 s.2) (sym fewer) ∙ sym (turn_is lt ∙ rw (h, is) refl)

  pub run_fails : i < turns → is_at marks.CloseBlock ts ≡ false → (e : ParseFault) → Fails e (appended stmt_spelled out (stmts nodes ts)) → Fails e total
  run_fails lt h faults.Memory is = tt
  run_fails lt h (faults.Text f) is = turn_is lt ∙ rw (h, is) refl

  pub run_is_full : turns ≤ i → total ≡ Err (fault ts causes.TooLarge)
  run_is_full le =
      let none : turns - i ≡ 0 = omega arith in
      sym told ∙ run_by_is stmts (turns - i) place i out nodes ts ∙ rw none refl

-- A body that was read is what its nodes spell.
read_found : (out : List Node) (read : Read (List Stmt)) (nodes : ℕ) (rest : List Lexeme) → appended body_spelled [] read ≡ Ok (out, nodes, rest) → IsBody out × (read ≡ Ok (block_in (first (parts out)), nodes, rest))
read_found out (Ok x) nodes rest h =
    let p : (body_spelled x.0, x.1, x.2) ≡ (out, nodes, rest) = cc in
    let is : out ≡ body_spelled x.0 = sym (ap (λ (q : List Node × ℕ × List Lexeme). q.0) p) in
    let n : x.1 ≡ nodes = ap (λ (q : List Node × ℕ × List Lexeme). q.1) p in
    let r : x.2 ≡ rest = ap (λ (q : List Node × ℕ × List Lexeme). q.2) p in
    (body_is out x.0 is, rw (body_view out x.0 is, ← n, ← r) refl)
read_found out (Err e) nodes rest h = absurd cc

pub body_found : (out : List Node) (stmts : Reader Stmt) (started : ℕ) (ts : List Lexeme) (nodes : ℕ) (rest : List Lexeme) → appended body_spelled [] (block_by stmts started ts) ≡ Ok (out, nodes, rest)
    → IsBody out × (block_by stmts started ts ≡ Ok (block_in (first (parts out)), nodes, rest))
body_found out stmts started ts nodes rest h = read_found out (block_by stmts started ts) nodes rest h
