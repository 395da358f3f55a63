-- An expression or condition of the grammar is read.
use Rattle.std.proofs.Common.{◌≡◌, ℕ, zero, suc, ◌+◌, ◌<◌, ◌≤◌, inl, inr, Bool, true, false, cond, eqb, ltb, List, [], ◌∷◌, Option, Some, None, Result, Ok, Err, refl, ap, ◌∙◌, arith}
use Rattle.std.specs.Prelude.{ℤ}
use Rattle.std.proofs.lemmas.Bool.{eq-eqb, lt-ltb}
use Rattle.sv_world.specs.declared.world.ObjectId.{ObjectId}
use Rattle.sv_world.specs.declared.action.Expr.{Expr}
use Rattle.sv_world.specs.declared.action.Expr.TheVariants as expr
use Rattle.sv_world.specs.declared.action.Cond.{Cond}
use Rattle.sv_world.specs.declared.action.Cond.TheVariants as test
use Rattle.sv_world.specs.Parts.{binary_by as with_op, compare_by as with_comparison, join_by as with_joint}
use Rattle.sv_text.specs.declared.fault.TextCause.TheVariants as causes
use Rattle.sv_text.specs.declared.fault.TextFault.{TextFault}
use Rattle.sv_text.specs.declared.token.Mark.{Mark}
use Rattle.sv_text.specs.declared.token.Mark.TheVariants as marks
use Rattle.sv_text.specs.declared.token.Token.{Token}
use Rattle.sv_text.specs.declared.token.Token.TheVariants as tokens
use Rattle.sv_text.specs.declared.token.Lexeme.{Lexeme}
use Rattle.sv_world.specs.declared.node.Operator.{Operator}
use Rattle.sv_world.specs.declared.node.Operator.TheVariants as ops
use Rattle.sv_world.specs.declared.node.Comparison.{Comparison}
use Rattle.sv_world.specs.declared.node.Comparison.TheVariants as comparisons
use Rattle.sv_world.specs.declared.node.Connective.{Connective}
use Rattle.sv_world.specs.declared.node.Connective.TheVariants as joints
use Rattle.sv_text.specs.Reading.{◌>>=◌, Read, mark_code, is_same, is_mark, is_at, mark_of, front_of, front, rest_of, fault, unexpected, expect, slot_from, slot_at, start, part_or, marked, op_of, op_at, leaf_by, leaf_at, closed_by, bracketed_by, pair_by, expr_by, expr_at, comparison_of, comparison_at, joint_of, joint_at, compare_by, join_by, not_by, cond_by, cond_at}
use Rattle.sv_text.specs.Grammar.{Place, Form, IsMark, IsNode, IsNumber, IsRef, op_mark, comparison_mark, joint_mark, AreTwoParts, IsPair, IsExpr, IsTest, IsJoined, IsNot, IsCond}

-- a step that does not fail
pub then_ok : {A B : Type 0} (r : Result A TextFault) (f : A → Result B TextFault) (x : A) (z : Result B TextFault) → r ≡ Ok x → f x ≡ z → (r >>= f) ≡ z
then_ok {A = A} r f x z e h = ap (λ (q : Result A TextFault). q >>= f) e ∙ h

-- a reader's answer: what it read, up to a place
abbrev pub gives : {A : Type 0} → A → Place → Read A
gives a q = Ok (a, q.0, q.1)

-- what has a form is read
abbrev pub Reads : {A : Type 0} → (ℕ → List Lexeme → Read A) → Form A → Type 0
Reads {A = A} read form = (a : A) (p q : Place) → form a p q → read p.0 p.1 ≡ gives a q

-- It starts a node, of which there are at most 64.
abbrev pub Grows : {A : Type 0} → Form A → Type 0
Grows {A = A} form = (a : A) (p q : Place) → form a p q → (p.0 < q.0) × (q.0 ≤ 64)

-- ---- one token

pub at_mark : (m : Mark) (ts : List Lexeme) → front ts ≡ Some m → is_at m ts ≡ true
unfolding is_at is_same
at_mark m ts h = ap (is_mark m) h ∙ eq-eqb (mark_code m) (mark_code m) refl

pub not_at : (m n : Mark) (ts : List Lexeme) → front ts ≡ Some n → eqb (mark_code n) (mark_code m) ≡ false → is_at m ts ≡ false
unfolding is_at is_same
not_at m n ts h e = ap (is_mark m) h ∙ e

pub not_at_none : (m : Mark) (ts : List Lexeme) → front ts ≡ None → is_at m ts ≡ false
unfolding is_at
not_at_none m ts h = ap (is_mark m) h

pub expect_again : (m : Mark) (ts : List Lexeme) → front ts ≡ Some m → expect m ts ≡ Ok (rest_of ts)
unfolding expect
expect_again m ts h = ap (λ (b : Bool). cond b (Ok (rest_of ts)) (Err (unexpected ts))) (at_mark m ts h)

start_again : (depth nodes : ℕ) (ts : List Lexeme) → 0 < depth → nodes < 64 → start depth nodes ts ≡ Ok (nodes + 1)
unfolding start
start_again depth nodes ts deep few =
    ap (λ (b : Bool). cond b (cond (ltb 0 depth) (Ok (nodes + 1)) (Err (fault ts causes.TooDeep))) (Err (fault ts causes.TooLarge))) (lt-ltb nodes 64 few)
    ∙ ap (λ (b : Bool). cond b (Ok (nodes + 1)) (Err (fault ts causes.TooDeep))) (lt-ltb 0 depth deep)

-- a node that starts with a word or sign
pub started : {A : Type 0} (m : Mark) (depth : ℕ) (p inside : Place) (f : ℕ → List Lexeme → Read A) (z : Read A) → IsNode m p inside → f inside.0 inside.1 ≡ z → (start (suc depth) p.0 p.1 >>= λ n. f n (rest_of p.1)) ≡ z
started m depth p inside f z i h =
    then_ok (start (suc depth) p.0 p.1) (λ n. f n (rest_of p.1)) (p.0 + 1) z (start_again (suc depth) p.0 p.1 (omega arith) i.1) (ap (λ (s : Place). f s.0 s.1) i.2 ∙ h)

op_back : (o : Operator) → op_of (op_mark o) ≡ Some o
op_back ops.Add = refl
op_back ops.Sub = refl
op_back ops.Mul = refl
op_back ops.Div = refl
op_back ops.Rem = refl
op_back ops.Min = refl
op_back ops.Max = refl

op_again : (o : Operator) (ts : List Lexeme) → front ts ≡ Some (op_mark o) → op_at ts ≡ Ok o
unfolding op_at
op_again o ts h = ap (λ (f : Option Mark). part_or (unexpected ts) (marked op_of f)) h ∙ ap (part_or (unexpected ts)) (op_back o)

pub slot_again : (reads : List ObjectId) (o : ℕ) (ts : List Lexeme) (k : ℕ) → slot_from 0 reads o ≡ Some k → slot_at reads o ts ≡ Ok k
unfolding slot_at
slot_again reads o ts k h = ap (part_or (fault ts causes.NotRead)) h

pub front_number : (z : ℤ) (ts rest : List Lexeme) → IsNumber z ts rest → (front ts ≡ None) × (rest_of ts ≡ rest)
unfolding front
front_number z [] rest h = absurd h
front_number z (t ∷ ts) rest h = (ap (λ (k : Token). front_of t.glued (mark_of k)) h.0, h.2)

literal_again : (reads : List ObjectId) (z : ℤ) (ts rest : List Lexeme) → IsNumber z ts rest → leaf_at reads ts ≡ Ok (expr.Lit z)
unfolding leaf_at
literal_again reads z [] rest h = absurd h
literal_again reads z (t ∷ ts) rest h = ap (leaf_by reads (t ∷ ts) t.glued) h.0 ∙ ap (λ (g : Bool). leaf_by reads (t ∷ ts) g (tokens.Number z)) h.1

front_ref : (reads : List ObjectId) (k a : ℕ) (ts rest : List Lexeme) → IsRef reads k a ts rest → (front ts ≡ None) × (rest_of ts ≡ rest)
unfolding front
front_ref reads k a [] rest h = absurd h
front_ref reads k a (t ∷ ts) rest h = (ap (λ (k : Token). front_of t.glued (mark_of k)) h.2, h.3)

attr_again : (reads : List ObjectId) (k a : ℕ) (ts rest : List Lexeme) → IsRef reads k a ts rest → leaf_at reads ts ≡ Ok (expr.Attr k a)
unfolding leaf_at
attr_again reads k a [] rest h = absurd h
attr_again reads k a (t ∷ ts) rest h =
    ap (leaf_by reads (t ∷ ts) t.glued) h.2 ∙ then_ok (slot_at reads h.0 (t ∷ ts)) (λ k. Ok (expr.Attr k a)) k (Ok (expr.Attr k a)) (slot_again reads h.0 (t ∷ ts) k h.1) refl

-- ---- expressions

pub closed_again : {A : Type 0} (below : ℕ → List Lexeme → Read A) (m : Mark) (a : A) (p three q : Place) → below p.0 p.1 ≡ gives a three → IsMark m three q → closed_by below m p.0 p.1 ≡ gives a q
unfolding closed_by
closed_again {A = A} below m a p three q e c =
    then_ok (below p.0 p.1) (λ a. expect m a.2 >>= λ rest. Ok (a.0, a.1, rest)) (a, three.0, three.1) (gives a q) e
    (then_ok (expect m three.1) (λ rest. Ok (a, three.0, rest)) (rest_of three.1) (gives a q) (expect_again m three.1 c.0) (ap (gives a) c.1))

-- Two parts, what joins them, and a sign behind them are read, where what joins them is.
bracketed_again : {O A B : Type 0} (joined : List Lexeme → Result O TextFault) (mark : O → Mark) → ((o : O) (ts : List Lexeme) → front ts ≡ Some (mark o) → joined ts ≡ Ok o) → (make : O → A → A → B) (closes : Mark)
    (below : ℕ → List Lexeme → Read A) (form : Form A) → Reads below form → (o : O) (a b : A) (p q : Place) → AreTwoParts form a (mark o) b closes p q → bracketed_by joined make closes below p.0 p.1 ≡ gives (make o a b) q
unfolding bracketed_by
bracketed_again joined mark joined_again make closes below form again o a b p q t =
    then_ok (below p.0 p.1) (λ a. joined a.2 >>= λ o. below a.1 (rest_of a.2) >>= λ b. expect closes b.2 >>= λ rest. Ok (make o a.0 b.0, b.1, rest)) (a, t.one.0, t.one.1) (gives (make o a b) q) (again a p t.one t.left)
    (then_ok (joined t.one.1) (λ o. below t.one.0 (rest_of t.one.1) >>= λ b. expect closes b.2 >>= λ rest. Ok (make o a b.0, b.1, rest)) o (gives (make o a b) q) (joined_again o t.one.1 t.between.0)
    (then_ok (below t.one.0 (rest_of t.one.1)) (λ b. expect closes b.2 >>= λ rest. Ok (make o a b.0, b.1, rest)) (b, t.three.0, t.three.1) (gives (make o a b) q) (ap (λ (s : Place). below s.0 s.1) t.between.1 ∙ again b t.two t.three t.right)
    (then_ok (expect closes t.three.1) (λ rest. Ok (make o a b, t.three.0, rest)) (rest_of t.three.1) (gives (make o a b) q) (expect_again closes t.three.1 t.closed.0) (ap (gives (make o a b)) t.closed.1))))

pair_again : (below : ℕ → List Lexeme → Read Expr) (form : Form Expr) → Reads below form → (op : Operator) (a b : Expr) (p q : Place) → AreTwoParts form a (op_mark op) b marks.Close p q → pair_by below p.0 p.1 ≡ gives (with_op op a b) q
unfolding pair_by
pair_again below form again op a b p q t = bracketed_again op_at op_mark op_again with_op marks.Close below form again op a b p q t

leaf_step : (reads : List ObjectId) (below : ℕ → List Lexeme → Read Expr) (depth : ℕ) (e : Expr) (p q : Place) → leaf_at reads p.1 ≡ Ok e → (front p.1 ≡ None) × (rest_of p.1 ≡ q.1) → p.0 < 64 → p.0 + 1 ≡ q.0 → expr_by reads below (suc depth) p.0 p.1 ≡ gives e q
unfolding expr_by
leaf_step reads below depth e p q leaf next few count =
    ap (λ (b : Bool). cond b (start (suc depth) p.0 p.1 >>= λ n. pair_by below n (rest_of p.1)) (leaf_at reads p.1 >>= λ leaf. start (suc depth) p.0 p.1 >>= λ n. Ok (leaf, n, rest_of p.1))) (not_at_none marks.Open p.1 next.0)
    ∙ then_ok (leaf_at reads p.1) (λ leaf. start (suc depth) p.0 p.1 >>= λ n. Ok (leaf, n, rest_of p.1)) e (gives e q) leaf
    (then_ok (start (suc depth) p.0 p.1) (λ n. Ok (e, n, rest_of p.1)) (p.0 + 1) (gives e q) (start_again (suc depth) p.0 p.1 (omega arith) few)
    (ap (λ (n : ℕ). gives e (n, rest_of p.1)) count ∙ ap (λ (l : List Lexeme). gives e (q.0, l)) next.1))

pair_step : (reads : List ObjectId) (below : ℕ → List Lexeme → Read Expr) (form : Form Expr) → Reads below form → (depth : ℕ) (e : Expr) (p q : Place) → IsPair form e p q → expr_by reads below (suc depth) p.0 p.1 ≡ gives e q
unfolding expr_by
pair_step reads below form again depth e p q i =
    ap (λ (b : Bool). cond b (start (suc depth) p.0 p.1 >>= λ n. pair_by below n (rest_of p.1)) (leaf_at reads p.1 >>= λ leaf. start (suc depth) p.0 p.1 >>= λ n. Ok (leaf, n, rest_of p.1))) (at_mark marks.Open p.1 i.opened.0)
    ∙ started marks.Open depth p i.inside (pair_by below) (gives e q) i.opened (pair_again below form again i.by i.a i.b i.inside q i.parts ∙ ap (λ (x : Expr). gives x q) i.made)

pub expr_again : (reads : List ObjectId) (depth : ℕ) → Reads (expr_at reads depth) (IsExpr reads depth)
unfolding expr_at
expr_again reads zero e p q h = absurd h
expr_again reads (suc depth) e p q (inl i) = pair_step reads (expr_at reads depth) (IsExpr reads depth) (expr_again reads depth) depth e p q i
expr_again reads (suc depth) e p q (inr (inl i)) =
    leaf_step reads (expr_at reads depth) depth e p q (literal_again reads i.number p.1 q.1 i.here ∙ ap (λ (x : Expr). Ok x) i.made) (front_number i.number p.1 q.1 i.here) i.few i.count
expr_again reads (suc depth) e p q (inr (inr i)) =
    leaf_step reads (expr_at reads depth) depth e p q (attr_again reads i.slot i.attr p.1 q.1 i.here ∙ ap (λ (x : Expr). Ok x) i.made) (front_ref reads i.slot i.attr p.1 q.1 i.here) i.few i.count

node_grows : (m : Mark) (p q : Place) → IsNode m p q → (p.0 < q.0) × (q.0 ≤ 64)
node_grows m p q i = let e : p.0 + 1 ≡ q.0 = ap (λ (s : Place). s.0) i.2 in (omega arith, let few : p.0 < 64 = i.1 in omega arith)

pub mark_stays : (m : Mark) (p q : Place) → IsMark m p q → p.0 ≡ q.0
mark_stays m p q i = ap (λ (s : Place). s.0) i.1

two_grows : {A : Type 0} (form : Form A) → Grows form → (a : A) (m : Mark) (b : A) (c : Mark) (p q : Place) → AreTwoParts form a m b c p q → (p.0 < q.0) × (q.0 ≤ 64)
two_grows form grows a m b c p q t =
    let l = grows a p t.one t.left in
    let r = grows b t.two t.three t.right in
    let e = mark_stays m t.one t.two t.between in
    let f = mark_stays c t.three q t.closed in
    (omega (arith, l.0, r.0), omega (arith, r.1))

pub expr_grows : (reads : List ObjectId) (depth : ℕ) → Grows (IsExpr reads depth)
expr_grows reads zero e p q h = absurd h
expr_grows reads (suc depth) e p q (inl i) =
    let n = node_grows marks.Open p i.inside i.opened in
    let t = two_grows (IsExpr reads depth) (expr_grows reads depth) i.a (op_mark i.by) i.b marks.Close i.inside q i.parts in
    (omega (arith, n.0, t.0), t.1)
expr_grows reads (suc depth) e p q (inr (inl i)) = let c : p.0 + 1 ≡ q.0 = i.count in let f : p.0 < 64 = i.few in (omega arith, omega arith)
expr_grows reads (suc depth) e p q (inr (inr i)) = let c : p.0 + 1 ≡ q.0 = i.count in let f : p.0 < 64 = i.few in (omega arith, omega arith)

-- ---- conditions

comparison_back : (o : Comparison) → comparison_of (comparison_mark o) ≡ Some o
comparison_back comparisons.Eq = refl
comparison_back comparisons.Lt = refl
comparison_back comparisons.Le = refl

comparison_again : (o : Comparison) (ts : List Lexeme) → front ts ≡ Some (comparison_mark o) → comparison_at ts ≡ Ok o
unfolding comparison_at
comparison_again o ts h = ap (λ (f : Option Mark). part_or (unexpected ts) (marked comparison_of f)) h ∙ ap (part_or (unexpected ts)) (comparison_back o)

joint_back : (o : Connective) → joint_of (joint_mark o) ≡ Some o
joint_back joints.And = refl
joint_back joints.Or = refl

joint_again : (o : Connective) (ts : List Lexeme) → front ts ≡ Some (joint_mark o) → joint_at ts ≡ Ok o
unfolding joint_at
joint_again o ts h = ap (λ (f : Option Mark). part_or (unexpected ts) (marked joint_of f)) h ∙ ap (part_or (unexpected ts)) (joint_back o)

compare_again : (exprs : ℕ → List Lexeme → Read Expr) (form : Form Expr) → Reads exprs form → (c : Comparison) (a b : Expr) (p q : Place) → AreTwoParts form a (comparison_mark c) b marks.CloseTest p q → compare_by exprs p.0 p.1 ≡ gives (with_comparison c a b) q
unfolding compare_by
compare_again exprs form again c a b p q t = bracketed_again comparison_at comparison_mark comparison_again with_comparison marks.CloseTest exprs form again c a b p q t

join_again : (below : ℕ → List Lexeme → Read Cond) (form : Form Cond) → Reads below form → (j : Connective) (a b : Cond) (p q : Place) → AreTwoParts form a (joint_mark j) b marks.Close p q → join_by below p.0 p.1 ≡ gives (with_joint j a b) q
unfolding join_by
join_again below form again j a b p q t = bracketed_again joint_at joint_mark joint_again with_joint marks.Close below form again j a b p q t

not_again : (below : ℕ → List Lexeme → Read Cond) (a : Cond) (p q : Place) → below p.0 p.1 ≡ gives a q → not_by below p.0 p.1 ≡ gives (test.Not a) q
unfolding not_by
not_again below a p q h = then_ok (below p.0 p.1) (λ a. Ok (test.Not a.0, a.1, a.2)) (a, q.0, q.1) (gives (test.Not a) q) h refl

module _ (exprs : ℕ → List Lexeme → Read Expr) (below : ℕ → List Lexeme → Read Cond) (values : Form Expr) (form : Form Cond) (in_exprs : Reads exprs values) (in_below : Reads below form) (depth : ℕ) (c : Cond) (p q : Place) where
  abbrev by_not : Bool → Read Cond
  by_not b = cond b (start (suc depth) p.0 p.1 >>= λ n. not_by below n (rest_of p.1)) (Err (unexpected p.1))

  abbrev by_open : Bool → Bool → Read Cond
  by_open a b = cond a (start (suc depth) p.0 p.1 >>= λ n. join_by below n (rest_of p.1)) (by_not b)

  abbrev by_all : Bool → Bool → Bool → Read Cond
  by_all t a b = cond t (start (suc depth) p.0 p.1 >>= λ n. compare_by exprs n (rest_of p.1)) (by_open a b)

  test_step : IsTest values c p q → cond_by exprs below (suc depth) p.0 p.1 ≡ gives c q
  unfolding cond_by
  test_step i = ap (λ (t : Bool). by_all t (is_at marks.Open p.1) (is_at marks.Not p.1)) (at_mark marks.OpenTest p.1 i.opened.0)
      ∙ started marks.OpenTest depth p i.inside (compare_by exprs) (gives c q) i.opened (compare_again exprs values in_exprs i.by i.a i.b i.inside q i.parts ∙ ap (λ (x : Cond). gives x q) i.made)

  joined_step : IsJoined form c p q → cond_by exprs below (suc depth) p.0 p.1 ≡ gives c q
  unfolding cond_by
  joined_step i = ap (λ (t : Bool). by_all t (is_at marks.Open p.1) (is_at marks.Not p.1)) (not_at marks.OpenTest marks.Open p.1 i.opened.0 refl)
      ∙ ap (λ (a : Bool). by_open a (is_at marks.Not p.1)) (at_mark marks.Open p.1 i.opened.0)
      ∙ started marks.Open depth p i.inside (join_by below) (gives c q) i.opened (join_again below form in_below i.by i.a i.b i.inside q i.parts ∙ ap (λ (x : Cond). gives x q) i.made)

  not_step : IsNot form c p q → cond_by exprs below (suc depth) p.0 p.1 ≡ gives c q
  unfolding cond_by
  not_step i = ap (λ (t : Bool). by_all t (is_at marks.Open p.1) (is_at marks.Not p.1)) (not_at marks.OpenTest marks.Not p.1 i.opened.0 refl)
      ∙ ap (λ (a : Bool). by_open a (is_at marks.Not p.1)) (not_at marks.Open marks.Not p.1 i.opened.0 refl)
      ∙ ap by_not (at_mark marks.Not p.1 i.opened.0)
      ∙ started marks.Not depth p i.inside (not_by below) (gives c q) i.opened (not_again below i.a i.inside q (in_below i.a i.inside q i.part) ∙ ap (λ (x : Cond). gives x q) i.made)

pub cond_again : (reads : List ObjectId) (depth : ℕ) → Reads (cond_at reads depth) (IsCond reads depth)
unfolding cond_at
cond_again reads zero c p q h = absurd h
cond_again reads (suc depth) c p q (inl i) = test_step (expr_at reads depth) (cond_at reads depth) (IsExpr reads depth) (IsCond reads depth) (expr_again reads depth) (cond_again reads depth) depth c p q i
cond_again reads (suc depth) c p q (inr (inl i)) = joined_step (expr_at reads depth) (cond_at reads depth) (IsExpr reads depth) (IsCond reads depth) (expr_again reads depth) (cond_again reads depth) depth c p q i
cond_again reads (suc depth) c p q (inr (inr i)) = not_step (expr_at reads depth) (cond_at reads depth) (IsExpr reads depth) (IsCond reads depth) (expr_again reads depth) (cond_again reads depth) depth c p q i

pub cond_grows : (reads : List ObjectId) (depth : ℕ) → Grows (IsCond reads depth)
cond_grows reads zero c p q h = absurd h
cond_grows reads (suc depth) c p q (inl i) =
    let n = node_grows marks.OpenTest p i.inside i.opened in
    let t = two_grows (IsExpr reads depth) (expr_grows reads depth) i.a (comparison_mark i.by) i.b marks.CloseTest i.inside q i.parts in
    (omega (arith, n.0, t.0), t.1)
cond_grows reads (suc depth) c p q (inr (inl i)) =
    let n = node_grows marks.Open p i.inside i.opened in
    let t = two_grows (IsCond reads depth) (cond_grows reads depth) i.a (joint_mark i.by) i.b marks.Close i.inside q i.parts in
    (omega (arith, n.0, t.0), t.1)
cond_grows reads (suc depth) c p q (inr (inr i)) =
    let n = node_grows marks.Not p i.inside i.opened in
    let t = cond_grows reads depth i.a i.inside q i.part in
    (omega (arith, n.0, t.0), t.1)

pub node_counts : (m : Mark) (p q : Place) → IsNode m p q → (p.0 < q.0) × (q.0 ≤ 64)
node_counts m p q i = node_grows m p q i
