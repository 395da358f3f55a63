-- What is read as a token or an expression is in the grammar.
use Rattle.std.proofs.Common.{◌≡◌, ℕ, zero, suc, ◌+◌, ◌<◌, ◌⊎◌, inl, inr, Bool, true, false, cond, eqb, ltb, List, [], ◌∷◌, Option, Some, None, Result, Ok, Err, refl, sym, ap, subst, ◌∙◌, arith}
use Rattle.std.specs.Prelude.{ℤ}
use Rattle.std.proofs.lemmas.Bool.{eqb-true, ltb-true}
use Rattle.sv_world.specs.declared.world.ObjectId.{ObjectId}
use Rattle.sv_world.specs.declared.action.Expr.{Expr}
use Rattle.sv_world.specs.declared.action.Expr.TheVariants as expr
use Rattle.sv_world.specs.Parts.{binary_by as with_op}
use Rattle.sv_text.specs.declared.fault.TextCause.TheVariants as causes
use Rattle.sv_text.specs.declared.fault.TextFault.{TextFault}
use Rattle.sv_text.specs.declared.token.Mark.{Mark}
use Rattle.sv_text.specs.declared.token.Mark.TheVariants as marks
use Rattle.sv_text.specs.declared.token.Token.{Token}
use Rattle.sv_text.specs.declared.token.Token.TheVariants as tokens
use Rattle.sv_text.specs.declared.token.Lexeme.{Lexeme}
use Rattle.sv_world.specs.declared.node.Operator.{Operator}
use Rattle.sv_world.specs.declared.node.Operator.TheVariants as ops
use Rattle.sv_text.specs.Reading.{◌>>=◌, Read, mark_code, is_same, is_mark, is_at, front, rest_of, fault, unexpected, expect, slot_from, slot_at, start, part_or, marked, op_of, op_at, leaf_by, leaf_at, closed_by, bracketed_by, pair_by, expr_by, nowhere, expr_at}
use Rattle.sv_text.specs.Grammar.{Place, Form, IsMark, IsNode, IsNumber, IsRef, op_mark, IsBracketed, IsPair, IsLiteral, IsAttr, IsExpr}

-- the value of a step that did not fail
pub bind_ok : {A B : Type 0} (r : Result A TextFault) (f : A → Result B TextFault) (y : B) → (r >>= f) ≡ Ok y → (x : A) × (r ≡ Ok x) × (f x ≡ Ok y)
bind_ok (Ok x) f y e = (x, refl, e)
bind_ok (Err d) f y e = absurd cc

-- which way a test went
pub chosen : {X : Type 0} (b : Bool) (x y z : X) → cond b x y ≡ z → ((b ≡ true) × (x ≡ z)) ⊎ ((b ≡ false) × (y ≡ z))
chosen true x y z e = inl (refl, e)
chosen false x y z e = inr (refl, e)

abbrev done : {A : Type 0} → A → Result A TextFault
done x = Ok x

pub ok_is : {A : Type 0} (x y : A) → done x ≡ done y → x ≡ y
ok_is x y e = cc

pub no_err : {A C : Type 0} (f : TextFault) (x : A) → Err f ≡ done x → C
no_err f x e = absurd cc

pub some_is : {A : Type 0} (x y : A) → Some x ≡ Some y → x ≡ y
some_is x y e = cc

-- ---- marks

abbrev mark_at : ℕ → Mark
mark_at n =
    cond (eqb n 0) marks.Reads (cond (eqb n 1) marks.Writes (cond (eqb n 2) marks.At (cond (eqb n 3) marks.Set (cond (eqb n 4) marks.If (cond (eqb n 5) marks.Else
    (cond (eqb n 6) marks.Min (cond (eqb n 7) marks.Max (cond (eqb n 8) marks.And (cond (eqb n 9) marks.Or (cond (eqb n 10) marks.Not (cond (eqb n 11) marks.Other
    (cond (eqb n 12) marks.Open (cond (eqb n 13) marks.Close (cond (eqb n 14) marks.OpenTest (cond (eqb n 15) marks.CloseTest (cond (eqb n 16) marks.OpenBlock (cond (eqb n 17) marks.CloseBlock
    (cond (eqb n 18) marks.Semicolon (cond (eqb n 19) marks.Plus (cond (eqb n 20) marks.Minus (cond (eqb n 21) marks.Times (cond (eqb n 22) marks.Divide (cond (eqb n 23) marks.Remainder
    (cond (eqb n 24) marks.Equal (cond (eqb n 25) marks.LessEqual (cond (eqb n 26) marks.Less marks.End))))))))))))))))))))))))))

back : (m : Mark) → mark_at (mark_code m) ≡ m
back marks.Reads = refl
back marks.Writes = refl
back marks.At = refl
back marks.Set = refl
back marks.If = refl
back marks.Else = refl
back marks.Min = refl
back marks.Max = refl
back marks.And = refl
back marks.Or = refl
back marks.Not = refl
back marks.Other = refl
back marks.Open = refl
back marks.Close = refl
back marks.OpenTest = refl
back marks.CloseTest = refl
back marks.OpenBlock = refl
back marks.CloseBlock = refl
back marks.Semicolon = refl
back marks.Plus = refl
back marks.Minus = refl
back marks.Times = refl
back marks.Divide = refl
back marks.Remainder = refl
back marks.Equal = refl
back marks.LessEqual = refl
back marks.Less = refl
back marks.End = refl

is_same_is : (m n : Mark) → is_same m n ≡ true → m ≡ n
unfolding is_same
is_same_is m n h = sym (back m) ∙ ap mark_at (eqb-true (mark_code m) (mark_code n) h) ∙ back n

is_mark_is : (m : Mark) (o : Option Mark) → is_mark m o ≡ true → o ≡ Some m
is_mark_is m None h = absurd cc
is_mark_is m (Some n) h = ap Some (is_same_is n m h)

pub is_at_is : (m : Mark) (ts : List Lexeme) → is_at m ts ≡ true → front ts ≡ Some m
unfolding is_at
is_at_is m ts h = is_mark_is m (front ts) h

pub expect_is : (m : Mark) (ts rest : List Lexeme) → expect m ts ≡ Ok rest → (front ts ≡ Some m) × (rest_of ts ≡ rest)
unfolding expect
expect_is m ts rest e = elim (chosen (is_at m ts) (Ok (rest_of ts)) (Err (unexpected ts)) (Ok rest) e) [
  | inl h ↦ (is_at_is m ts h.0, ok_is (rest_of ts) rest h.1)
  | inr h ↦ no_err (unexpected ts) rest h.1
]

pub part_is : {A : Type 0} (f : TextFault) (o : Option A) (x : A) → part_or f o ≡ Ok x → o ≡ Some x
part_is f None x e = no_err f x e
part_is f (Some y) x e = ap Some (ok_is y x e)

pub marked_is : {A : Type 0} (f : Mark → Option A) (o : Option Mark) (x : A) → marked f o ≡ Some x → (m : Mark) × (o ≡ Some m) × (f m ≡ Some x)
marked_is f None x e = absurd cc
marked_is f (Some m) x e = (m, refl, e)

op_mark_is : (m : Mark) (o : Operator) → op_of m ≡ Some o → m ≡ op_mark o
op_mark_is marks.Plus o e = ap op_mark (some_is ops.Add o e)
op_mark_is marks.Minus o e = ap op_mark (some_is ops.Sub o e)
op_mark_is marks.Times o e = ap op_mark (some_is ops.Mul o e)
op_mark_is marks.Divide o e = ap op_mark (some_is ops.Div o e)
op_mark_is marks.Remainder o e = ap op_mark (some_is ops.Rem o e)
op_mark_is marks.Min o e = ap op_mark (some_is ops.Min o e)
op_mark_is marks.Max o e = ap op_mark (some_is ops.Max o e)
op_mark_is _ o e = absurd cc

pub op_at_is : (ts : List Lexeme) (o : Operator) → op_at ts ≡ Ok o → front ts ≡ Some (op_mark o)
unfolding op_at
op_at_is ts o e =
    let q = marked_is op_of (front ts) o (part_is (unexpected ts) (marked op_of (front ts)) o e) in
    q.1 ∙ ap Some (op_mark_is q.0 o q.2)

-- ---- starts, slots and leaves

pub start_is : (depth nodes : ℕ) (ts : List Lexeme) (n : ℕ) → start depth nodes ts ≡ Ok n → (0 < depth) × (nodes < 64) × (nodes + 1 ≡ n)
unfolding start
start_is depth nodes ts n e = elim (chosen (ltb nodes 64) (cond (ltb 0 depth) (Ok (nodes + 1)) (Err (fault ts causes.TooDeep))) (Err (fault ts causes.TooLarge)) (Ok n) e) [
  | inl h ↦ elim (chosen (ltb 0 depth) (Ok (nodes + 1)) (Err (fault ts causes.TooDeep)) (Ok n) h.1) [
    | inl k ↦ (ltb-true 0 depth k.0, ltb-true nodes 64 h.0, ok_is (nodes + 1) n k.1)
    | inr k ↦ no_err (fault ts causes.TooDeep) n k.1
  ]
  | inr h ↦ no_err (fault ts causes.TooLarge) n h.1
]

pub slot_at_is : (reads : List ObjectId) (o : ℕ) (ts : List Lexeme) (k : ℕ) → slot_at reads o ts ≡ Ok k → slot_from 0 reads o ≡ Some k
unfolding slot_at
slot_at_is reads o ts k e = part_is (fault ts causes.NotRead) (slot_from 0 reads o) k e

abbrev LiteralHere : Expr → List Lexeme → Type 0
LiteralHere e ts = (z : ℤ) × (expr.Lit z ≡ e) × IsNumber z ts (rest_of ts)

abbrev AttrHere : List ObjectId → Expr → List Lexeme → Type 0
AttrHere reads e ts = (k : ℕ) × (a : ℕ) × (expr.Attr k a ≡ e) × IsRef reads k a ts (rest_of ts)

leaf_by_is : (reads : List ObjectId) (t : Lexeme) (ts : List Lexeme) (e : Expr) (glued : Bool) (token : Token) → t.glued ≡ glued → t.token ≡ token → leaf_by reads (t ∷ ts) glued token ≡ Ok e → LiteralHere e (t ∷ ts) ⊎ AttrHere reads e (t ∷ ts)
leaf_by_is reads t ts e true (tokens.Number z) g k h = no_err _ e h
leaf_by_is reads t ts e false (tokens.Number z) g k h = inl (z, ok_is (expr.Lit z) e h, (k, g, refl))
leaf_by_is reads t ts e glued tokens.Wide g k h = no_err _ e h
leaf_by_is reads t ts e glued (tokens.Ref object attr) g k h =
    let s = bind_ok (slot_at reads object (t ∷ ts)) (λ slot. Ok (expr.Attr slot attr)) e h in
    inr (s.0, attr, ok_is (expr.Attr s.0 attr) e s.2, (object, slot_at_is reads object (t ∷ ts) s.0 s.1, k, refl))
leaf_by_is reads t ts e glued (tokens.Mark m) g k h = no_err _ e h
leaf_by_is reads t ts e glued (tokens.Bad cause) g k h = no_err _ e h

leaf_at_is : (reads : List ObjectId) (ts : List Lexeme) (e : Expr) → leaf_at reads ts ≡ Ok e → LiteralHere e ts ⊎ AttrHere reads e ts
unfolding leaf_at
leaf_at_is reads [] e h = no_err _ e h
leaf_at_is reads (t ∷ ts) e h = leaf_by_is reads t ts e t.glued t.token refl refl h

-- ---- expressions

-- what a reader finds has a form
abbrev pub Finds : {A : Type 0} → (ℕ → List Lexeme → Read A) → Form A → Type 0
Finds {A = A} read form = (nodes : ℕ) (ts : List Lexeme) (x : A × ℕ × List Lexeme) → read nodes ts ≡ Ok x → form x.0 (nodes, ts) (x.1, x.2)

pub nowhere_finds : {A : Type 0} (form : Form A) → Finds nowhere form
nowhere_finds form nodes ts x e = no_err (fault ts causes.TooDeep) x e

-- what `below` reads, and the sign behind it
pub closed_found : {A : Type 0} (below : ℕ → List Lexeme → Read A) (form : Form A) → Finds below form → (m : Mark) (nodes : ℕ) (ts : List Lexeme) (x : A × ℕ × List Lexeme) → closed_by below m nodes ts ≡ Ok x
    → (q : Place) × form x.0 (nodes, ts) q × IsMark m q (x.1, x.2)
unfolding closed_by
closed_found {A = A} below form found m nodes ts x e =
    let a = bind_ok (below nodes ts) (λ a. expect m a.2 >>= λ rest. Ok (a.0, a.1, rest)) x e in
    let r = bind_ok (expect m a.0.2) (λ rest. Ok (a.0.0, a.0.1, rest)) x a.2 in
    let c = expect_is m a.0.2 r.0 r.1 in
    let made : A × ℕ × List Lexeme = (a.0.0, a.0.1, r.0) in
    subst (λ (y : A × ℕ × List Lexeme). (q : Place) × form y.0 (nodes, ts) q × IsMark m q (y.1, y.2)) (ok_is made x r.2)
    ((a.0.1, a.0.2), found nodes ts a.0 a.1, (c.0, ap (λ (l : List Lexeme). (a.0.1, l)) c.1))

-- two parts, what joins them, and the sign behind them
pub bracketed_found : {O A B : Type 0} (joined : List Lexeme → Result O TextFault) (mark : O → Mark) → ((ts : List Lexeme) (o : O) → joined ts ≡ Ok o → front ts ≡ Some (mark o)) → (make : O → A → A → B) (opens closes : Mark)
    (below : ℕ → List Lexeme → Read A) (form : Form A) → Finds below form → (p : Place) (nodes : ℕ) (ts : List Lexeme) (x : B × ℕ × List Lexeme)
    → IsNode opens p (nodes, ts) → bracketed_by joined make closes below nodes ts ≡ Ok x → IsBracketed make mark opens closes form x.0 p (x.1, x.2)
unfolding bracketed_by
bracketed_found {B = B} joined mark joined_is make opens closes below form found p nodes ts x opened e =
    let a = bind_ok (below nodes ts) (λ a. joined a.2 >>= λ o. below a.1 (rest_of a.2) >>= λ b. expect closes b.2 >>= λ rest. Ok (make o a.0 b.0, b.1, rest)) x e in
    let o = bind_ok (joined a.0.2) (λ o. below a.0.1 (rest_of a.0.2) >>= λ b. expect closes b.2 >>= λ rest. Ok (make o a.0.0 b.0, b.1, rest)) x a.2 in
    let b = bind_ok (below a.0.1 (rest_of a.0.2)) (λ b. expect closes b.2 >>= λ rest. Ok (make o.0 a.0.0 b.0, b.1, rest)) x o.2 in
    let r = bind_ok (expect closes b.0.2) (λ rest. Ok (make o.0 a.0.0 b.0.0, b.0.1, rest)) x b.2 in
    let c = expect_is closes b.0.2 r.0 r.1 in
    let made : B × ℕ × List Lexeme = (make o.0 a.0.0 b.0.0, b.0.1, r.0) in
    subst (λ (y : B × ℕ × List Lexeme). IsBracketed make mark opens closes form y.0 p (y.1, y.2)) (ok_is made x r.2) (record {
      by = o.0;
      a = a.0.0;
      b = b.0.0;
      made = refl;
      inside = (nodes, ts);
      opened = opened;
      parts = record {
        one = (a.0.1, a.0.2);
        two = (a.0.1, rest_of a.0.2);
        three = (b.0.1, b.0.2);
        left = found nodes ts a.0 a.1;
        between = (joined_is a.0.2 o.0 o.1, refl);
        right = found a.0.1 (rest_of a.0.2) b.0 b.1;
        closed = (c.0, ap (λ (l : List Lexeme). (b.0.1, l)) c.1);
      };
    })

pair_found : (below : ℕ → List Lexeme → Read Expr) (form : Form Expr) → Finds below form → (p : Place) (nodes : ℕ) (ts : List Lexeme) (x : Expr × ℕ × List Lexeme)
    → IsNode marks.Open p (nodes, ts) → pair_by below nodes ts ≡ Ok x → IsPair form x.0 p (x.1, x.2)
unfolding pair_by
pair_found below form found p nodes ts x opened e = bracketed_found op_at op_mark op_at_is with_op marks.Open marks.Close below form found p nodes ts x opened e

-- a node whose start is a word or sign
pub node_is : (m : Mark) (depth nodes : ℕ) (ts : List Lexeme) (n : ℕ) → is_at m ts ≡ true → start depth nodes ts ≡ Ok n → (0 < depth) × IsNode m (nodes, ts) (n, rest_of ts)
node_is m depth nodes ts n h e =
    let s = start_is depth nodes ts n e in
    (s.0, (is_at_is m ts h, s.1, ap (λ (k : ℕ). (k, rest_of ts)) s.2))

abbrev ExprForms : List ObjectId → Form Expr → Expr → Place → Place → Type 0
ExprForms reads form e p q = IsPair form e p q ⊎ (IsLiteral e p q ⊎ IsAttr reads e p q)

leaf_found : (reads : List ObjectId) (form : Form Expr) (nodes : ℕ) (ts : List Lexeme) (e : Expr) (n : ℕ) → nodes < 64 → nodes + 1 ≡ n → LiteralHere e ts ⊎ AttrHere reads e ts → ExprForms reads form e (nodes, ts) (n, rest_of ts)
leaf_found reads form nodes ts e n few count (inl l) = inr (inl (record { number = l.0; made = l.1; few = few; count = count; here = l.2 }))
leaf_found reads form nodes ts e n few count (inr l) = inr (inr (record { slot = l.0; attr = l.1; made = l.2; few = few; count = count; here = l.3 }))

expr_by_found : (reads : List ObjectId) (below : ℕ → List Lexeme → Read Expr) (form : Form Expr) → Finds below form → (depth nodes : ℕ) (ts : List Lexeme) (x : Expr × ℕ × List Lexeme)
    → expr_by reads below depth nodes ts ≡ Ok x → (0 < depth) × ExprForms reads form x.0 (nodes, ts) (x.1, x.2)
unfolding expr_by
expr_by_found reads below form found depth nodes ts x e =
    elim (chosen (is_at marks.Open ts) (start depth nodes ts >>= λ n. pair_by below n (rest_of ts)) (leaf_at reads ts >>= λ leaf. start depth nodes ts >>= λ n. Ok (leaf, n, rest_of ts)) (Ok x) e) [
      | inl h ↦
          let s = bind_ok (start depth nodes ts) (λ n. pair_by below n (rest_of ts)) x h.1 in
          let k = node_is marks.Open depth nodes ts s.0 h.0 s.1 in
          (k.0, inl (pair_found below form found (nodes, ts) s.0 (rest_of ts) x k.1 s.2))
      | inr h ↦
          let l = bind_ok (leaf_at reads ts) (λ leaf. start depth nodes ts >>= λ n. Ok (leaf, n, rest_of ts)) x h.1 in
          let s = bind_ok (start depth nodes ts) (λ n. Ok (l.0, n, rest_of ts)) x l.2 in
          let k = start_is depth nodes ts s.0 s.1 in
          let made : Expr × ℕ × List Lexeme = (l.0, s.0, rest_of ts) in
          (k.0, subst (λ (y : Expr × ℕ × List Lexeme). ExprForms reads form y.0 (nodes, ts) (y.1, y.2)) (ok_is made x s.2) (leaf_found reads form nodes ts l.0 s.0 k.1 k.2 (leaf_at_is reads ts l.0 l.1)))
    ]

abbrev Never : {A : Type 0} → Form A
Never a p q = ⊥

pub expr_found : (reads : List ObjectId) (depth : ℕ) → Finds (expr_at reads depth) (IsExpr reads depth)
unfolding expr_at
expr_found reads zero nodes ts x e = let f = expr_by_found reads nowhere Never (nowhere_finds Never) 0 nodes ts x e in absurd (omega (arith, f.0))
expr_found reads (suc depth) nodes ts x e = (expr_by_found reads (expr_at reads depth) (IsExpr reads depth) (expr_found reads depth) (suc depth) nodes ts x e).1
