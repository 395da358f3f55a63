-- The canonical text of a tree stands for it: its tokens have the tree's form.
use Rattle.std.proofs.Common.{◌≡◌, ℕ, zero, suc, ◌+◌, ◌<◌, ◌≤◌, inl, inr, Bool, true, false, nat_lt, ℤ, List, [], ◌∷◌, ◌++◌, length, Some, refl, sym, ap, subst, ◌∙◌, arith, append_assoc, decimal}
use Rattle.std.specs.Fmt.{signed_decimal}
use Rattle.std.proofs.lemmas.Bool.{and_parts, ltb-true}
use Rattle.sv_world.specs.Trees.{expr_nodes, cond_nodes, expr_depth, cond_depth, expr_passes, cond_passes}
use Rattle.sv_world.specs.declared.world.ObjectId.{ObjectId}
use Rattle.sv_world.specs.declared.action.Expr.{Expr}
use Rattle.sv_world.specs.declared.action.Expr.TheVariants as expr
use Rattle.sv_world.specs.declared.action.Cond.{Cond}
use Rattle.sv_world.specs.declared.action.Cond.TheVariants as test
use Rattle.sv_world.specs.Parts.{binary_by as with_op, compare_by as with_comparison, join_by as with_joint}
use Rattle.sv_text.specs.declared.token.Mark.{Mark}
use Rattle.sv_text.specs.declared.token.Mark.TheVariants as marks
use Rattle.sv_text.specs.declared.token.Token.TheVariants as tokens
use Rattle.sv_text.specs.declared.token.Lexeme.{Lexeme}
use Rattle.sv_world.specs.declared.node.Operator.{Operator}
use Rattle.sv_world.specs.declared.node.Operator.TheVariants as ops
use Rattle.sv_world.specs.declared.node.Comparison.{Comparison}
use Rattle.sv_world.specs.declared.node.Comparison.TheVariants as comparisons
use Rattle.sv_world.specs.declared.node.Connective.{Connective}
use Rattle.sv_world.specs.declared.node.Connective.TheVariants as joints
use Rattle.sv_text.specs.Tokens.{is_word}
use Rattle.sv_text.specs.Reading.{front, rest_of, slot_from}
use Rattle.sv_text.specs.Grammar.{Place, Form, IsMark, IsNode, IsNumber, IsRef, op_mark, comparison_mark, joint_mark, IsExpr, IsCond}
use Rattle.sv_text.specs.Canonical.{object_in, ref_text, expr_text, cond_text, op_text, comparison_text, joint_text}
use Rattle.sv_world.specs.Ranges.{is_byte, expr_fits, cond_fits}
use Rattle.sv_text.proofs.Lexing.{blank_front}
use Rattle.sv_world.proofs.Ranged.{binary_fits as pair_fits, lit_fits, attr_fits, compare_fits as test_fits, join_fits as joint_fits, not_fits}
use Rattle.sv_world.proofs.TreeInduction.{each_expr, each_cond}
use Rattle.sv_world.proofs.TreeMeasures.{pair_nodes, pair_depth, pair_passes, lit_nodes, lit_depth, attr_nodes, attr_depth, attr_passes, test_nodes, test_depth, test_passes, joint_nodes, joint_depth, joint_passes, not_nodes, not_depth, not_passes}
use Rattle.sv_text.proofs.Layers.{pair_text_is, lit_text, attr_text, test_text_is, joint_text_is, not_text}
use Rattle.sv_text.proofs.Spelled.{toks, lexeme, Stops, spelled, spaced_stands, is_bracket, bracket_stands, number_stands, ref_bytes, ref_stands}

-- ---- one token

pub front_alone : (m : Mark) (place : ℕ) (ts : List Lexeme) → front (lexeme place false (tokens.Mark m) ∷ ts) ≡ Some m
unfolding front
front_alone m place ts = refl

pub front_sign : (m : Mark) (place : ℕ) (glued : Bool) (ts : List Lexeme) → is_word m ≡ false → front (lexeme place glued (tokens.Mark m) ∷ ts) ≡ Some m
unfolding front
front_sign m place true ts sign = rw sign refl
front_sign m place false ts sign = refl

pub mark_from : (m : Mark) (n : ℕ) (l ts : List Lexeme) (t : Lexeme) → l ≡ t ∷ ts → front (t ∷ ts) ≡ Some m → IsMark m (n, l) (n, ts)
mark_from m n l ts t e f = (ap front e ∙ f, ap (λ (k : List Lexeme). let q : Place = (n, rest_of k) in q) e)

pub node_from : (m : Mark) (n : ℕ) (l ts : List Lexeme) (t : Lexeme) → l ≡ t ∷ ts → front (t ∷ ts) ≡ Some m → n < 64 → IsNode m (n, l) (n + 1, ts)
node_from m n l ts t e f few = (ap front e ∙ f, few, ap (λ (k : List Lexeme). let q : Place = (n + 1, rest_of k) in q) e)

pub blank_at : (place : ℕ) (glued : Bool) (rest : List ℕ) → toks place glued (32 ∷ rest) ≡ toks (place + 1) false rest
blank_at place glued rest = blank_front place glued 32 rest refl

-- a word or sign between two spaces
pub between_stands : (m : Mark) → 0 < length (spelled m) → (n place : ℕ) (glued : Bool) (rest : List ℕ) → (next : ℕ) × IsMark m (n, toks place glued (32 ∷ (spelled m ++ (32 ∷ rest)))) (n, toks next false rest)
between_stands m some n place glued rest =
    let s = spaced_stands m some (place + 1) false rest in
    (s.0, mark_from m n (toks place glued (32 ∷ (spelled m ++ (32 ∷ rest)))) (toks s.0 false rest) (lexeme (place + 1) false (tokens.Mark m)) (blank_at place glued (spelled m ++ (32 ∷ rest)) ∙ s.1) (front_alone m (place + 1) (toks s.0 false rest)))

-- a word that starts a node, before a space
pub word_node : (m : Mark) → 0 < length (spelled m) → (n place : ℕ) (rest : List ℕ) → n < 64 → (next : ℕ) × IsNode m (n, toks place false (spelled m ++ (32 ∷ rest))) (n + 1, toks next false rest)
word_node m some n place rest few =
    let s = spaced_stands m some place false rest in
    (s.0, node_from m n (toks place false (spelled m ++ (32 ∷ rest))) (toks s.0 false rest) (lexeme place false (tokens.Mark m)) s.1 (front_alone m place (toks s.0 false rest)) few)

pub bracket_mark : (m : Mark) → is_bracket m ≡ true → is_word m ≡ false → (n place : ℕ) (glued : Bool) (rest : List ℕ) → IsMark m (n, toks place glued (spelled m ++ rest)) (n, toks (place + 1) false rest)
bracket_mark m is sign n place glued rest = mark_from m n (toks place glued (spelled m ++ rest)) (toks (place + 1) false rest) (lexeme place glued (tokens.Mark m)) (bracket_stands m is place glued rest) (front_sign m place glued (toks (place + 1) false rest) sign)

pub bracket_node : (m : Mark) → is_bracket m ≡ true → is_word m ≡ false → (n place : ℕ) (glued : Bool) (rest : List ℕ) → n < 64 → IsNode m (n, toks place glued (spelled m ++ rest)) (n + 1, toks (place + 1) false rest)
bracket_node m is sign n place glued rest few = node_from m n (toks place glued (spelled m ++ rest)) (toks (place + 1) false rest) (lexeme place glued (tokens.Mark m)) (bracket_stands m is place glued rest) (front_sign m place glued (toks (place + 1) false rest) sign) few

pub number_from : (z : ℤ) (place : ℕ) (l ts : List Lexeme) → l ≡ lexeme place false (tokens.Number z) ∷ ts → IsNumber z l ts
number_from z place l ts e = subst (λ (k : List Lexeme). IsNumber z k ts) (sym e) (refl, refl, refl)

-- the tokens may be written in two ways, and so may the number of nodes
pub along : {A : Type 0} (form : Form A) (x : A) (n m k place : ℕ) (glued : Bool) (s t : List ℕ) (ts : List Lexeme) → s ≡ t → m ≡ k → form x (n, toks place glued t) (m, ts) → form x (n, toks place glued s) (k, ts)
along form x n m k place glued s t ts e c h =
    subst (λ (j : ℕ). form x (n, toks place glued s) (j, ts)) c (subst (λ (l : List ℕ). form x (n, toks place glued l) (m, ts)) (sym e) h)

-- two parts in brackets, and what follows them
pub regroup : (a m b rest : List ℕ) (c : ℕ) → a ++ m ++ b ++ (c ∷ []) ++ rest ≡ a ++ (m ++ (b ++ (c ∷ rest)))
regroup a m b rest c = append_assoc (a ++ m ++ b) (c ∷ []) rest ∙ append_assoc (a ++ m) b (c ∷ rest) ∙ append_assoc a m (b ++ (c ∷ rest))

pub ref_text_is : (reads : List ObjectId) (slot attr : ℕ) → ref_text reads slot attr ≡ ref_bytes (object_in reads slot) attr
ref_text_is reads slot attr = ap (λ (l : List ℕ). 64 ∷ l) (append_assoc (decimal (object_in reads slot)) (46 ∷ []) (decimal attr))

-- ---- expressions

-- a slot that has a read
abbrev pub below : ℕ → ℕ → ℕ → Bool
below count slot attr = nat_lt slot count

-- each slot has an object of its own
abbrev pub HasSlots : List ObjectId → Type 0
HasSlots reads = (k : ℕ) → k < length reads → (object_in reads k < 65536) × (slot_from 0 reads (object_in reads k) ≡ Some k)

abbrev pub ExprStands : List ObjectId → Expr → Type 0
ExprStands reads e = (depth nodes place : ℕ) (rest : List ℕ) → expr_fits e ≡ true → expr_passes (below (length reads)) e ≡ true → expr_depth e ≤ depth → nodes + expr_nodes e ≤ 64 → Stops rest
    → (next : ℕ) × (glued : Bool) × IsExpr reads depth e (nodes, toks place false (expr_text reads e ++ rest)) (nodes + expr_nodes e, toks next glued rest)

op_spelled : (o : Operator) (rest : List ℕ) → op_text o ++ rest ≡ 32 ∷ (spelled (op_mark o) ++ (32 ∷ rest))
op_spelled ops.Add rest = refl
op_spelled ops.Sub rest = refl
op_spelled ops.Mul rest = refl
op_spelled ops.Div rest = refl
op_spelled ops.Rem rest = refl
op_spelled ops.Min rest = refl
op_spelled ops.Max rest = refl

op_some : (o : Operator) → 0 < length (spelled (op_mark o))
op_some ops.Add = omega arith
op_some ops.Sub = omega arith
op_some ops.Mul = omega arith
op_some ops.Div = omega arith
op_some ops.Rem = omega arith
op_some ops.Min = omega arith
op_some ops.Max = omega arith

-- a space is no digit
stops : (l rest : List ℕ) → l ≡ 32 ∷ rest → Stops l
stops l rest e = subst (λ (k : List ℕ). Stops k) (sym e) refl

-- a mark with spaces around it, by another name of its text
pub middle_stands : (m : Mark) → 0 < length (spelled m) → (t rest : List ℕ) → t ≡ 32 ∷ (spelled m ++ (32 ∷ rest)) → (n place : ℕ) (glued : Bool) → (next : ℕ) × IsMark m (n, toks place glued t) (n, toks next false rest)
middle_stands m some t rest e n place glued =
    let b = between_stands m some n place glued rest in
    (b.0, subst (λ (l : List ℕ). IsMark m (n, toks place glued l) (n, toks b.0 false rest)) (sym e) b.1)

module _ (reads : List ObjectId) (own : HasSlots reads) where
  lit_stands : (z : ℤ) → ExprStands reads (expr.Lit z)
  lit_stands z zero nodes place rest fits passes deep few stop = absurd (omega (arith, lit_depth z))
  lit_stands z (suc depth) nodes place rest fits passes deep few stop =
      let count = lit_nodes z in
      let t = signed_decimal z in
      let e = number_stands z rest (sym (lit_fits z) ∙ fits) stop place false in (
        place + length t,
        true,
        along (IsExpr reads (suc depth)) (expr.Lit z) nodes (nodes + 1) (nodes + expr_nodes (expr.Lit z)) place false (expr_text reads (expr.Lit z) ++ rest) (t ++ rest) (toks (place + length t) true rest)
            (ap (λ (l : List ℕ). l ++ rest) (lit_text reads z)) (omega arith)
            (inr (inl (record { number = z; made = refl; few = omega arith; count = refl; here = number_from z place (toks place false (t ++ rest)) (toks (place + length t) true rest) e }))),
      )

  attr_stands : (slot attr : ℕ) → ExprStands reads (expr.Attr slot attr)
  attr_stands slot attr zero nodes place rest fits passes deep few stop = absurd (omega (arith, attr_depth slot attr))
  attr_stands slot attr (suc depth) nodes place rest fits passes deep few stop =
      let count = attr_nodes slot attr in
      let low : slot < length reads = ltb-true slot (length reads) (sym (attr_passes (below (length reads)) slot attr) ∙ passes) in
      let byte : attr < 256 = ltb-true attr 256 (and_parts (is_byte slot) (is_byte attr) (sym (attr_fits slot attr) ∙ fits)).1 in
      let object = object_in reads slot in
      let t = ref_bytes object attr in
      let r = ref_stands object attr rest (own slot low).0 byte stop place false in (
        r.0,
        false,
        along (IsExpr reads (suc depth)) (expr.Attr slot attr) nodes (nodes + 1) (nodes + expr_nodes (expr.Attr slot attr)) place false (expr_text reads (expr.Attr slot attr) ++ rest) (t ++ rest) (toks r.0 false rest)
            (ap (λ (l : List ℕ). l ++ rest) (attr_text reads slot attr ∙ ref_text_is reads slot attr)) (omega arith)
            (inr (inr (record { slot = slot; attr = attr; made = refl; few = omega arith; count = refl; here = subst (λ (k : List Lexeme). IsRef reads slot attr k (toks r.0 false rest)) (sym r.1) (object, (own slot low).1, refl, refl) }))),
      )

  pair_stands : (o : Operator) (a b : Expr) → ExprStands reads a → ExprStands reads b → ExprStands reads (with_op o a b)
  pair_stands o a b p q zero nodes place rest fits passes deep few stop = absurd (omega (arith, pair_depth o a b))
  pair_stands o a b p q (suc depth) nodes place rest fits passes deep few stop =
      let count = pair_nodes o a b in
      let level = pair_depth o a b in
      let fit = and_parts (expr_fits a) (expr_fits b) (sym (pair_fits o a b) ∙ fits) in
      let pass = and_parts (expr_passes (below (length reads)) a) (expr_passes (below (length reads)) b) (sym (pair_passes o a b (below (length reads))) ∙ passes) in
      let ta = expr_text reads a in
      let tb = expr_text reads b in
      let behind = tb ++ (41 ∷ rest) in
      let middle = op_text o ++ behind in
      let n1 = nodes + 1 in
      let n2 = nodes + 1 + expr_nodes a in
      let n3 = nodes + 1 + expr_nodes a + expr_nodes b in
      let l = p depth n1 (place + 1) middle fit.0 pass.0 (omega arith) (omega arith) (stops middle (spelled (op_mark o) ++ (32 ∷ behind)) (op_spelled o behind)) in
      let m = middle_stands (op_mark o) (op_some o) middle behind (op_spelled o behind) n2 l.0 l.1 in
      let r = q depth n2 m.0 (41 ∷ rest) fit.1 pass.1 (omega arith) (omega arith) refl in
      let t = 40 ∷ (ta ++ middle) in (
        r.0 + 1,
        false,
        along (IsExpr reads (suc depth)) (with_op o a b) nodes n3 (nodes + expr_nodes (with_op o a b)) place false (expr_text reads (with_op o a b) ++ rest) t (toks (r.0 + 1) false rest)
            (ap (λ (l : List ℕ). l ++ rest) (pair_text_is o a b reads) ∙ ap (λ (l : List ℕ). 40 ∷ l) (regroup ta (op_text o) tb rest 41)) (omega arith)
            (inl (record {
              by = o;
              a = a;
              b = b;
              made = refl;
              inside = (n1, toks (place + 1) false (ta ++ middle));
              opened = bracket_node marks.Open refl refl nodes place false (ta ++ middle) (omega arith);
              parts = record {
                one = (n2, toks l.0 l.1 middle);
                two = (n2, toks m.0 false behind);
                three = (n3, toks r.0 r.1 (41 ∷ rest));
                left = l.2;
                between = m.1;
                right = r.2;
                closed = bracket_mark marks.Close refl refl n3 r.0 r.1 rest;
              };
            })),
      )

  pub expr_stands : (e : Expr) → ExprStands reads e
  expr_stands = each_expr (ExprStands reads) lit_stands attr_stands pair_stands

-- ---- conditions

comparison_spelled : (o : Comparison) (rest : List ℕ) → comparison_text o ++ rest ≡ 32 ∷ (spelled (comparison_mark o) ++ (32 ∷ rest))
comparison_spelled comparisons.Eq rest = refl
comparison_spelled comparisons.Lt rest = refl
comparison_spelled comparisons.Le rest = refl

comparison_some : (o : Comparison) → 0 < length (spelled (comparison_mark o))
comparison_some comparisons.Eq = omega arith
comparison_some comparisons.Lt = omega arith
comparison_some comparisons.Le = omega arith

joint_spelled : (o : Connective) (rest : List ℕ) → joint_text o ++ rest ≡ 32 ∷ (spelled (joint_mark o) ++ (32 ∷ rest))
joint_spelled joints.And rest = refl
joint_spelled joints.Or rest = refl

joint_some : (o : Connective) → 0 < length (spelled (joint_mark o))
joint_some joints.And = omega arith
joint_some joints.Or = omega arith

abbrev pub CondStands : List ObjectId → Cond → Type 0
CondStands reads c = (depth nodes place : ℕ) (rest : List ℕ) → cond_fits c ≡ true → cond_passes (below (length reads)) c ≡ true → cond_depth c ≤ depth → nodes + cond_nodes c ≤ 64
    → (next : ℕ) × IsCond reads depth c (nodes, toks place false (cond_text reads c ++ rest)) (nodes + cond_nodes c, toks next false rest)

module _ (reads : List ObjectId) (own : HasSlots reads) where
  test_stands : (o : Comparison) (a b : Expr) → CondStands reads (with_comparison o a b)
  test_stands o a b zero nodes place rest fits passes deep few = absurd (omega (arith, test_depth o a b))
  test_stands o a b (suc depth) nodes place rest fits passes deep few =
      let count = test_nodes o a b in
      let level = test_depth o a b in
      let fit = and_parts (expr_fits a) (expr_fits b) (sym (test_fits o a b) ∙ fits) in
      let pass = and_parts (expr_passes (below (length reads)) a) (expr_passes (below (length reads)) b) (sym (test_passes o a b (below (length reads))) ∙ passes) in
      let ta = expr_text reads a in
      let tb = expr_text reads b in
      let behind = tb ++ (93 ∷ rest) in
      let middle = comparison_text o ++ behind in
      let n1 = nodes + 1 in
      let n2 = nodes + 1 + expr_nodes a in
      let n3 = nodes + 1 + expr_nodes a + expr_nodes b in
      let l = expr_stands reads own a depth n1 (place + 1) middle fit.0 pass.0 (omega arith) (omega arith) (stops middle (spelled (comparison_mark o) ++ (32 ∷ behind)) (comparison_spelled o behind)) in
      let m = middle_stands (comparison_mark o) (comparison_some o) middle behind (comparison_spelled o behind) n2 l.0 l.1 in
      let r = expr_stands reads own b depth n2 m.0 (93 ∷ rest) fit.1 pass.1 (omega arith) (omega arith) refl in (
        r.0 + 1,
        along (IsCond reads (suc depth)) (with_comparison o a b) nodes n3 (nodes + cond_nodes (with_comparison o a b)) place false (cond_text reads (with_comparison o a b) ++ rest) (91 ∷ (ta ++ middle)) (toks (r.0 + 1) false rest)
            (ap (λ (t : List ℕ). t ++ rest) (test_text_is o a b reads) ∙ ap (λ (t : List ℕ). 91 ∷ t) (regroup ta (comparison_text o) tb rest 93)) (omega arith)
            (inl (record {
              by = o;
              a = a;
              b = b;
              made = refl;
              inside = (n1, toks (place + 1) false (ta ++ middle));
              opened = bracket_node marks.OpenTest refl refl nodes place false (ta ++ middle) (omega arith);
              parts = record {
                one = (n2, toks l.0 l.1 middle);
                two = (n2, toks m.0 false behind);
                three = (n3, toks r.0 r.1 (93 ∷ rest));
                left = l.2;
                between = m.1;
                right = r.2;
                closed = bracket_mark marks.CloseTest refl refl n3 r.0 r.1 rest;
              };
            })),
      )

  joint_stands : (o : Connective) (a b : Cond) → CondStands reads a → CondStands reads b → CondStands reads (with_joint o a b)
  joint_stands o a b p q zero nodes place rest fits passes deep few = absurd (omega (arith, joint_depth o a b))
  joint_stands o a b p q (suc depth) nodes place rest fits passes deep few =
      let count = joint_nodes o a b in
      let level = joint_depth o a b in
      let fit = and_parts (cond_fits a) (cond_fits b) (sym (joint_fits o a b) ∙ fits) in
      let pass = and_parts (cond_passes (below (length reads)) a) (cond_passes (below (length reads)) b) (sym (joint_passes o a b (below (length reads))) ∙ passes) in
      let ta = cond_text reads a in
      let tb = cond_text reads b in
      let behind = tb ++ (41 ∷ rest) in
      let middle = joint_text o ++ behind in
      let n1 = nodes + 1 in
      let n2 = nodes + 1 + cond_nodes a in
      let n3 = nodes + 1 + cond_nodes a + cond_nodes b in
      let l = p depth n1 (place + 1) middle fit.0 pass.0 (omega arith) (omega arith) in
      let m = middle_stands (joint_mark o) (joint_some o) middle behind (joint_spelled o behind) n2 l.0 false in
      let r = q depth n2 m.0 (41 ∷ rest) fit.1 pass.1 (omega arith) (omega arith) in (
        r.0 + 1,
        along (IsCond reads (suc depth)) (with_joint o a b) nodes n3 (nodes + cond_nodes (with_joint o a b)) place false (cond_text reads (with_joint o a b) ++ rest) (40 ∷ (ta ++ middle)) (toks (r.0 + 1) false rest)
            (ap (λ (t : List ℕ). t ++ rest) (joint_text_is o a b reads) ∙ ap (λ (t : List ℕ). 40 ∷ t) (regroup ta (joint_text o) tb rest 41)) (omega arith)
            (inr (inl (record {
              by = o;
              a = a;
              b = b;
              made = refl;
              inside = (n1, toks (place + 1) false (ta ++ middle));
              opened = bracket_node marks.Open refl refl nodes place false (ta ++ middle) (omega arith);
              parts = record {
                one = (n2, toks l.0 false middle);
                two = (n2, toks m.0 false behind);
                three = (n3, toks r.0 false (41 ∷ rest));
                left = l.1;
                between = m.1;
                right = r.1;
                closed = bracket_mark marks.Close refl refl n3 r.0 false rest;
              };
            }))),
      )

  not_stands : (a : Cond) → CondStands reads a → CondStands reads (test.Not a)
  not_stands a p zero nodes place rest fits passes deep few = absurd (omega (arith, not_depth a))
  not_stands a p (suc depth) nodes place rest fits passes deep few =
      let count = not_nodes a in
      let level = not_depth a in
      let inner = cond_text reads a ++ rest in
      let n1 = nodes + 1 in
      let n2 = nodes + 1 + cond_nodes a in
      let w = word_node marks.Not (omega arith) nodes place inner (omega arith) in
      let i = p depth n1 w.0 rest (sym (not_fits a) ∙ fits) (sym (not_passes a (below (length reads))) ∙ passes) (omega arith) (omega arith) in (
        i.0,
        along (IsCond reads (suc depth)) (test.Not a) nodes n2 (nodes + cond_nodes (test.Not a)) place false (cond_text reads (test.Not a) ++ rest) (spelled marks.Not ++ (32 ∷ inner)) (toks i.0 false rest)
            (ap (λ (t : List ℕ). t ++ rest) (not_text a reads)) (omega arith)
            (inr (inr (record {
              a = a;
              made = refl;
              inside = (n1, toks w.0 false inner);
              opened = w.1;
              part = i.1;
            }))),
      )

  pub cond_stands : (c : Cond) → CondStands reads c
  cond_stands = each_cond (CondStands reads) test_stands joint_stands not_stands
