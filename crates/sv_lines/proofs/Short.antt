-- The canonical text of an action is short.
use Rattle.std.proofs.Common.{◌≡◌, ℕ, suc, ◌+◌, ◌*◌, ◌/◌, ◌%◌, ◌^◌, eqb, ◌<◌, ◌≤◌, Bool, true, false, ◌&&◌, cond, ℤ, pos, negsuc, int_le, List, [], ◌∷◌, ◌++◌, length, length-append, map, sym, subst, ap, ◌∙◌, arith, decimal}
use Rattle.std.specs.Prelude.{codes}
use Rattle.std.specs.Fmt.{signed_decimal}
use Rattle.std.specs.List.{AllByRecursion}
use Rattle.std.proofs.lemmas.Bool.{and_parts, leb-true, ltb-true}
use Rattle.std.proofs.lemmas.Fmt.{length-decimal-le}
use Rattle.std.proofs.lemmas.List.Sums.{sum_by-cons}
use Rattle.sv_world.specs.declared.world.ObjectId.{ObjectId}
use Rattle.sv_world.specs.declared.action.Point.{Point}
use Rattle.sv_world.specs.declared.action.Action.{Action}
use Rattle.sv_world.specs.declared.action.Expr.{Expr}
use Rattle.sv_world.specs.declared.action.Expr.TheVariants as expr
use Rattle.sv_world.specs.declared.action.Cond.{Cond}
use Rattle.sv_world.specs.declared.action.Cond.TheVariants as test
use Rattle.sv_world.specs.declared.action.Stmt.{Stmt}
use Rattle.sv_world.specs.declared.action.Stmt.TheVariants as stmt
use Rattle.sv_world.specs.declared.node.Operator.{Operator}
use Rattle.sv_world.specs.declared.node.Operator.TheVariants as ops
use Rattle.sv_world.specs.declared.node.Comparison.{Comparison}
use Rattle.sv_world.specs.declared.node.Comparison.TheVariants as comparisons
use Rattle.sv_world.specs.declared.node.Connective.{Connective}
use Rattle.sv_world.specs.declared.node.Connective.TheVariants as joints
use Rattle.sv_world.specs.Faults.{is_in_plane, has_origin}
use Rattle.sv_world.specs.Parts.{binary_by, compare_by, join_by}
use Rattle.sv_world.specs.Ranges.{is_i64, is_byte, expr_fits, cond_fits, stmt_fits, body_fits, is_zero, ObjectFits}
use Rattle.sv_world.specs.Trees.{expr_nodes, cond_nodes, stmt_nodes, body_nodes}
use Rattle.sv_world.proofs.Ranged.{lit_fits, attr_fits, binary_fits, compare_fits, join_fits, not_fits, set_fits, if_fits}
use Rattle.sv_world.proofs.TreeInduction.{each_expr, each_cond, all_stmts}
use Rattle.sv_world.proofs.TreeMeasures.{pair_nodes, lit_nodes, attr_nodes, test_nodes, joint_nodes, not_nodes, set_nodes, if_nodes}
use Rattle.sv_text.specs.Canonical.{object_in, ref_text, between, op_text, comparison_text, joint_text, expr_text, cond_text, spaced, block_part, block_text, else_text, stmt_text, object_text, spaced_objects, written, origin_text, body_text, canonical}
use Rattle.sv_text.specs.Printable.{IsPrintable}
use Rattle.sv_text.proofs.Layers.{pair_text_is, lit_text, attr_text, test_text_is, joint_text_is, not_text, set_text_is, if_text}
use Rattle.sv_text.proofs.StandingAction.{written_fits}
use Rattle.sv_lines.proofs.Plain.{object_small}

number_short : (n : ℕ) → n < 2 ^ 64 → length (decimal n) ≤ 20
number_short n f = length-decimal-le 20 n (omega arith) (omega (arith, f)) f

signed_short : (z : ℤ) → is_i64 z ≡ true → length (signed_decimal z) ≤ 21
signed_short (pos n) f = omega (arith, number_short n (omega (arith, leb-true n 9223372036854775807 f)))
signed_short (negsuc n) f =
    let low = (and_parts (int_le (negsuc 9223372036854775807) (negsuc n)) (int_le (negsuc n) (pos 9223372036854775807)) f).0 in
    omega (arith, number_short (suc n) (omega (arith, leb-true n 9223372036854775807 low)))

-- The length of five texts in a row.
five : (a b c d e : List ℕ) → length (a ++ b ++ c ++ d ++ e) ≡ length a + length b + length c + length d + length e
five a b c d e = omega (arith, length-append (a ++ b ++ c ++ d) e, length-append (a ++ b ++ c) d, length-append (a ++ b) c, length-append a b)

one_more : (s r : List ℕ) (m n : ℕ) → 1 + length s ≤ 60 * m → length r ≤ 60 * n → length (32 ∷ (s ++ r)) ≤ 60 * (m + n)
one_more s r m n f g = omega (arith, f, g, length-append s r)

in_braces : (r : List ℕ) (n : ℕ) → length r ≤ 60 * n → length (block_part r) ≤ 3 + 60 * n
in_braces r n f = omega (arith, f, length-append r (codes " }"))

-- ---- Expressions and conditions

op_short : (o : Operator) → length (op_text o) ≤ 5
op_short ops.Add = omega arith
op_short ops.Sub = omega arith
op_short ops.Mul = omega arith
op_short ops.Div = omega arith
op_short ops.Rem = omega arith
op_short ops.Min = omega arith
op_short ops.Max = omega arith

comparison_short : (o : Comparison) → length (comparison_text o) ≤ 5
comparison_short comparisons.Eq = omega arith
comparison_short comparisons.Lt = omega arith
comparison_short comparisons.Le = omega arith

joint_short : (o : Connective) → length (joint_text o) ≤ 5
joint_short joints.And = omega arith
joint_short joints.Or = omega arith

pair_short : (open' a middle b close' : List ℕ) (nodes m n : ℕ) → nodes ≡ 1 + m + n → length open' ≤ 1 → length close' ≤ 1 → length middle ≤ 5 → length a ≤ 60 * m → length b ≤ 60 * n →
    length (between open' a middle b close') ≤ 60 * nodes
pair_short open' a middle b close' nodes m n e f g h i j = omega (arith, five open' a middle b close', e, f, g, h, i, j)

module _ (reads : List ObjectId) (small : (slot : ℕ) → object_in reads slot < 65536) where
  ref_short : (slot attr : ℕ) → attr < 256 → length (ref_text reads slot attr) ≤ 42
  ref_short slot attr f =
      let o = decimal (object_in reads slot) in
      omega (
        arith,
        number_short (object_in reads slot) (omega (arith, small slot)),
        number_short attr (omega (arith, f)),
        length-append (codes "@" ++ o ++ codes ".") (decimal attr),
        length-append (codes "@" ++ o) (codes "."),
        length-append (codes "@") o,
      )

  abbrev ExprShort : Expr → Type 0
  ExprShort e = expr_fits e ≡ true → length (expr_text reads e) ≤ 60 * expr_nodes e

  lit_short : (z : ℤ) → ExprShort (expr.Lit z)
  lit_short z f = omega (arith, ap length (lit_text reads z), lit_nodes z, signed_short z (sym (lit_fits z) ∙ f))

  attr_short : (slot attr : ℕ) → ExprShort (expr.Attr slot attr)
  attr_short slot attr f =
      omega (arith, ap length (attr_text reads slot attr), attr_nodes slot attr, ref_short slot attr (ltb-true attr 256 (and_parts (is_byte slot) (is_byte attr) (sym (attr_fits slot attr) ∙ f)).1))

  binary_short : (o : Operator) (a b : Expr) → ExprShort a → ExprShort b → ExprShort (binary_by o a b)
  binary_short o a b p q f =
      let fit = and_parts (expr_fits a) (expr_fits b) (sym (binary_fits o a b) ∙ f) in
      subst (λ (t : List ℕ). length t ≤ 60 * expr_nodes (binary_by o a b)) (sym (pair_text_is o a b reads))
      (pair_short (codes "(") (expr_text reads a) (op_text o) (expr_text reads b) (codes ")") (expr_nodes (binary_by o a b)) (expr_nodes a) (expr_nodes b) (pair_nodes o a b) (omega arith) (omega arith) (op_short o) (p fit.0) (q fit.1))

  expr_short : (e : Expr) → ExprShort e
  expr_short = each_expr ExprShort lit_short attr_short binary_short

  abbrev CondShort : Cond → Type 0
  CondShort c = cond_fits c ≡ true → length (cond_text reads c) ≤ 60 * cond_nodes c

  compare_short : (o : Comparison) (a b : Expr) → CondShort (compare_by o a b)
  compare_short o a b f =
      let fit = and_parts (expr_fits a) (expr_fits b) (sym (compare_fits o a b) ∙ f) in
      subst (λ (t : List ℕ). length t ≤ 60 * cond_nodes (compare_by o a b)) (sym (test_text_is o a b reads))
      (pair_short (codes "[") (expr_text reads a) (comparison_text o) (expr_text reads b) (codes "]") (cond_nodes (compare_by o a b)) (expr_nodes a) (expr_nodes b) (test_nodes o a b) (omega arith) (omega arith) (comparison_short o) (expr_short a fit.0) (expr_short b fit.1))

  both_short : (o : Connective) (a b : Cond) → CondShort a → CondShort b → CondShort (join_by o a b)
  both_short o a b p q f =
      let fit = and_parts (cond_fits a) (cond_fits b) (sym (join_fits o a b) ∙ f) in
      subst (λ (t : List ℕ). length t ≤ 60 * cond_nodes (join_by o a b)) (sym (joint_text_is o a b reads))
      (pair_short (codes "(") (cond_text reads a) (joint_text o) (cond_text reads b) (codes ")") (cond_nodes (join_by o a b)) (cond_nodes a) (cond_nodes b) (joint_nodes o a b) (omega arith) (omega arith) (joint_short o) (p fit.0) (q fit.1))

  not_short : (a : Cond) → CondShort a → CondShort (test.Not a)
  not_short a p f = omega (arith, ap length (not_text a reads), length-append (codes "not ") (cond_text reads a), not_nodes a, p (sym (not_fits a) ∙ f))

  cond_short : (c : Cond) → CondShort c
  cond_short = each_cond CondShort compare_short both_short not_short

  -- ---- Statements, each with the space before it

  abbrev StmtShort : Stmt → Type 0
  StmtShort s = stmt_fits s ≡ true → 1 + length (stmt_text reads s) ≤ 60 * stmt_nodes s

  abbrev texts : List Stmt → List (List ℕ)
  texts xs = map (stmt_text reads) xs

  run_short : (xs : List Stmt) → AllByRecursion StmtShort xs → body_fits xs ≡ true → length (spaced (texts xs)) ≤ 60 * body_nodes xs
  run_short [] each f = omega arith
  run_short (x ∷ xs) each f =
      let fit = and_parts (stmt_fits x) (body_fits xs) f in
      let count : body_nodes (x ∷ xs) ≡ stmt_nodes x + body_nodes xs = sum_by-cons (λ (n : ℕ). n) (stmt_nodes x) (map stmt_nodes xs) in
      subst (λ (k : ℕ). length (spaced (texts (x ∷ xs))) ≤ 60 * k) (sym count)
      (one_more (stmt_text reads x) (spaced (texts xs)) (stmt_nodes x) (body_nodes xs) (each.0 fit.0) (run_short xs each.1 fit.1))

  block_short : (xs : List Stmt) → AllByRecursion StmtShort xs → body_fits xs ≡ true → length (block_text (texts xs)) ≤ 3 + 60 * body_nodes xs
  block_short xs each f = in_braces (spaced (texts xs)) (body_nodes xs) (run_short xs each f)

  else_short : (xs : List Stmt) → AllByRecursion StmtShort xs → body_fits xs ≡ true → length (else_text (texts xs)) ≤ 9 + 60 * body_nodes xs
  else_short [] each f = omega arith
  else_short (x ∷ xs) each f = omega (arith, block_short (x ∷ xs) each f, length-append (codes " else ") (block_text (texts (x ∷ xs))))

  set_short : (slot attr : ℕ) (e : Expr) → StmtShort (stmt.Set slot attr e)
  set_short slot attr e f =
      let all = and_parts (is_byte slot) (is_byte attr && expr_fits e) (sym (set_fits slot attr e) ∙ f) in
      let fit = and_parts (is_byte attr) (expr_fits e) all.1 in
      omega (
        arith,
        ap length (set_text_is slot attr e reads),
        five (codes "set ") (ref_text reads slot attr) (codes " ") (expr_text reads e) (codes ";"),
        ref_short slot attr (ltb-true attr 256 fit.0),
        expr_short e fit.1,
        set_nodes slot attr e,
      )

  if_short : (c : Cond) (xs ys : List Stmt) → AllByRecursion StmtShort xs → AllByRecursion StmtShort ys → StmtShort (stmt.If c xs ys)
  if_short c xs ys p q f =
      let fit = and_parts (cond_fits c) (body_fits xs && body_fits ys) (sym (if_fits c xs ys) ∙ f) in
      let both = and_parts (body_fits xs) (body_fits ys) fit.1 in
      omega (
        arith,
        ap length (if_text c xs ys reads),
        five (codes "if ") (cond_text reads c) (codes " ") (block_text (texts xs)) (else_text (texts ys)),
        cond_short c fit.0,
        block_short xs p both.0,
        else_short ys q both.1,
        if_nodes c xs ys,
      )

  all_short : (xs : List Stmt) → AllByRecursion StmtShort xs
  all_short = all_stmts StmtShort set_short if_short

-- ---- Whole actions

objects_short : (os : List ObjectId) → AllByRecursion ObjectFits os → length (spaced_objects os) ≤ 21 * length os
objects_short [] f = omega arith
objects_short (o ∷ os) f = omega (arith, number_short o.0 (omega (arith, f.0)), objects_short os f.1, length-append (object_text o) (spaced_objects os))

written_few : (reads : List ObjectId) (mask : ℕ) → length (written reads mask) ≤ length reads
written_few [] mask = omega arith
written_few (r ∷ rs) mask = go (eqb (mask % 2) 1) (written_few rs (mask / 2))
  where
    go : (b : Bool) → length (written rs (mask / 2)) ≤ length rs → length (cond b (r ∷ written rs (mask / 2)) (written rs (mask / 2))) ≤ length (r ∷ rs)
    go true few = omega (arith, few)
    go false few = omega (arith, few)

plane_short : (z : ℤ) → is_in_plane z ≡ true → length (signed_decimal z) ≤ 21
plane_short (pos n) f = omega (arith, number_short n (omega (arith, leb-true n 1000000 f)))
plane_short (negsuc n) f =
    let low = (and_parts (int_le (negsuc 999999) (negsuc n)) (int_le (negsuc n) (pos 1000000)) f).0 in
    omega (arith, number_short (suc n) (omega (arith, leb-true n 999999 low)))

origin_short : (p : Point) → is_in_plane p.x ≡ true → is_in_plane p.y ≡ true → length (origin_text p) ≤ 47
origin_short p f g = go (is_zero p.x && is_zero p.y)
  where
    x : List ℕ
    x = signed_decimal p.x

    y : List ℕ
    y = signed_decimal p.y

    go : (b : Bool) → length (cond b [] (codes " at " ++ x ++ codes " " ++ y)) ≤ 47
    go true = omega arith
    go false = omega (arith, plane_short p.x f, plane_short p.y g, length-append (codes " at " ++ x ++ codes " ") y, length-append (codes " at " ++ x) (codes " "), length-append (codes " at ") x)

pub short_action : (a : Action) → IsPrintable a → length (canonical a) < 2 ^ 32
unfolding canonical has_origin
short_action a p =
    let plane = and_parts (is_in_plane a.origin.x) (is_in_plane a.origin.y) p.within.origin in
    let one = codes "reads" ++ spaced_objects a.reads in
    let two = one ++ codes " writes" in
    let three = two ++ spaced_objects (written a.reads a.mask) in
    let four = three ++ origin_text a.origin in
    omega (
      arith,
      length-append (four ++ codes " ") (body_text a.reads a.body),
      length-append four (codes " "),
      length-append three (origin_text a.origin),
      length-append two (spaced_objects (written a.reads a.mask)),
      length-append one (codes " writes"),
      length-append (codes "reads") (spaced_objects a.reads),
      objects_short a.reads p.objects,
      objects_short (written a.reads a.mask) (written_fits a.reads a.mask p.objects),
      written_few a.reads a.mask,
      origin_short a.origin plane.0 plane.1,
      block_short a.reads (object_small a.reads p.objects) a.body (all_short a.reads (object_small a.reads p.objects) a.body) p.numbers,
      p.within.few_reads,
      p.within.few_nodes,
    )
