-- The canonical text of an action ends no line, and has no arrow.
use Rattle.std.proofs.Common.{◌≡◌, ℕ, zero, suc, ◌^◌, ◌<◌, Bool, true, false, ◌&&◌, cond, ℤ, pos, negsuc, int_le, List, [], ◌∷◌, ◌++◌, map, refl, sym, subst, ◌∙◌, arith, decimal}
use Rattle.std.specs.Prelude.{codes}
use Rattle.std.specs.Fmt.{signed_decimal}
use Rattle.std.specs.Char.{is_ascii_digit}
use Rattle.std.specs.List.{AllByRecursion}
use Rattle.std.proofs.lemmas.Bool.{and_parts, leb-true, ltb-true}
use Rattle.std.proofs.lemmas.Bool.Decides.{nat_tests}
use Rattle.sv_world.specs.declared.world.ObjectId.{ObjectId}
use Rattle.sv_world.specs.declared.action.Point.{Point}
use Rattle.sv_world.specs.declared.action.Action.{Action}
use Rattle.sv_world.specs.declared.action.Expr.{Expr}
use Rattle.sv_world.specs.declared.action.Expr.TheVariants as expr
use Rattle.sv_world.specs.declared.action.Cond.{Cond}
use Rattle.sv_world.specs.declared.action.Cond.TheVariants as test
use Rattle.sv_world.specs.declared.action.Stmt.{Stmt}
use Rattle.sv_world.specs.declared.action.Stmt.TheVariants as stmt
use Rattle.sv_world.specs.declared.node.Operator.{Operator}
use Rattle.sv_world.specs.declared.node.Operator.TheVariants as ops
use Rattle.sv_world.specs.declared.node.Comparison.{Comparison}
use Rattle.sv_world.specs.declared.node.Comparison.TheVariants as comparisons
use Rattle.sv_world.specs.declared.node.Connective.{Connective}
use Rattle.sv_world.specs.declared.node.Connective.TheVariants as joints
use Rattle.sv_world.specs.Faults.{is_in_plane, has_origin}
use Rattle.sv_world.specs.Parts.{binary_by, compare_by, join_by}
use Rattle.sv_world.specs.Ranges.{is_i64, is_byte, expr_fits, cond_fits, stmt_fits, body_fits, is_zero, ObjectFits}
use Rattle.sv_world.proofs.Ranged.{lit_fits, attr_fits, binary_fits, compare_fits, join_fits, not_fits, set_fits, if_fits}
use Rattle.sv_world.proofs.TreeInduction.{each_expr, each_cond, all_stmts}
use Rattle.sv_text.specs.Canonical.{object_in, ref_text, between, op_text, comparison_text, joint_text, expr_text, cond_text, spaced, block_text, else_text, stmt_text, object_text, spaced_objects, written, origin_text, body_text, canonical}
use Rattle.sv_text.specs.Printable.{IsPrintable}
use Rattle.sv_text.proofs.Layers.{pair_text_is, lit_text, attr_text, test_text_is, joint_text_is, not_text, set_text_is, if_text}
use Rattle.sv_text.proofs.StandingAction.{written_fits}
use Rattle.sv_lines.specs.Asking.{is_plain}
use Rattle.sv_lines.proofs.Splitting.{all_pass, pass_append, decimal_passes}

abbrev pub IsPlain : List ℕ → Type 0
IsPlain s = all_pass is_plain s ≡ true

plain_digit : (c : ℕ) → is_ascii_digit c ≡ true → is_plain c ≡ true
plain_digit c h = grind (arith, nat_tests)

pub plain_decimal : (n : ℕ) → n < 2 ^ 64 → IsPlain (decimal n)
plain_decimal n f = decimal_passes is_plain plain_digit n f

pub then_plain : (s t : List ℕ) → IsPlain s → IsPlain t → IsPlain (s ++ t)
then_plain s t f g = pass_append is_plain s t f g

pub plain_signed : (z : ℤ) → is_i64 z ≡ true → IsPlain (signed_decimal z)
plain_signed (pos n) f = plain_decimal n (omega (arith, leb-true n 9223372036854775807 f))
plain_signed (negsuc n) f =
    let low = (and_parts (int_le (negsuc 9223372036854775807) (negsuc n)) (int_le (negsuc n) (pos 9223372036854775807)) f).0 in
    then_plain (45 ∷ []) (decimal (suc n)) refl (plain_decimal (suc n) (omega (arith, leb-true n 9223372036854775807 low)))

plain_between : (before a middle b after : List ℕ) → IsPlain before → IsPlain a → IsPlain middle → IsPlain b → IsPlain after → IsPlain (between before a middle b after)
plain_between before a middle b after f g h i j =
    then_plain (before ++ a ++ middle ++ b) after (then_plain (before ++ a ++ middle) b (then_plain (before ++ a) middle (then_plain before a f g) h) i) j

-- ---- Expressions and conditions

op_plain : (o : Operator) → IsPlain (op_text o)
op_plain ops.Add = refl
op_plain ops.Sub = refl
op_plain ops.Mul = refl
op_plain ops.Div = refl
op_plain ops.Rem = refl
op_plain ops.Min = refl
op_plain ops.Max = refl

comparison_plain : (o : Comparison) → IsPlain (comparison_text o)
comparison_plain comparisons.Eq = refl
comparison_plain comparisons.Lt = refl
comparison_plain comparisons.Le = refl

joint_plain : (o : Connective) → IsPlain (joint_text o)
joint_plain joints.And = refl
joint_plain joints.Or = refl

module _ (reads : List ObjectId) (small : (slot : ℕ) → object_in reads slot < 65536) where
  ref_plain : (slot attr : ℕ) → attr < 256 → IsPlain (ref_text reads slot attr)
  ref_plain slot attr f =
      then_plain (codes "@" ++ decimal (object_in reads slot) ++ codes ".") (decimal attr)
      (then_plain (codes "@" ++ decimal (object_in reads slot)) (codes ".") (then_plain (codes "@") (decimal (object_in reads slot)) refl (plain_decimal (object_in reads slot) (omega (arith, small slot)))) refl)
      (plain_decimal attr (omega (arith, f)))

  abbrev ExprPlain : Expr → Type 0
  ExprPlain e = expr_fits e ≡ true → IsPlain (expr_text reads e)

  lit_plain : (z : ℤ) → ExprPlain (expr.Lit z)
  lit_plain z f = subst IsPlain (sym (lit_text reads z)) (plain_signed z (sym (lit_fits z) ∙ f))

  attr_plain : (slot attr : ℕ) → ExprPlain (expr.Attr slot attr)
  attr_plain slot attr f = subst IsPlain (sym (attr_text reads slot attr)) (ref_plain slot attr (ltb-true attr 256 (and_parts (is_byte slot) (is_byte attr) (sym (attr_fits slot attr) ∙ f)).1))

  pair_plain : (o : Operator) (a b : Expr) → ExprPlain a → ExprPlain b → ExprPlain (binary_by o a b)
  pair_plain o a b p q f =
      let fit = and_parts (expr_fits a) (expr_fits b) (sym (binary_fits o a b) ∙ f) in
      subst IsPlain (sym (pair_text_is o a b reads)) (plain_between (codes "(") (expr_text reads a) (op_text o) (expr_text reads b) (codes ")") refl (p fit.0) (op_plain o) (q fit.1) refl)

  expr_plain : (e : Expr) → ExprPlain e
  expr_plain = each_expr ExprPlain lit_plain attr_plain pair_plain

  abbrev CondPlain : Cond → Type 0
  CondPlain c = cond_fits c ≡ true → IsPlain (cond_text reads c)

  test_plain : (o : Comparison) (a b : Expr) → CondPlain (compare_by o a b)
  test_plain o a b f =
      let fit = and_parts (expr_fits a) (expr_fits b) (sym (compare_fits o a b) ∙ f) in
      subst IsPlain (sym (test_text_is o a b reads))
      (plain_between (codes "[") (expr_text reads a) (comparison_text o) (expr_text reads b) (codes "]") refl (expr_plain a fit.0) (comparison_plain o) (expr_plain b fit.1) refl)

  both_plain : (o : Connective) (a b : Cond) → CondPlain a → CondPlain b → CondPlain (join_by o a b)
  both_plain o a b p q f =
      let fit = and_parts (cond_fits a) (cond_fits b) (sym (join_fits o a b) ∙ f) in
      subst IsPlain (sym (joint_text_is o a b reads)) (plain_between (codes "(") (cond_text reads a) (joint_text o) (cond_text reads b) (codes ")") refl (p fit.0) (joint_plain o) (q fit.1) refl)

  not_plain : (a : Cond) → CondPlain a → CondPlain (test.Not a)
  not_plain a p f = subst IsPlain (sym (not_text a reads)) (then_plain (codes "not ") (cond_text reads a) refl (p (sym (not_fits a) ∙ f)))

  cond_plain : (c : Cond) → CondPlain c
  cond_plain = each_cond CondPlain test_plain both_plain not_plain

  -- ---- Statements

  abbrev StmtPlain : Stmt → Type 0
  StmtPlain s = stmt_fits s ≡ true → IsPlain (stmt_text reads s)

  abbrev texts : List Stmt → List (List ℕ)
  texts xs = map (stmt_text reads) xs

  list_plain : (xs : List Stmt) → AllByRecursion StmtPlain xs → body_fits xs ≡ true → IsPlain (spaced (texts xs))
  list_plain [] each f = refl
  list_plain (x ∷ xs) each f =
      let fit = and_parts (stmt_fits x) (body_fits xs) f in
      then_plain (32 ∷ stmt_text reads x) (spaced (texts xs)) (then_plain (32 ∷ []) (stmt_text reads x) refl (each.0 fit.0)) (list_plain xs each.1 fit.1)

  block_plain : (xs : List Stmt) → AllByRecursion StmtPlain xs → body_fits xs ≡ true → IsPlain (block_text (texts xs))
  block_plain xs each f = then_plain (codes "{" ++ spaced (texts xs)) (codes " }") (then_plain (codes "{") (spaced (texts xs)) refl (list_plain xs each f)) refl

  else_plain : (xs : List Stmt) → AllByRecursion StmtPlain xs → body_fits xs ≡ true → IsPlain (else_text (texts xs))
  else_plain [] each f = refl
  else_plain (x ∷ xs) each f = then_plain (codes " else ") (block_text (texts (x ∷ xs))) refl (block_plain (x ∷ xs) each f)

  set_plain : (slot attr : ℕ) (e : Expr) → StmtPlain (stmt.Set slot attr e)
  set_plain slot attr e f =
      let all = and_parts (is_byte slot) (is_byte attr && expr_fits e) (sym (set_fits slot attr e) ∙ f) in
      let fit = and_parts (is_byte attr) (expr_fits e) all.1 in
      let head = codes "set " ++ ref_text reads slot attr in
      subst IsPlain (sym (set_text_is slot attr e reads))
      (then_plain (head ++ codes " " ++ expr_text reads e) (codes ";")
      (then_plain (head ++ codes " ") (expr_text reads e) (then_plain head (codes " ") (then_plain (codes "set ") (ref_text reads slot attr) refl (ref_plain slot attr (ltb-true attr 256 fit.0))) refl) (expr_plain e fit.1))
      refl)

  if_plain : (c : Cond) (xs ys : List Stmt) → AllByRecursion StmtPlain xs → AllByRecursion StmtPlain ys → StmtPlain (stmt.If c xs ys)
  if_plain c xs ys p q f =
      let fit = and_parts (cond_fits c) (body_fits xs && body_fits ys) (sym (if_fits c xs ys) ∙ f) in
      let both = and_parts (body_fits xs) (body_fits ys) fit.1 in
      let head = codes "if " ++ cond_text reads c in
      subst IsPlain (sym (if_text c xs ys reads))
      (then_plain (head ++ codes " " ++ block_text (texts xs)) (else_text (texts ys))
      (then_plain (head ++ codes " ") (block_text (texts xs)) (then_plain head (codes " ") (then_plain (codes "if ") (cond_text reads c) refl (cond_plain c fit.0)) refl) (block_plain xs p both.0))
      (else_plain ys q both.1))

  all_plain : (xs : List Stmt) → AllByRecursion StmtPlain xs
  all_plain = all_stmts StmtPlain set_plain if_plain

  pub body_plain : (xs : List Stmt) → body_fits xs ≡ true → IsPlain (body_text reads xs)
  body_plain xs f = block_plain xs (all_plain xs) f

-- ---- Whole actions

pub object_small : (reads : List ObjectId) → AllByRecursion ObjectFits reads → (slot : ℕ) → object_in reads slot < 65536
object_small [] f slot = omega arith
object_small (r ∷ rs) f zero = f.0
object_small (r ∷ rs) f (suc slot) = object_small rs f.1 slot

pub plain_objects : (os : List ObjectId) → AllByRecursion ObjectFits os → IsPlain (spaced_objects os)
plain_objects [] f = refl
plain_objects (o ∷ os) f = then_plain (object_text o) (spaced_objects os) (then_plain (32 ∷ []) (decimal o.0) refl (plain_decimal o.0 (omega (arith, f.0)))) (plain_objects os f.1)

plane_long : (z : ℤ) → is_in_plane z ≡ true → IsPlain (signed_decimal z)
plane_long (pos n) f = plain_decimal n (omega (arith, leb-true n 1000000 f))
plane_long (negsuc n) f =
    let low = (and_parts (int_le (negsuc 999999) (negsuc n)) (int_le (negsuc n) (pos 1000000)) f).0 in
    then_plain (45 ∷ []) (decimal (suc n)) refl (plain_decimal (suc n) (omega (arith, leb-true n 999999 low)))

plain_origin : (p : Point) → is_in_plane p.x ≡ true → is_in_plane p.y ≡ true → IsPlain (origin_text p)
plain_origin p f g = go (is_zero p.x && is_zero p.y)
  where
    head : List ℕ
    head = codes " at " ++ signed_decimal p.x

    go : (b : Bool) → IsPlain (cond b [] (codes " at " ++ signed_decimal p.x ++ codes " " ++ signed_decimal p.y))
    go true = refl
    go false = then_plain (head ++ codes " ") (signed_decimal p.y) (then_plain head (codes " ") (then_plain (codes " at ") (signed_decimal p.x) refl (plane_long p.x f)) refl) (plane_long p.y g)

pub plain_action : (a : Action) → IsPrintable a → IsPlain (canonical a)
unfolding canonical has_origin
plain_action a p =
    let plane = and_parts (is_in_plane a.origin.x) (is_in_plane a.origin.y) p.within.origin in
    let one = codes "reads" ++ spaced_objects a.reads in
    let two = one ++ codes " writes" in
    let three = two ++ spaced_objects (written a.reads a.mask) in
    let four = three ++ origin_text a.origin in
    then_plain (four ++ codes " ") (body_text a.reads a.body)
    (then_plain four (codes " ")
    (then_plain three (origin_text a.origin)
    (then_plain two (spaced_objects (written a.reads a.mask))
    (then_plain one (codes " writes") (then_plain (codes "reads") (spaced_objects a.reads) refl (plain_objects a.reads p.objects)) refl)
    (plain_objects (written a.reads a.mask) (written_fits a.reads a.mask p.objects)))
    (plain_origin a.origin plane.0 plane.1))
    refl)
    (body_plain a.reads (object_small a.reads p.objects) a.body p.numbers)
