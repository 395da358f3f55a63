-- What the canonical text of a body is at each kind of node.
use Rattle.std.proofs.Common.{◌≡◌, ℕ, ℤ, List, ◌++◌, map, refl, ◌∙◌}
use Rattle.std.specs.Prelude.{codes}
use Rattle.std.specs.Fmt.{signed_decimal}
use Rattle.sv_world.specs.declared.world.ObjectId.{ObjectId}
use Rattle.sv_world.specs.declared.action.Expr.{Expr}
use Rattle.sv_world.specs.declared.action.Expr.TheVariants as expr
use Rattle.sv_world.specs.declared.action.Cond.{Cond}
use Rattle.sv_world.specs.declared.action.Cond.TheVariants as test
use Rattle.sv_world.specs.declared.action.Stmt.{Stmt}
use Rattle.sv_world.specs.declared.action.Stmt.TheVariants as stmt
use Rattle.sv_world.specs.declared.node.Operator.{Operator}
use Rattle.sv_world.specs.declared.node.Operator.TheVariants as ops
use Rattle.sv_world.specs.declared.node.Comparison.{Comparison}
use Rattle.sv_world.specs.declared.node.Comparison.TheVariants as comparisons
use Rattle.sv_world.specs.declared.node.Connective.{Connective}
use Rattle.sv_world.specs.declared.node.Connective.TheVariants as joints
use Rattle.sv_world.specs.Parts.{binary_by as with_op, compare_by as with_comparison, join_by as with_joint}
use Rattle.sv_world.proofs.Layers.{binary_layer, compare_layer, join_layer, lit_fold, attr_fold, binary_fold, compare_fold, join_fold, not_fold, set_fold, if_fold}
use Rattle.sv_text.specs.Canonical.{op_text, comparison_text, joint_text, ref_text, pair_text, test_text, expr_text_step, expr_text, cond_text_step, cond_text, set_text, block_text, else_text, stmt_text_step, stmt_text}

-- ---- expressions

text_layer : (reads : List ObjectId) (o : Operator) (x y : List ℕ) → expr_text_step reads (binary_layer o x y) ≡ pair_text x (op_text o) y
text_layer reads ops.Add x y = refl
text_layer reads ops.Sub x y = refl
text_layer reads ops.Mul x y = refl
text_layer reads ops.Div x y = refl
text_layer reads ops.Rem x y = refl
text_layer reads ops.Min x y = refl
text_layer reads ops.Max x y = refl

-- an expression of two parts
module _ (o : Operator) (a b : Expr) where
  pub pair_text_is : (reads : List ObjectId) → expr_text reads (with_op o a b) ≡ pair_text (expr_text reads a) (op_text o) (expr_text reads b)
  pair_text_is reads = binary_fold (List ℕ) (expr_text_step reads) o a b ∙ text_layer reads o (expr_text reads a) (expr_text reads b)

pub lit_text : (reads : List ObjectId) (z : ℤ) → expr_text reads (expr.Lit z) ≡ signed_decimal z
lit_text reads z = lit_fold (List ℕ) (expr_text_step reads) z

pub attr_text : (reads : List ObjectId) (slot attr : ℕ) → expr_text reads (expr.Attr slot attr) ≡ ref_text reads slot attr
attr_text reads slot attr = attr_fold (List ℕ) (expr_text_step reads) slot attr

-- ---- conditions

test_text_layer : (reads : List ObjectId) (o : Comparison) (a b : Expr) → cond_text_step reads (compare_layer o a b) ≡ test_text (expr_text reads a) (comparison_text o) (expr_text reads b)
test_text_layer reads comparisons.Eq a b = refl
test_text_layer reads comparisons.Lt a b = refl
test_text_layer reads comparisons.Le a b = refl

joint_text_layer : (reads : List ObjectId) (o : Connective) (x y : List ℕ) → cond_text_step reads (join_layer o x y) ≡ pair_text x (joint_text o) y
joint_text_layer reads joints.And x y = refl
joint_text_layer reads joints.Or x y = refl

-- a comparison
module _ (o : Comparison) (a b : Expr) where
  pub test_text_is : (reads : List ObjectId) → cond_text reads (with_comparison o a b) ≡ test_text (expr_text reads a) (comparison_text o) (expr_text reads b)
  test_text_is reads = compare_fold (List ℕ) (cond_text_step reads) o a b ∙ test_text_layer reads o a b

-- a condition of two parts
module _ (o : Connective) (a b : Cond) where
  pub joint_text_is : (reads : List ObjectId) → cond_text reads (with_joint o a b) ≡ pair_text (cond_text reads a) (joint_text o) (cond_text reads b)
  joint_text_is reads = join_fold (List ℕ) (cond_text_step reads) o a b ∙ joint_text_layer reads o (cond_text reads a) (cond_text reads b)

-- the contrary of a condition
module _ (a : Cond) where
  pub not_text : (reads : List ObjectId) → cond_text reads (test.Not a) ≡ codes "not " ++ cond_text reads a
  not_text reads = not_fold (List ℕ) (cond_text_step reads) a

-- ---- statements

module _ (slot attr : ℕ) (e : Expr) where
  pub set_text_is : (reads : List ObjectId) → stmt_text reads (stmt.Set slot attr e) ≡ set_text reads slot attr e
  set_text_is reads = set_fold (List ℕ) (stmt_text_step reads) slot attr e

module _ (c : Cond) (xs ys : List Stmt) where
  pub if_text : (reads : List ObjectId) → stmt_text reads (stmt.If c xs ys) ≡ codes "if " ++ cond_text reads c ++ codes " " ++ block_text (map (stmt_text reads) xs) ++ else_text (map (stmt_text reads) ys)
  if_text reads = if_fold (List ℕ) (stmt_text_step reads) c xs ys
