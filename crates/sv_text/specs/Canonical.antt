-- The one canonical text of each action.
use Rattle.std.specs.Prelude.{ℕ, zero, suc, ◌/◌, ◌%◌, cond, ◌&&◌, ◌==◌, List, [], ◌∷◌, ◌++◌, map, codes, decimal}
use Rattle.std.specs.Fmt.{signed_decimal}
use Rattle.std.specs.List.{flat_map}
use Rattle.sv_world.specs.declared.world.ObjectId.{ObjectId}
use Rattle.sv_world.specs.declared.action.Point.{Point}
use Rattle.sv_world.specs.declared.action.Action.{Action}
use Rattle.sv_world.specs.declared.action.Expr.{Expr}
use Rattle.sv_world.specs.declared.action.Expr.TheOpen.{Expr-F}
use Rattle.sv_world.specs.declared.action.Expr.TheFolds.{fold-Expr}
use Rattle.sv_world.specs.declared.action.Cond.{Cond}
use Rattle.sv_world.specs.declared.action.Cond.TheOpen.{Cond-F}
use Rattle.sv_world.specs.declared.action.Cond.TheFolds.{fold-Cond}
use Rattle.sv_world.specs.declared.action.Stmt.{Stmt}
use Rattle.sv_world.specs.declared.action.Stmt.TheOpen.{Stmt-F}
use Rattle.sv_world.specs.declared.action.Stmt.TheFolds.{fold-Stmt}
use Rattle.sv_world.specs.declared.node.Operator.{Operator}
use Rattle.sv_world.specs.declared.node.Operator.TheVariants as ops
use Rattle.sv_world.specs.declared.node.Comparison.{Comparison}
use Rattle.sv_world.specs.declared.node.Comparison.TheVariants as comparisons
use Rattle.sv_world.specs.declared.node.Connective.{Connective}
use Rattle.sv_world.specs.declared.node.Connective.TheVariants as joints
use Rattle.sv_world.specs.Parts.{Part, Expression, Condition, Statement, Block, Bad}
use Rattle.sv_world.specs.Ranges.{is_zero}

-- the object in a slot, and 0 where the slot is none
abbrev pub object_in : List ObjectId → ℕ → ℕ
object_in [] k = 0
object_in (r ∷ rs) zero = r.0
object_in (r ∷ rs) (suc k) = object_in rs k

abbrev pub ref_text : List ObjectId → ℕ → ℕ → List ℕ
ref_text reads slot attr = codes "@" ++ decimal (object_in reads slot) ++ codes "." ++ decimal attr

abbrev pub between : List ℕ → List ℕ → List ℕ → List ℕ → List ℕ → List ℕ
between before a middle b after = before ++ a ++ middle ++ b ++ after

abbrev pub pair_text : List ℕ → List ℕ → List ℕ → List ℕ
pair_text a middle b = between (codes "(") a middle b (codes ")")

abbrev pub test_text : List ℕ → List ℕ → List ℕ → List ℕ
test_text a middle b = between (codes "[") a middle b (codes "]")

-- what stands between two parts
abbrev pub op_text : Operator → List ℕ
op_text ops.Add = codes " + "
op_text ops.Sub = codes " - "
op_text ops.Mul = codes " * "
op_text ops.Div = codes " / "
op_text ops.Rem = codes " % "
op_text ops.Min = codes " min "
op_text ops.Max = codes " max "

abbrev pub comparison_text : Comparison → List ℕ
comparison_text comparisons.Eq = codes " == "
comparison_text comparisons.Lt = codes " < "
comparison_text comparisons.Le = codes " <= "

abbrev pub joint_text : Connective → List ℕ
joint_text joints.And = codes " and "
joint_text joints.Or = codes " or "

-- a condition, a statement and a block by their parts' texts
abbrev pub not_part : List ℕ → List ℕ
not_part test = codes "not " ++ test

abbrev pub set_part : List ObjectId → ℕ → ℕ → List ℕ → List ℕ
set_part reads slot attr value = codes "set " ++ ref_text reads slot attr ++ codes " " ++ value ++ codes ";"

abbrev pub if_part : List ℕ → List ℕ → List ℕ → List ℕ
if_part test body other = codes "if " ++ test ++ codes " " ++ body ++ other

abbrev pub block_part : List ℕ → List ℕ
block_part run = codes "{" ++ run ++ codes " }"

-- a block behind the first of an `if`
abbrev pub other_part : List ℕ → List ℕ
other_part run = codes " else " ++ block_part run

abbrev pub expr_text_step : List ObjectId → Expr-F (List ℕ) → List ℕ
expr_text_step reads (Expr-F.Lit z) = signed_decimal z
expr_text_step reads (Expr-F.Attr slot attr) = ref_text reads slot attr
expr_text_step reads (Expr-F.Add a b) = pair_text a (op_text ops.Add) b
expr_text_step reads (Expr-F.Sub a b) = pair_text a (op_text ops.Sub) b
expr_text_step reads (Expr-F.Mul a b) = pair_text a (op_text ops.Mul) b
expr_text_step reads (Expr-F.Div a b) = pair_text a (op_text ops.Div) b
expr_text_step reads (Expr-F.Rem a b) = pair_text a (op_text ops.Rem) b
expr_text_step reads (Expr-F.Min a b) = pair_text a (op_text ops.Min) b
expr_text_step reads (Expr-F.Max a b) = pair_text a (op_text ops.Max) b

abbrev pub expr_text : List ObjectId → Expr → List ℕ
expr_text reads = fold-Expr (List ℕ) (expr_text_step reads)

abbrev pub cond_text_step : List ObjectId → Cond-F (List ℕ) → List ℕ
cond_text_step reads (Cond-F.Eq a b) = test_text (expr_text reads a) (comparison_text comparisons.Eq) (expr_text reads b)
cond_text_step reads (Cond-F.Lt a b) = test_text (expr_text reads a) (comparison_text comparisons.Lt) (expr_text reads b)
cond_text_step reads (Cond-F.Le a b) = test_text (expr_text reads a) (comparison_text comparisons.Le) (expr_text reads b)
cond_text_step reads (Cond-F.And a b) = pair_text a (joint_text joints.And) b
cond_text_step reads (Cond-F.Or a b) = pair_text a (joint_text joints.Or) b
cond_text_step reads (Cond-F.Not a) = not_part a

abbrev pub cond_text : List ObjectId → Cond → List ℕ
cond_text reads = fold-Cond (List ℕ) (cond_text_step reads)

-- the texts, each behind a space
abbrev pub spaced : List (List ℕ) → List ℕ
spaced texts = flat_map (λ text. 32 ∷ text) texts

-- the block of these statements; an empty one is `{ }`
abbrev pub block_text : List (List ℕ) → List ℕ
block_text stmts = block_part (spaced stmts)

-- An empty block has no `else`.
abbrev pub else_text : List (List ℕ) → List ℕ
else_text [] = []
else_text (s ∷ ss) = other_part (spaced (s ∷ ss))

abbrev pub set_text : List ObjectId → ℕ → ℕ → Expr → List ℕ
set_text reads slot attr e = set_part reads slot attr (expr_text reads e)

abbrev pub stmt_text_step : List ObjectId → Stmt-F (List ℕ) → List ℕ
stmt_text_step reads (Stmt-F.Set slot attr e) = set_text reads slot attr e
stmt_text_step reads (Stmt-F.If c a b) = if_part (cond_text reads c) (block_text a) (else_text b)

abbrev pub stmt_text : List ObjectId → Stmt → List ℕ
stmt_text reads = fold-Stmt (List ℕ) (stmt_text_step reads)

abbrev pub body_text : List ObjectId → List Stmt → List ℕ
body_text reads body = block_text (map (stmt_text reads) body)

-- the text of what some nodes spell
abbrev pub part_text : List ObjectId → Part → List ℕ
part_text reads (Expression e) = expr_text reads e
part_text reads (Condition c) = cond_text reads c
part_text reads (Statement s) = stmt_text reads s
part_text reads (Block xs) = body_text reads xs
part_text reads Bad = []

-- the text of a block behind the first of an `if`
abbrev pub else_part : List ObjectId → Part → List ℕ
else_part reads (Block xs) = else_text (map (stmt_text reads) xs)
else_part reads p = []

-- the statements' texts, each behind a space
abbrev pub run_text : List ObjectId → Part → List ℕ
run_text reads (Block xs) = spaced (map (stmt_text reads) xs)
run_text reads p = []

abbrev pub object_text : ObjectId → List ℕ
object_text o = 32 ∷ decimal o.0

abbrev pub spaced_objects : List ObjectId → List ℕ
spaced_objects os = flat_map object_text os

-- the objects at the slots of a mask's bits
abbrev pub written : List ObjectId → ℕ → List ObjectId
written [] mask = []
written (r ∷ rs) mask = cond (mask % 2 == 1) (r ∷ written rs (mask / 2)) (written rs (mask / 2))

-- It stands exactly where the origin is not (0, 0).
abbrev pub origin_text : Point → List ℕ
origin_text p = cond (is_zero p.x && is_zero p.y) [] (codes " at " ++ signed_decimal p.x ++ codes " " ++ signed_decimal p.y)

unfoldable pub canonical : Action → List ℕ
canonical a = codes "reads" ++ spaced_objects a.reads ++ codes " writes" ++ spaced_objects (written a.reads a.mask) ++ origin_text a.origin ++ codes " " ++ body_text a.reads a.body
