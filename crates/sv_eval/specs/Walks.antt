-- What an action's nodes make of the values that it reads.
use Rattle.std.specs.Prelude.{ℤ, int_lt, int_le, Bool, ◌&&◌, ◌||◌, Option, Some, None}
use Rattle.std.specs.Int.{int_min, int_max}
use Rattle.std.specs.Ordering.{int_eq}
use Rattle.sv_world.specs.declared.node.Operator.{Operator}
use Rattle.sv_world.specs.declared.node.Operator.TheVariants.{Add, Sub, Mul, Div, Rem, Min, Max}
use Rattle.sv_world.specs.declared.node.Comparison.{Comparison}
use Rattle.sv_world.specs.declared.node.Comparison.TheVariants.{Eq, Lt, Le}
use Rattle.sv_world.specs.declared.node.Connective.{Connective}
use Rattle.sv_world.specs.declared.node.Connective.TheVariants.{And, Or}
use Rattle.sv_world.specs.Parts.{Part, Expression, Condition, Statement, Block}
use Rattle.sv_eval.specs.Numbers.{sum_of, difference_of, product_of, quotient_of, remainder_of}
use Rattle.sv_eval.specs.Evaluation.{Slots, expr_number, cond_holds, stmt_after, body_after}

abbrev pub combined : Operator → ℤ → ℤ → Option ℤ
combined Add m n = sum_of m n
combined Sub m n = difference_of m n
combined Mul m n = product_of m n
combined Div m n = quotient_of m n
combined Rem m n = remainder_of m n
combined Min m n = Some (int_min m n)
combined Max m n = Some (int_max m n)

abbrev pub compared : Comparison → ℤ → ℤ → Bool
compared Eq m n = int_eq m n
compared Lt m n = int_lt m n
compared Le m n = int_le m n

abbrev pub connected : Connective → Bool → Bool → Bool
connected And p q = p && q
connected Or p q = p || q

-- The same as of a tree, and none where there is no tree.
abbrev pub part_number : Part → Slots → Option ℤ
part_number (Expression e) slots = expr_number e slots
part_number p slots = None

abbrev pub part_holds : Part → Slots → Option Bool
part_holds (Condition c) slots = cond_holds c slots
part_holds p slots = None

abbrev pub part_after : Part → Slots → Option Slots
part_after (Statement s) slots = stmt_after s slots
part_after p slots = None

abbrev pub block_after : Part → Slots → Option Slots
block_after (Block xs) slots = body_after xs slots
block_after p slots = None
