-- The statements of an act, by their operators.
use Rattle.std.specs.Prelude.{ℕ, pos}
use Rattle.sv_world.specs.declared.action.Expr.TheVariants as expr
use Rattle.sv_world.specs.declared.action.Stmt.{Stmt}
use Rattle.sv_world.specs.declared.action.Stmt.TheVariants as stmt
use Rattle.sv_world.specs.declared.node.Operator.{Operator}
use Rattle.sv_world.specs.Parts.{binary_by}

-- An attribute of the object in a slot is what an operator makes of it and a number.
abbrev pub change : ℕ → ℕ → Operator → ℕ → Stmt
change slot attr operator t = stmt.Set slot attr (binary_by operator (expr.Attr slot attr) (expr.Lit (pos t)))
