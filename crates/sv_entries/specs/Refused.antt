-- Actions that are refused, one for each cause.
use Rattle.std.specs.Prelude.{ℕ, zero, suc, ℤ, pos, List, [], ◌∷◌}
use Rattle.sv_world.specs.declared.world.ObjectId.{ObjectId}
use Rattle.sv_world.specs.declared.action.Action.{Action}
use Rattle.sv_world.specs.declared.action.Expr.{Expr}
use Rattle.sv_world.specs.declared.action.Expr.TheVariants as expr
use Rattle.sv_world.specs.declared.action.Stmt.{Stmt}
use Rattle.sv_world.specs.declared.action.Stmt.TheVariants as stmt

-- A sum of zeros, nested so deep.
abbrev pub zeros : ℕ → Expr
zeros zero = expr.Lit (pos 0)
zeros (suc n) = expr.Add (zeros n) (expr.Lit (pos 0))

-- Sets an attribute of the object in a slot to such a sum.
abbrev pub setting : ℕ → ℕ → ℕ → List Stmt
setting slot attr levels = stmt.Set slot attr (zeros levels) ∷ []

-- An action of one statement.
abbrev pub single : List ObjectId → ℕ → ℤ → ℕ → ℕ → ℕ → Action
single reads mask x slot attr levels = record {
  reads = reads;
  mask = mask;
  origin = record { x = x; y = pos 0 };
  body = setting slot attr levels;
}
