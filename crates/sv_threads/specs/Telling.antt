-- What tells the changes of the clients' views.
use Rattle.std.specs.Prelude.{Bool}
use Rattle.sv_world.specs.declared.world.Shape.{Shape}

-- the worlds that it is for, and whether somebody watches: else it tells nothing
pub record Telling : Type 0 where
  pub shape : Shape
  pub watched : Bool
