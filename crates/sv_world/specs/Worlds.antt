-- What a world keeps.
use Rattle.std.specs.Prelude.{◌≡◌, ◌≤◌, List, length, ℤ, All}
use Rattle.sv_world.specs.declared.world.Shape.{Shape}
use Rattle.sv_world.specs.declared.world.World.{World}
use Rattle.sv_world.specs.Limits.{most_objects, most_attrs}

-- A shape within the limits.
pub record IsGoodShape (shape : Shape) : Type 0 where
  pub some_objects : 1 ≤ shape.objects
  pub few_objects : shape.objects ≤ most_objects
  pub some_attrs : 1 ≤ shape.attrs
  pub few_attrs : shape.attrs ≤ most_attrs

-- Each of the values has a number for each attribute.
abbrev pub HaveAttrs : Shape → List (List ℤ) → Type 0
HaveAttrs shape values = All (λ value. length value ≡ shape.attrs) values

-- A world within the limits, with one value for each object.
pub record IsGoodWorld (world : World) : Type 0 where
  pub shape : IsGoodShape world.shape
  pub objects : length world.values ≡ world.shape.objects
  pub attrs : HaveAttrs world.shape world.values
