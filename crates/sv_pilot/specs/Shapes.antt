-- Shapes that a world may have, as a test: `IsGoodShape` of `sv_world`.
use Rattle.std.specs.Prelude.{Bool, ◌&&◌, nat_le}
use Rattle.sv_world.specs.declared.world.Shape.{Shape}
use Rattle.sv_world.specs.Limits.{most_objects, most_attrs}

abbrev pub is_shape : Shape → Bool
is_shape shape = nat_le 1 shape.objects && nat_le shape.objects most_objects && nat_le 1 shape.attrs && nat_le shape.attrs most_attrs
