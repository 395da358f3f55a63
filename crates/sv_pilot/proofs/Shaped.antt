-- The test of a shape is what a world keeps.
use Rattle.std.proofs.Common.{◌≡◌, true, false, ◌&&◌, nat_le, sym, ◌∙◌}
use Rattle.std.proofs.lemmas.Bool.{and_parts, and_from, leb-true, le-leb}
use Rattle.sv_world.specs.declared.world.Shape.{Shape}
use Rattle.sv_world.specs.Limits.{most_objects, most_attrs}
use Rattle.sv_world.specs.Worlds.{IsGoodShape}
use Rattle.sv_pilot.specs.Shapes.{is_shape}

pub shape_is_good : (s : Shape) → is_shape s ≡ true → IsGoodShape s
shape_is_good s e =
    let f = and_parts (nat_le 1 s.objects && nat_le s.objects most_objects && nat_le 1 s.attrs) (nat_le s.attrs most_attrs) e in
    let g = and_parts (nat_le 1 s.objects && nat_le s.objects most_objects) (nat_le 1 s.attrs) f.0 in
    let h = and_parts (nat_le 1 s.objects) (nat_le s.objects most_objects) g.0 in
    record {
      some_objects = leb-true 1 s.objects h.0;
      few_objects = leb-true s.objects most_objects h.1;
      some_attrs = leb-true 1 s.attrs g.1;
      few_attrs = leb-true s.attrs most_attrs f.1;
    }

pub shape_is_bad : (s : Shape) → is_shape s ≡ false → IsGoodShape s → ⊥
shape_is_bad s e good =
    let all : is_shape s ≡ true =
    and_from (nat_le 1 s.objects && nat_le s.objects most_objects && nat_le 1 s.attrs) (nat_le s.attrs most_attrs)
    (and_from (nat_le 1 s.objects && nat_le s.objects most_objects) (nat_le 1 s.attrs)
    (and_from (nat_le 1 s.objects) (nat_le s.objects most_objects) (le-leb 1 s.objects good.some_objects) (le-leb s.objects most_objects good.few_objects)) (le-leb 1 s.attrs good.some_attrs))
    (le-leb s.attrs most_attrs good.few_attrs) in
    let clash : true ≡ false = sym all ∙ e in cc
