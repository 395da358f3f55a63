-- What is proved by hand of `read_action`.
use Rattle.std.proofs.Common.{subst}
use Rattle.std.specs.Prelude.{All}
use Rattle.std.proofs.lemmas.List.Elements.{recursion_from_All}
use Rattle.sv_world.specs.Ranges.{ObjectFits}
use Rattle.sv_wire.proofs.numbers.read_action.Goals as goal

pub returns : goal.returns
returns c = record {
  reads = recursion_from_All ObjectFits c.args.action.now.reads (subst (All ObjectFits) c.as_slice.ensures c.read_objects.ensures);
  mask = c.read_u16.ensures;
  x = c.read_point.ensures.x;
  y = c.read_point.ensures.y;
  body = c.read_numbers.ensures;
}
