-- The rounds so far were appended.
use Rattle.std.proofs.Common.{◌≡◌, ◌+◌, ◌*◌}
use Rattle.std.specs.List.{flat_map}
use Rattle.sv_world.specs.Control.{below}
use Rattle.sv_gen.specs.Generated.{round_steps}
use Rattle.sv_gen.proofs.scripts.script.Given as goal

abbrev pub invariant-loop-round : goal.invariant-loop-round
invariant-loop-round l = l.steps.items ≡ flat_map (λ r. round_steps l.half (4 * (l.group + r))) (below l.round)
