-- The acts so far were appended.
use Rattle.std.proofs.Common.{◌≡◌, ◌++◌, map}
use Rattle.sv_world.specs.Control.{below}
use Rattle.sv_scenario.specs.declared.scenario.Step.TheVariants as steps
use Rattle.sv_gen.specs.Generated.{act}
use Rattle.sv_gen.proofs.scripts.put_round.Given as goal

abbrev pub invariant-loop-index : goal.invariant-loop-index
invariant-loop-index l = l.steps.items ≡ l.fn.steps.items ++ map (λ j. steps.Act (act l.half l.base j)) (below l.index)
