-- The loop invariant and the measure of `skip_syncs`.
use Rattle.std.proofs.Common.{◌≡◌, length}
use Rattle.sv_script.specs.Following.{after_syncs}
use Rattle.sv_script.proofs.going.skip_syncs.Given as goal

abbrev pub invariant-loop-step : goal.invariant-loop-step
invariant-loop-step l = after_syncs l.left ≡ after_syncs l.steps

abbrev pub decreases-loop-step : goal.decreases-loop-step
decreases-loop-step l = length l.left
