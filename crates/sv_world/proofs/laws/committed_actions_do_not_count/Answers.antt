-- Blanks in place of the committed actions change nothing.
use Rattle.std.proofs.Common.{◌++◌, replicate, drop, length, refl, ap}
use Rattle.sv_world.specs.Control.{blank}
use Rattle.sv_world.proofs.Writers.{action_at-above}
use Rattle.sv_world.proofs.Needs.{needed-agree}
use Rattle.sv_world.proofs.Bases.{head_for-agree}
use Rattle.sv_world.proofs.Influences.{influence-above, influence_distance-above}
use Rattle.sv_world.proofs.laws.committed_actions_do_not_count.Goals as goal

pub returns-clause-needed : goal.returns-clause-needed
returns-clause-needed c A d s i l = needed-agree (replicate d blank ++ drop d A) A d s s i l (λ k low high. action_at-above A d k low) (λ j low. refl)

pub returns-clause-head : goal.returns-clause-head
returns-clause-head c objects A d s g i l =
    head_for-agree objects (replicate d blank ++ drop d A) A d s s g i l (λ k low high. action_at-above A d k low) (λ j low. refl)

pub returns-clause-influence : goal.returns-clause-influence
returns-clause-influence c = influence-above

pub returns-clause-chain : goal.returns-clause-chain
returns-clause-chain c A d a l = ap length (influence-above A d a l)

pub returns-clause-far : goal.returns-clause-far
returns-clause-far c = influence_distance-above
