-- Blanks in place of the committed actions change nothing of cuts.
use Rattle.std.proofs.Common.{◌++◌, ◌≡◌, length, drop, replicate, arith, refl}
use Rattle.sv_world.specs.Control.{blank}
use Rattle.sv_world.proofs.Writers.{action_at-above}
use Rattle.sv_world.proofs.Influences.{length-above}
use Rattle.sv_world.proofs.Growing.{see-agree, see_head-agree}
use Rattle.sv_world.proofs.Greatest.{cut-agree}
use Rattle.sv_world.proofs.cuts.committed_actions_do_not_count_to_see.Goals as goal

pub returns-clause-needed : goal.returns-clause-needed
returns-clause-needed c A d s xs n le l =
    let long : length (replicate d blank ++ drop d A) ≡ length A = length-above A d (omega arith) in
    see-agree (replicate d blank ++ drop d A) A d s s xs n le (omega arith) l (λ k low high. action_at-above A d k low) (λ j low. refl)

pub returns-clause-head : goal.returns-clause-head
returns-clause-head c objects A d s g xs n le l =
    let long : length (replicate d blank ++ drop d A) ≡ length A = length-above A d (omega arith) in
    see_head-agree objects (replicate d blank ++ drop d A) A d s s g xs n le (omega arith) l (λ k low high. action_at-above A d k low) (λ j low. refl)

pub returns-clause-cut : goal.returns-clause-cut
returns-clause-cut c A d s xs l = cut-agree (replicate d blank ++ drop d A) A d s s xs (length-above A d l) (λ k low high. action_at-above A d k low) (λ j low. refl)
