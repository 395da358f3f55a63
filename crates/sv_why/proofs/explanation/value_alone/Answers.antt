-- What is proved by hand of `value_alone`.
use Rattle.std.proofs.Common.{◌≡◌, ℕ, ℤ, List, ◌∙◌, ap₂, sym, reverse}
use Rattle.sv_world.specs.declared.action.Action.{Action}
use Rattle.sv_eval.specs.Serial.{world_after}
use Rattle.sv_journal.specs.History.{actions_of}
use Rattle.sv_why.proofs.Alone.{by-next}
use Rattle.sv_why.proofs.explanation.value_alone.Goals as goal

pub loop-pos-preserved : goal.loop-pos-preserved
loop-pos-preserved c =
    c.in_ok-execute.ensures
    ∙ ap₂ (λ (world : List (List ℤ)) (a : Action). world_after world a) c.loop-pos.invariant c.accepted.ensures
    ∙ by-next c.args.opening.now (actions_of (reverse c.args.journal.now.entries)) c.args.positions.now c.loop-pos.pos-index 0 c.loop-pos-test.true
