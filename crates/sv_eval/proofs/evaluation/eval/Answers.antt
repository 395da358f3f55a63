-- The result has the shape and the number of the values.
use Rattle.std.proofs.Common.{◌≡◌, length, sym, subst}
use Rattle.std.specs.Prelude.{All}
use Rattle.sv_world.specs.Sets.{write_set}
use Rattle.sv_eval.specs.declared.effect.Effect.{Effect}
use Rattle.sv_eval.proofs.Effects.{effect_shaped, effect_counted}
use Rattle.sv_eval.proofs.evaluation.eval.Goals as goal

pub returns-clause-shaped : goal.returns-clause-shaped
returns-clause-shaped c attrs h =
    subst (λ (o : Effect). All (λ value. length value ≡ attrs) o.writes) (sym c.in_ok-effect.ensures)
    (effect_shaped attrs c.args.action.now c.args.values.now h)

pub returns-clause-counted : goal.returns-clause-counted
returns-clause-counted c h =
    subst (λ (o : Effect). length o.writes ≡ length (write_set c.args.action.now)) (sym c.in_ok-effect.ensures)
    (effect_counted c.args.action.now c.args.values.now h)
