-- What is proved by hand of `Actor::take_event`.
use Rattle.std.proofs.Common.{rules, length, refl}
use Rattle.sv_check.specs.Serving.{entries_of}
use Rattle.sv_check.proofs.Lines.{step_early}
use Rattle.sv_check.proofs.actor.Actor.take_event.Goals as goal

pub returns-clause-wrong : goal.returns-clause-wrong
returns-clause-wrong c =
    step_early (entries_of c.args.served.now) c.args.self.now c.args.text.now (length c.args.text.now) refl (search rules) (search rules) (search rules)
