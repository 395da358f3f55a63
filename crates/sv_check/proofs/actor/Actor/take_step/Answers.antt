-- What is proved by hand of `Actor::take_step`.
use Rattle.std.proofs.Common.{rules, length, refl, ◌∙◌}
use Rattle.sv_check.specs.Serving.{entries_of}
use Rattle.sv_check.proofs.Lines.{no_next, step_none, step_other}
use Rattle.sv_check.proofs.actor.Actor.take_step.Goals as goal

pub returns-in_default-clause-wrong : goal.returns-in_default-clause-wrong
returns-in_default-clause-wrong c =
    let a = c.args.self.now in
    step_none (entries_of c.args.served.now) a c.args.text.now (length c.args.text.now) refl c.requires.begins c.requires.joined
    (no_next a.client.who a.client.events a.left.now c.in_ok-event.field-0 c.in_default.is c.in_ok-event.ensures)

pub returns-clause-wrong : goal.returns-clause-wrong
returns-clause-wrong c =
    step_other (entries_of c.args.served.now) c.args.self.now c.args.text.now c.as_bytes.result.now (length c.args.text.now) c.in-Some.event c.in-Some.left.now refl c.requires.begins c.requires.joined
    (search rules) (c.as_bytes.ensures.value ∙ c.in_ok-line.ensures.line) c.in-None.ensures
