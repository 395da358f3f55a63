-- What is proved by hand of `take_events`.
use Rattle.std.proofs.Common.{ℕ, List, length, refl, Bor}
use Rattle.sv_check.specs.Serving.{entries_of}
use Rattle.sv_check.specs.Clients.{EventsStop}
use Rattle.sv_check.proofs.Acted.{takes_none, takes_more, NoLine, wrong_from, line_stopped, text_stopped}
use Rattle.sv_check.proofs.clients.take_events.Goals as goal

pub loop-init : goal.loop-init
loop-init c = takes_none (entries_of c.args.served.now) c.args.actor.now c.args.text.now c.requires.acting

pub loop-preserved : goal.loop-preserved
loop-preserved c =
    takes_more (entries_of c.args.served.now) c.args.actor.now c.loop.actor c.take_event.new.self c.args.text.now c.loop.rest.now c.in_ok-rest.rest.now c.loop.counter
    c.loop.invariant c.in_ok-rest.ensures.on c.in_ok-rest.ensures.told

pub returns-in_err-rest-clause-wrong : goal.returns-in_err-rest-clause-wrong
returns-in_err-rest-clause-wrong c =
    let entries = entries_of c.args.served.now in
    let l = c.loop in
    wrong_from (Bor (List ℕ)) _ (NoLine entries l.actor l.rest.now) (EventsStop entries c.args.actor.now c.args.text.now) c.in_err-rest.field-0.0 c.from_residual.result c.from_residual.ensures.1
    (λ left n. line_stopped entries c.args.actor.now l.actor c.args.text.now l.rest.now l.counter left l.invariant c.if-actor.false n) c.in_err-rest.ensures.wrong

pub returns-else-actor-2-clause-wrong : goal.returns-else-actor-2-clause-wrong
returns-else-actor-2-clause-wrong c =
    let l = c.loop in
    text_stopped (entries_of c.args.served.now) c.args.actor.now l.actor c.args.text.now l.rest.now l.counter (length l.rest.now) l.invariant c.loop-test.false c.if-actor-2.false refl
