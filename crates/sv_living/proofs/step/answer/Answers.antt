-- What was decided on the request holds of what is heard of it.
use Rattle.std.proofs.Common.{sym, ap, ◌∙◌, subst}
use Rattle.sv_wire.specs.declared.message.Request.{Request}
use Rattle.sv_journal.specs.Sessions.{is_end}
use Rattle.sv_journal.specs.Living.{heeded}
use Rattle.sv_core.specs.Cores.{core_rules, CarriedOut}
use Rattle.sv_core.specs.Decisions.{DecisionHolds}
use Rattle.sv_living.specs.Keeping.{CarriedOn}
use Rattle.sv_living.proofs.Standing.{silenced, heard-whole, carried-on}
use Rattle.sv_living.proofs.Told.{if-ok}
use Rattle.sv_living.proofs.step.answer.Goals as goal

pub carry_out-answer-requires : goal.carry_out-answer-requires
carry_out-answer-requires g c =
    let s = c.args.seat.session in (
      c.requires.0,
      (
        c.requires.1.1.0,
        (
          ap is_end c.silent-heard.ensures,
          subst (λ (x : Request). DecisionHolds (core_rules c.args.core.now) (heeded g.g.w g.g.h) s x c.decide-decision.result)
              (silenced g.g.w g.g.h s c.args.request.now c.silent-heard.result c.silent-heard.ensures (sym c.is_silent.ensures ∙ c.if-is_silent.true)) c.decide-decision.ensures.holds,
        ),
      ),
    )

pub returns-then-is_silent-clause-ok : goal.returns-then-is_silent-clause-ok
returns-then-is_silent-clause-ok g c =
    let s = c.args.seat.session in
    let q = c.args.request.now in
    let old = c.args.core.now in
    let new' = c.carry_out-answer.new.self in
    if-ok (CarriedOut old new' (heeded g.g.w g.g.h) s c.silent-heard.result c.decide-decision.result) (CarriedOn old new' g.g.w g.g.h s q) c.carry_out-answer.result
    (λ a out. carried-on old new' g.g.w g.g.h s q c.silent-heard.result c.decide-decision.result a
    (silenced g.g.w g.g.h s q c.silent-heard.result c.silent-heard.ensures (sym c.is_silent.ensures ∙ c.if-is_silent.true)) c.decide-decision.ensures out)
    c.carry_out-answer.ensures.ok

pub carry_out-requires : goal.carry_out-requires
carry_out-requires g c = (
  c.requires.0,
  (
    c.requires.1.1.0,
    (
      c.requires.1.1.1,
      subst (λ (x : Request). DecisionHolds (core_rules c.args.core.now) (heeded g.g.w g.g.h) c.args.seat.session x c.decide-decision.result)
          (heard-whole g.g.w g.g.h c.args.seat.session c.args.request.now (sym c.is_silent.ensures ∙ c.if-is_silent.false)) c.decide-decision.ensures.holds,
    ),
  ),
)

pub returns-clause-ok : goal.returns-clause-ok
returns-clause-ok g c =
    let s = c.args.seat.session in
    let q = c.args.request.now in
    let old = c.args.core.now in
    let new' = c.carry_out.new.self in
    let is = heard-whole g.g.w g.g.h s q (sym c.is_silent.ensures ∙ c.if-is_silent.false) in
    if-ok (CarriedOut old new' (heeded g.g.w g.g.h) s q c.decide-decision.result) (CarriedOn old new' g.g.w g.g.h s q) c.carry_out.result
    (λ a out. carried-on old new' g.g.w g.g.h s q q c.decide-decision.result a is c.decide-decision.ensures out) c.carry_out.ensures.ok
