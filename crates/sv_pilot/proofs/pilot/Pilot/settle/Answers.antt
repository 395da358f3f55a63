-- What is proved by hand of `Pilot::settle`.
use Rattle.std.proofs.Common.{Ok, Err, refl, ap, subst}
use Rattle.std.specs.Prelude.{IfErr}
use Rattle.sv_pilot.specs.Doings.{PilotView, Takes, HasTold, StopsBy}
use Rattle.sv_pilot.proofs.Taking.{same_taken, calm_same, calm_more, taken_more, then_taken, all_taken, line_takes, stops_later}
use Rattle.sv_pilot.proofs.Told.{told_nothing, told_none, told_then}
use Rattle.sv_pilot.proofs.Moved.{failed_by}
use Rattle.sv_pilot.proofs.pilot.Pilot.settle.Goals as goal

pub loop-self-init : goal.loop-self-init
loop-self-init g c =
    record { taken = same_taken c.args.self.now; calm = calm_same c.args.self.now.line c.args.self.now.line refl; told = told_nothing c.args.self.now c.args.self.now refl refl }

pub returns-in_err-take_next-clause-taken : goal.returns-in_err-take_next-clause-taken
returns-in_err-take_next-clause-taken g c =
    let trouble = c.in_err-take_next.field-0.0 in
    failed_by c.from_residual.result trouble c.from_residual.ensures.1 (Takes c.args.self.now c.take_next.new.self)
    (then_taken {X = Unit} c.args.self.now c.loop-self.self c.take_next.new.self (Err trouble) c.loop-self.invariant.taken c.in_err-take_next.ensures.taken)

pub returns-in_err-take_next-clause-why : goal.returns-in_err-take_next-clause-why
returns-in_err-take_next-clause-why g c =
    failed_by c.from_residual.result c.in_err-take_next.field-0.0 c.from_residual.ensures.1 (λ q. IfErr q (StopsBy c.args.self.now c.take_next.new.self))
    (stops_later c.args.self.now c.loop-self.self c.take_next.new.self c.in_err-take_next.field-0.0 c.loop-self.invariant.calm c.in_err-take_next.ensures.why)

pub loop-self-preserved : goal.loop-self-preserved
loop-self-preserved g c = record {
  taken = taken_more c.args.self.now c.loop-self.self c.take_next.new.self c.take_next.new.self.line.waits c.loop-self.invariant.taken
      (all_taken c.loop-self.self c.take_next.new.self tt c.in_ok-take_next.ensures.taken);
  calm = calm_more c.args.self.now.line c.loop-self.self.line c.take_next.new.self.line c.loop-self.invariant.calm c.in_ok-take_next.ensures.calm;
  told = told_then {X = Unit} c.args.self.now.client.who c.args.self.now.client.events c.args.self.now.told c.loop-self.self c.take_next.new.self (Ok tt) c.loop-self.invariant.taken.who c.loop-self.invariant.told
      c.in_ok-take_next.ensures.told;
}

pub returns-clause-taken : goal.returns-clause-taken
returns-clause-taken g c =
    let mid : PilotView = record { client = c.self.inside.client; line = c.self.inside.connection; told = c.self.inside.audience.heard } in
    let new : PilotView = record { client = c.self.inside.client; line = c.flush.new.self; told = c.self.inside.audience.heard } in
    then_taken c.args.self.now c.loop-self.self new c.flush.result c.loop-self.invariant.taken
    (subst (λ (p : PilotView). Takes p new c.flush.result) c.self.view_is (line_takes mid new c.flush.result refl c.flush.ensures.sent))

pub returns-in_err-take_next-clause-told : goal.returns-in_err-take_next-clause-told
returns-in_err-take_next-clause-told g c =
    let old = c.args.self.now in
    let trouble = c.in_err-take_next.field-0.0 in
    failed_by c.from_residual.result trouble c.from_residual.ensures.1 (HasTold old c.take_next.new.self)
    (told_then {X = Unit} old.client.who old.client.events old.told c.loop-self.self c.take_next.new.self (Err trouble) c.loop-self.invariant.taken.who c.loop-self.invariant.told c.in_err-take_next.ensures.told)

pub returns-clause-told : goal.returns-clause-told
returns-clause-told g c =
    let old = c.args.self.now in
    let new : PilotView = record { client = c.self.inside.client; line = c.flush.new.self; told = c.self.inside.audience.heard } in
    told_then old.client.who old.client.events old.told c.loop-self.self new c.flush.result c.loop-self.invariant.taken.who c.loop-self.invariant.told
    (told_none c.loop-self.self new c.flush.result (ap (λ (p : PilotView). p.client.events) c.self.view_is) (ap (λ (p : PilotView). p.told) c.self.view_is))
