-- What is proved by hand of `Pilot::watch`.
use Rattle.std.proofs.Common.{Ok, Err, refl, ◌∙◌}
use Rattle.std.specs.Prelude.{IfErr}
use Rattle.sv_pilot.specs.declared.trouble.Trouble.TheVariants as troubles
use Rattle.sv_pilot.specs.Doings.{HasTold, StoppedWatch}
use Rattle.sv_pilot.proofs.Taking.{calm_same, calm_more}
use Rattle.sv_pilot.proofs.Told.{told_nothing, told_then, told_all}
use Rattle.sv_pilot.proofs.Moved.{failed_by}
use Rattle.sv_pilot.proofs.Watching.{watched_more, watch_stopped, watch_lacks}
use Rattle.sv_pilot.proofs.pilot.Pilot.watch.Goals as goal

pub loop-init : goal.loop-init
loop-init g c = record { watched = refl; calm = calm_same c.args.self.now.line c.args.self.now.line refl; who = refl; told = told_nothing c.args.self.now c.args.self.now refl refl }

pub returns-in_err-asked-clause-stopped : goal.returns-in_err-asked-clause-stopped
returns-in_err-asked-clause-stopped g c =
    failed_by c.from_residual.result troubles.Memory c.from_residual.ensures.1 (λ q. IfErr q (StoppedWatch c.args.objects.now c.args.wait c.args.times c.args.self.now c.loop.self))
    (watch_lacks c.args.objects.now c.args.wait c.args.times c.loop.counter c.args.self.now c.loop.self c.loop.self refl c.loop-test.true c.loop.invariant.watched)

pub returns-in_err-observe-clause-stopped : goal.returns-in_err-observe-clause-stopped
returns-in_err-observe-clause-stopped g c =
    failed_by c.from_residual-in_err-observe.result c.in_err-observe.field-0.0 c.from_residual-in_err-observe.ensures.1
    (λ q. IfErr q (StoppedWatch c.args.objects.now c.args.wait c.args.times c.args.self.now c.observe.new.self))
    (watch_stopped c.args.objects.now c.in_ok-asked.asked c.args.wait c.in_ok-asked.ensures c.args.times c.loop.counter c.args.self.now c.loop.self c.observe.new.self c.in_err-observe.field-0.0 c.loop-test.true
    c.loop.invariant.watched c.in_err-observe.ensures.stopped c.in_err-observe.ensures.refused)

pub loop-preserved : goal.loop-preserved
loop-preserved g c = record {
  watched = watched_more c.args.objects.now c.in_ok-asked.asked c.args.wait c.in_ok-asked.ensures c.loop.counter c.args.self.now c.loop.self c.observe.new.self c.loop.invariant.watched c.in_ok-observe.ensures.observed.0;
  calm = calm_more c.args.self.now.line c.loop.self.line c.observe.new.self.line c.loop.invariant.calm c.in_ok-observe.ensures.observed.2;
  who = c.in_ok-observe.ensures.observed.0.who ∙ c.loop.invariant.who;
  told = told_then {X = Unit} c.args.self.now.client.who c.args.self.now.client.events c.args.self.now.told c.loop.self c.observe.new.self (Ok tt) c.loop.invariant.who c.loop.invariant.told c.in_ok-observe.ensures.told;
}

pub returns-in_err-asked-clause-told : goal.returns-in_err-asked-clause-told
returns-in_err-asked-clause-told g c =
    let old = c.args.self.now in
    failed_by c.from_residual.result troubles.Memory c.from_residual.ensures.1 (HasTold old c.loop.self) (told_all old.client.who old.client.events old.told c.loop.self troubles.Memory c.loop.invariant.who c.loop.invariant.told)

pub returns-in_err-observe-clause-told : goal.returns-in_err-observe-clause-told
returns-in_err-observe-clause-told g c =
    let old = c.args.self.now in
    let trouble = c.in_err-observe.field-0.0 in
    failed_by c.from_residual-in_err-observe.result trouble c.from_residual-in_err-observe.ensures.1 (HasTold old c.observe.new.self)
    (told_then {X = Unit} old.client.who old.client.events old.told c.loop.self c.observe.new.self (Err trouble) c.loop.invariant.who c.loop.invariant.told c.in_err-observe.ensures.told)
