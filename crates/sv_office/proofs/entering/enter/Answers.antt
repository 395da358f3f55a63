-- A step enters one request, or nothing.
use Rattle.sv_office.proofs.Alone.{step_kept, step_others, step_own}
use Rattle.sv_office.proofs.Entered.{step_ok, step_same, step_added}
use Rattle.sv_office.proofs.Serially.{step_broken, step_one, step_serial, step_still}
use Rattle.sv_office.proofs.entering.enter.Goals as goal

pub returns-clause-ok : goal.returns-clause-ok
returns-clause-ok g c = step_ok _ _ _ _ c.step_lawfully-stepped.result c.step_lawfully-stepped.ensures.ok

pub returns-clause-one : goal.returns-clause-one
returns-clause-one g c = step_one _ _ _ _ c.step_lawfully-stepped.result c.step_lawfully-stepped.ensures.ok c.step_lawfully-stepped.ensures.err

pub returns-clause-same : goal.returns-clause-same
returns-clause-same g c = step_same _ _ _ _ c.step_lawfully-stepped.result c.step_lawfully-stepped.ensures.err

pub returns-clause-added : goal.returns-clause-added
returns-clause-added g c = step_added _ _ _ _ c.step_lawfully-stepped.result c.step_lawfully-stepped.ensures.ok c.step_lawfully-stepped.ensures.err

pub returns-clause-serial : goal.returns-clause-serial
returns-clause-serial g c =
    step_serial c.serial_results_stay.ensures.stay c.serial_results_stay.ensures.others c.serial_results_stay.ensures.world _ _ _ _ c.step_lawfully-stepped.result
    c.step_lawfully-stepped.ensures.ok c.step_lawfully-stepped.ensures.err c.step_lawfully-stepped.ensures.broken c.requires.limits c.step_lawfully-stepped.ensures.legal

pub returns-clause-others : goal.returns-clause-others
returns-clause-others g c =
    step_others c.stewards_sessions_are_joined.ensures.join c.stewards_sessions_are_joined.ensures.fresh c.args.keeper.now c.step_lawfully-stepped.new.keeper c.args.session c.args.request.now
    c.step_lawfully-stepped.ensures.order (step_still c.args.keeper.now c.step_lawfully-stepped.new.keeper c.args.session c.args.request.now c.step_lawfully-stepped.result c.step_lawfully-stepped.ensures.broken) c.step_lawfully-stepped.result
    (step_ok c.args.keeper.now c.step_lawfully-stepped.new.keeper _ _ c.step_lawfully-stepped.result c.step_lawfully-stepped.ensures.ok) (step_broken c.args.keeper.now c.step_lawfully-stepped.new.keeper c.args.session c.args.request.now c.step_lawfully-stepped.result c.step_lawfully-stepped.ensures.err)

pub returns-clause-own : goal.returns-clause-own
returns-clause-own g c =
    step_own c.stewards_sessions_are_joined.ensures.join c.stewards_sessions_are_joined.ensures.fresh c.args.keeper.now c.step_lawfully-stepped.new.keeper c.args.session c.args.request.now
    c.step_lawfully-stepped.ensures.order (step_still c.args.keeper.now c.step_lawfully-stepped.new.keeper c.args.session c.args.request.now c.step_lawfully-stepped.result c.step_lawfully-stepped.ensures.broken) c.step_lawfully-stepped.result
    (step_ok c.args.keeper.now c.step_lawfully-stepped.new.keeper _ _ c.step_lawfully-stepped.result c.step_lawfully-stepped.ensures.ok)

pub returns-clause-kept : goal.returns-clause-kept
returns-clause-kept g c =
    step_kept c.stewards_sessions_are_joined.ensures.join c.stewards_sessions_are_joined.ensures.fresh c.args.keeper.now c.step_lawfully-stepped.new.keeper c.args.session c.args.request.now
    c.step_lawfully-stepped.ensures.order (step_still c.args.keeper.now c.step_lawfully-stepped.new.keeper c.args.session c.args.request.now c.step_lawfully-stepped.result c.step_lawfully-stepped.ensures.broken) c.step_lawfully-stepped.result
    (step_broken c.args.keeper.now c.step_lawfully-stepped.new.keeper c.args.session c.args.request.now c.step_lawfully-stepped.result c.step_lawfully-stepped.ensures.err)
