-- What is proved by hand of `played_by`.
use Rattle.sv_check.proofs.Serving.{shape_is, values_are}
use Rattle.sv_check.proofs.Reporting.{right}
use Rattle.sv_check.proofs.checking.played_by.Goals as goal

pub played_of-requires-clause-shape : goal.played_of-requires-clause-shape
played_of-requires-clause-shape c = shape_is c.args.scenario.now c.args.served c.requires.served

pub played_of-requires-clause-values : goal.played_of-requires-clause-values
played_of-requires-clause-values c = values_are c.args.scenario.now c.args.served c.requires.good c.requires.served

pub returns-clause-right : goal.returns-clause-right
returns-clause-right c =
    let p = c.in_ok-played.ensures in
    right c.steps_are_done_in_order.ensures.begun c.steps_are_done_in_order.ensures.whole c.args.scenario.now c.args.served c.args.traces c.in_ok-played.played
    c.requires.good c.requires.served c.requires.ended c.is_legal.ensures c.requires.traces p.shape p.entries p.traces p.commit p.committed

pub returns-clause-same : goal.returns-clause-same
returns-clause-same c = let p = c.in_ok-played.ensures in record { entries = p.entries; traces = p.traces }
