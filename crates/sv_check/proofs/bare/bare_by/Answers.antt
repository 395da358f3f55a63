-- What is proved by hand of `bare_by`.
use Rattle.std.proofs.Common.{◌∙◌}
use Rattle.sv_check.proofs.Serving.{shape_is, values_are}
use Rattle.sv_check.proofs.BareStops.{bare_played}
use Rattle.sv_check.proofs.bare.bare_by.Goals as goal

pub played_of-requires-clause-shape : goal.played_of-requires-clause-shape
played_of-requires-clause-shape c = shape_is c.args.scenario.now c.args.served c.requires.served

pub played_of-requires-clause-values : goal.played_of-requires-clause-values
played_of-requires-clause-values c = values_are c.args.scenario.now c.args.served c.requires.good c.requires.served

pub returns-clause-bare : goal.returns-clause-bare
returns-clause-bare c =
    let p = c.in_ok-played.ensures in
    bare_played c.args.scenario.now c.args.served c.in_ok-played.played c.requires.served c.requires.whole c.is_legal.ensures p.shape p.entries (p.traces ∙ c.new.ensures) p.commit p.committed
