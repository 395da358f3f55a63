-- The steward joined, and then others.
use Rattle.sv_host.proofs.Joined.{join_then, lets_steward}
use Rattle.sv_host.proofs.Through.{wrote_since}
use Rattle.sv_host.proofs.Written.{then_ok}
use Rattle.sv_host.proofs.top.serve_at.Goals as goal

pub returns-clause-joins : goal.returns-clause-joins
returns-clause-joins g c = join_then (lets_steward _ c.begin.ensures.keys c.begin.ensures.joins) c.serve_between.ensures.joins

pub returns-clause-last : goal.returns-clause-last
returns-clause-last g c = then_ok c.serve_between.result (wrote_since _ _ c.begin.ensures.goes) c.serve_between.ensures.last

pub returns-clause-sent : goal.returns-clause-sent
returns-clause-sent g c = wrote_since _ _ c.begin.ensures.goes c.serve_between.ensures.sent

pub returns-in_err-halted-clause-joins : goal.returns-in_err-halted-clause-joins
returns-in_err-halted-clause-joins g c =
    (lets_steward (g.L.Files.contents c.args.parts.now.files.now) c.begin.ensures.keys c.begin.ensures.joins).join

pub returns-in-Err-clause-joins : goal.returns-in-Err-clause-joins
returns-in-Err-clause-joins g c = (lets_steward (g.L.Files.contents c.args.parts.now.files.now) c.begin.ensures.keys c.begin.ensures.joins).join
