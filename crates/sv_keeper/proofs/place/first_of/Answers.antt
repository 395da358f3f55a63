-- One more is looked at, and then all were.
use Rattle.std.proofs.Common.{◌≤◌, length, arith}
use Rattle.sv_keeper.proofs.Placed.{goes_on, gone}
use Rattle.sv_keeper.proofs.place.first_of.Goals as goal

pub loop-start-preserved : goal.loop-start-preserved
loop-start-preserved c =
    goes_on c.args.closed.now c.args.last c.args.number c.loop-start.start-index c.loop-start.first c.later_of-first.result 0
    (omega (arith, c.loop-start-test.true, c.loop-start.auto.start-index-end)) c.later_of-first.ensures c.loop-start.invariant

pub returns : goal.returns
returns c =
    gone c.args.closed.now c.args.last c.args.number c.loop-start.start-index c.loop-start.first
    (omega (arith, c.loop-start-test.false, c.loop-start.auto.start-index-end)) c.loop-start.invariant
