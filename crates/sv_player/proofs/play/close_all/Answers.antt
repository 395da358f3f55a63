-- What is proved by hand of `close_all`.
use Rattle.std.proofs.Common.{get_or, arith}
use Rattle.std.proofs.lemmas.Option.{slice_get-get_or}
use Rattle.sv_player.proofs.Stepping.{one_closed, all_closed}
use Rattle.sv_player.proofs.play.close_all.Goals as goal

pub loop-place-preserved : goal.loop-place-preserved
loop-place-preserved g c =
    let now = c.loop-place.ends in
    let k = c.loop-place.place in
    let x = c.index-ends-place.result in
    one_closed g.E.End.told g.E.End.faults g.E.End.calm c.args.ends.now now k (get_or now k x) c.close.new.self c.loop-place.invariant (slice_get-get_or now k x (omega arith))
    (record { told_is = c.close.ensures.told; faults_are = c.close.ensures.faults; calm_is = c.close.ensures.calm })

pub returns : goal.returns
returns g c = all_closed g.E.End.told g.E.End.faults g.E.End.calm c.args.ends.now c.loop-place.ends c.loop-place.place (omega arith) c.loop-place.invariant
