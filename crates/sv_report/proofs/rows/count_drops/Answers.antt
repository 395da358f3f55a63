-- What is proved by hand of `count_drops`.
use Rattle.std.proofs.Common.{arith}
use Rattle.std.proofs.lemmas.List.{at_drop_all}
use Rattle.sv_report.specs.Drops.{drops_after}
use Rattle.sv_report.proofs.Dropping.{dropped_is}
use Rattle.sv_report.proofs.rows.count_drops.Goals as goal

pub returns : goal.returns
returns c =
    let es = c.args.entries.now in
    let rows = c.loop-entry.invariant.rows in
    omega (arith, rows.1.1, at_drop_all (drops_after rows.0) es c.loop-entry.entry-index (omega (arith, c.loop-entry-test.false)), dropped_is es)
