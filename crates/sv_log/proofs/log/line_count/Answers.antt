-- What is proved by hand of `line_count`.
use Rattle.std.proofs.Common.{◌≡◌, ℕ, ◌+◌, ◌-◌, ◌≤◌, take, drop, length, arith, length-take-le, length-drop}
use Rattle.sv_log.specs.Chains.{lines}
use Rattle.sv_log.proofs.Counted.{lines-split, lines-few}
use Rattle.sv_log.proofs.log.line_count.Goals as goal

pub loop-start-preserved : goal.loop-start-preserved
loop-start-preserved c =
    let text = c.args.text.now in
    let start = c.loop-start.start in
    let end = c.min-end.result in
    let piece = take (end - start) (drop start text) in
    let before = c.loop-start.invariant in
    let ordered : start ≤ end = omega (arith, before.within, c.min-end.ensures) in
    let within : end ≤ length text = omega (arith, c.min-end.ensures) in
    let found : c.from-count.result ≡ lines piece = omega (arith, c.from-count.ensures, c.short_count.ensures) in
    let split = lines-split text start end ordered in
    let few = lines-few piece in
    let long : length piece ≡ end - start = length-take-le (end - start) (drop start text) (omega (arith, within, length-drop start text)) in
    record {
      counted = omega (arith, before.counted, split, found);
      small = omega (arith, before.small, few, long, found, ordered);
      within = within;
    }
