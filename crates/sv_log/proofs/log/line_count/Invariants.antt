-- The loop of `line_count`.
use Rattle.std.proofs.Common.{◌≡◌, ℕ, ◌+◌, ◌-◌, ◌≤◌, drop, length}
use Rattle.sv_log.specs.Chains.{lines}
use Rattle.sv_log.proofs.log.line_count.Given as goal

abbrev pub invariant-loop-start : goal.invariant-loop-start
invariant-loop-start l = record {
  counted : l.count + lines (drop l.start l.text) ≡ lines l.text;
  small : l.count ≤ l.start;
  within : l.start ≤ length l.text;
}

abbrev pub decreases-loop-start : goal.decreases-loop-start
decreases-loop-start l = length l.text - l.start
