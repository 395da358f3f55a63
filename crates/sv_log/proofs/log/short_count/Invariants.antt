-- The loop invariant of `short_count`.
use Rattle.std.proofs.Common.{◌≡◌, ◌+◌, ◌≤◌, drop}
use Rattle.sv_log.specs.Chains.{lines}
use Rattle.sv_log.proofs.log.short_count.Given as goal

abbrev pub invariant-loop-byte : goal.invariant-loop-byte
invariant-loop-byte l = record {
  counted : l.count + lines (drop l.byte-index l.text) ≡ lines l.text;
  small : l.count ≤ l.byte-index;
}
