-- The loop invariant of `add_start`.
use Rattle.std.proofs.Common.{◌⊎◌, List, ℕ, drop, map, string_bytes, IsSome, Contains}
use Rattle.sv_bytes.specs.Stored.{contents_of}
use Rattle.sv_log.specs.Pictures.{seen_after}
use Rattle.sv_log.specs.Memory.{latest_first, StartsIn}
use Rattle.sv_log.proofs.memory.add_start.Given as goal

abbrev pub invariant-loop-i : goal.invariant-loop-i
invariant-loop-i l = record {
  covers : (n : List ℕ) → IsSome (seen_after (contents_of l.start) (latest_first l.calls) n) → StartsIn l.start n → Contains (map string_bytes l.names.items) n ⊎ StartsIn (drop l.i l.start) n;
  only : (n : List ℕ) → Contains (map string_bytes l.names.items) n → Contains (map string_bytes l.fn.names.items) n ⊎ IsSome (seen_after (contents_of l.start) (latest_first l.calls) n);
}
