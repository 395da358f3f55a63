-- The loop invariant of `add_calls`.
use Rattle.std.proofs.Common.{◌⊎◌, List, ℕ, drop, map, string_bytes, IsSome, Contains}
use Rattle.sv_bytes.specs.Stored.{contents_of}
use Rattle.sv_log.specs.Pictures.{seen_after}
use Rattle.sv_log.specs.Memory.{latest_first, NamedIn}
use Rattle.sv_log.proofs.memory.add_calls.Given as goal

abbrev pub invariant-loop-i : goal.invariant-loop-i
invariant-loop-i l = record {
  keeps : (n : List ℕ) → Contains (map string_bytes l.fn.names.items) n → Contains (map string_bytes l.names.items) n;
  covers : (n : List ℕ) → IsSome (seen_after (contents_of l.start) (latest_first l.calls) n) → NamedIn l.calls n → Contains (map string_bytes l.names.items) n ⊎ NamedIn (drop l.i l.calls) n;
  only : (n : List ℕ) → Contains (map string_bytes l.names.items) n → Contains (map string_bytes l.fn.names.items) n ⊎ IsSome (seen_after (contents_of l.start) (latest_first l.calls) n);
}
