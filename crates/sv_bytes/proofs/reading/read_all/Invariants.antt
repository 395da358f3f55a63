-- The loop invariant and the measure of `read_all`.
use Rattle.std.proofs.Common.{◌≡◌, ℕ, ◌≤◌, ◌-◌, List, true, vec_len}
use Rattle.sv_bytes.specs.Reading.{ReadSoFar}
use Rattle.sv_bytes.proofs.reading.read_all.Given as goal

abbrev pub invariant-loop-piece : goal.invariant-loop-piece
invariant-loop-piece g l = record {
  within : vec_len l.bytes ≤ l.limit;
  so_far : ReadSoFar (g.F.Files.contents l.fn.files l.fn.name) l.bytes.items (g.F.Files.left l.files);
  is_open : g.F.Files.is_open l.files ≡ true;
  calm : g.F.Files.sure l.fn.files l.fn.name → g.F.Files.calm l.files;
  no_fault : g.F.Files.faults l.files ≡ g.F.Files.faults l.fn.files;
  same : (n : List ℕ) → g.F.Files.contents l.files n ≡ g.F.Files.contents l.fn.files n;
  stays_sure : (n : List ℕ) → g.F.Files.sure l.fn.files n → g.F.Files.sure l.files n;
}

abbrev pub decreases-loop-piece : goal.decreases-loop-piece
decreases-loop-piece g l = l.limit - vec_len l.bytes
