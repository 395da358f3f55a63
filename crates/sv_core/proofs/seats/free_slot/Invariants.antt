-- The loop invariant of `free_slot`.
use Rattle.std.proofs.Common.{◌≡◌, ℕ, ◌<◌, true}
use Rattle.sv_core.specs.Rows.{row_at, is_seated}
use Rattle.sv_core.proofs.seats.free_slot.Given as goal

abbrev pub invariant-loop-slot : goal.invariant-loop-slot
invariant-loop-slot l = (i : ℕ) → i < l.slot → is_seated (row_at l.rows i) ≡ true
