-- The loop invariant of `have_common_bit`.
use Rattle.std.proofs.Common.{◌≡◌, ℕ, ◌<◌, bit_and, slice_index}
use Rattle.sv_queue.proofs.slots.have_common_bit.Given as goal

abbrev pub invariant-loop-place : goal.invariant-loop-place
invariant-loop-place l = (i : ℕ) → i < l.place → bit_and (slice_index l.words i) (slice_index l.others i) ≡ 0
