-- The loop invariant of `join_words`.
use Rattle.std.proofs.Common.{◌≡◌, ℕ, ◌<◌, ◌≤◌, bit_or, length, slice_index}
use Rattle.sv_queue.proofs.slots.join_words.Given as goal

abbrev pub invariant-loop-place : goal.invariant-loop-place
invariant-loop-place l = record {
  count : length l.words ≡ length l.initial.words;
  joined : (i : ℕ) → i < l.place → slice_index l.words i ≡ bit_or (slice_index l.initial.words i) (slice_index l.others i);
  left : (i : ℕ) → l.place ≤ i → slice_index l.words i ≡ slice_index l.initial.words i;
}
