-- The loop invariant of `copy_words`.
use Rattle.std.proofs.Common.{◌≡◌, ℕ, ◌<◌, length, slice_index}
use Rattle.sv_queue.proofs.slots.copy_words.Given as goal

abbrev pub invariant-loop-place : goal.invariant-loop-place
invariant-loop-place l = record {
  count : length l.words ≡ length l.initial.words;
  same : (i : ℕ) → i < l.place → slice_index l.words i ≡ slice_index l.others i;
}
