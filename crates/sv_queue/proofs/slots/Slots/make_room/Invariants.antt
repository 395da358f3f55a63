-- The loop invariant of `Slots::make_room`.
use Rattle.std.proofs.Common.{◌≡◌, ℕ, ◌-◌, ◌*◌, ◌≤◌, length}
use Rattle.sv_queue.specs.Slots.{has_bit}
use Rattle.sv_queue.proofs.slots.Slots.make_room.Given as goal

abbrev pub invariant-loop-self : goal.invariant-loop-self
invariant-loop-self l = record {
  bits : (s : ℕ) → has_bit l.self-inside.words.items s ≡ has_bit l.initial.self-inside.words.items s;
  low : 64 * length l.self-inside.words.items ≤ 1024;
  grown : length l.initial.self-inside.words.items ≤ length l.self-inside.words.items;
}

abbrev pub decreases-loop-self : goal.decreases-loop-self
decreases-loop-self l = l.wanted - length l.self-inside.words.items
