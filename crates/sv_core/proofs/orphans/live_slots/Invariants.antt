-- The loop invariant of `live_slots`.
use Rattle.std.proofs.Common.{◌≤◌, length}
use Rattle.sv_core.proofs.Live.{HasLiveBelow}
use Rattle.sv_core.proofs.orphans.live_slots.Given as goal

abbrev pub invariant-loop-slot : goal.invariant-loop-slot
invariant-loop-slot l = record {
  room : length l.sessions ≤ l.live.room;
  has : HasLiveBelow l.slot l.sessions l.live.slots;
}
