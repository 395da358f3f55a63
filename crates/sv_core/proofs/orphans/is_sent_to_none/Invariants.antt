-- The loop invariant of `is_sent_to_none`.
use Rattle.std.proofs.Common.{◌≡◌, ℕ, ◌<◌, true, ◌||◌, not}
use Rattle.sv_world.specs.Control.{is_in}
use Rattle.sv_queue.specs.Queue.{sent_positions}
use Rattle.sv_core.specs.Orphans.{is_live_row}
use Rattle.sv_core.specs.Rows.{row_at}
use Rattle.sv_core.proofs.orphans.is_sent_to_none.Given as goal

abbrev pub invariant-loop-slot : goal.invariant-loop-slot
invariant-loop-slot g l = (s : ℕ) → s < l.slot → (not (is_live_row (row_at l.sessions s)) || not (is_in l.pos (sent_positions l.queue s))) ≡ true
