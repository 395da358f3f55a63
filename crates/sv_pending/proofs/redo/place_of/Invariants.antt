-- The loop invariant of `place_of`.
use Rattle.std.proofs.Common.{◌≡◌, ◌≤◌}
use Rattle.sv_world.specs.Sets.{write_set}
use Rattle.sv_pending.specs.Made.{place_in}
use Rattle.sv_pending.proofs.Places.{written_from, place_behind}
use Rattle.sv_pending.proofs.redo.place_of.Given as goal

abbrev pub invariant-loop-slot : goal.invariant-loop-slot
invariant-loop-slot l =
    (l.place ≤ l.slot) × (place_behind l.place l.object.0 (written_from l.action.mask l.slot l.reads) ≡ place_in l.object.0 (write_set l.action))
