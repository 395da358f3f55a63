-- The loop invariant of `no_rows`.
use Rattle.std.proofs.Common.{◌≡◌, replicate}
use Rattle.sv_queue.specs.Slots.{no_slots}
use Rattle.sv_queue.proofs.written.no_rows.Given as goal

abbrev pub invariant-loop : goal.invariant-loop
invariant-loop l = l.rows.items ≡ replicate l.counter no_slots
