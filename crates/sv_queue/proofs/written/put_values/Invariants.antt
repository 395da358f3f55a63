-- The loop invariant of `put_values`.
use Rattle.std.proofs.Common.{◌≡◌, length, drop}
use Rattle.std.specs.Vec.Iter.{into_iter_items}
use Rattle.sv_eval.specs.Serial.{put_all}
use Rattle.sv_queue.specs.Written.{writes_before}
use Rattle.sv_queue.proofs.written.put_values.Given as goal

abbrev pub invariant-loop-slot : goal.invariant-loop-slot
invariant-loop-slot l = record {
  put : l.committed ≡ put_all l.initial.committed (writes_before l.action l.slot) l.fn.values;
  left : into_iter_items l.values ≡ drop (length (writes_before l.action l.slot)) l.fn.values;
}
