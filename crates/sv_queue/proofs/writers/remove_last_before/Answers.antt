-- What the check leaves to prove of `remove_last_before`.
use Rattle.std.proofs.Common.{[], ap, arith}
use Rattle.sv_queue.specs.Written.{front_of}
use Rattle.sv_queue.proofs.WrittenObjects.{unchanged, changed_slot, kept_slot, writes_before-zero}
use Rattle.sv_queue.proofs.writers.remove_last_before.Goals as goal
use Rattle.sv_queue.proofs.writers.remove_last_before.Goals.{in-Some, in_default}

pub loop-slot-init : goal.loop-slot-init
loop-slot-init c = rw (writes_before-zero c.args.action.now) (unchanged [] front_of c.args.lists.now.items)

pub loop-slot-preserved : goal.loop-slot-preserved
loop-slot-preserved c =
    let a = c.args.action.now in
    let n = c.loop-slot.slot in
    let old = c.args.lists.now.items in
    let now = c.loop-slot.lists.items in
    elim c.match-written_at.branch [
      | in-Some w ↦ changed_slot [] front_of a n old now c.match-written_at.lists.items w.in-Some.object.0 w.index_mut-list.result.now w.pop_last.new.self
          c.requires.can (omega arith) w.in-Some.ensures.read w.in-Some.ensures.fresh w.in-Some.ensures.next c.loop-slot.invariant
          w.index_mut-list.ensures.value w.pop_last.ensures (ap (λ v. v.items) w.lists-is)
      | in_default w ↦ kept_slot [] front_of a n old now c.match-written_at.lists.items w.in_default.ensures.next c.loop-slot.invariant (ap (λ v. v.items) w.lists-is)
    ]
