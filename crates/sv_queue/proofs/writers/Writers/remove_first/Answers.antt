-- What the check leaves to prove of `Writers::remove_first`.
use Rattle.std.proofs.Common.{◌≡◌, [], drop, length, ap, arith}
use Rattle.sv_queue.proofs.WrittenObjects.{unchanged, changed_slot, kept_slot, writes_before-zero, writes_before_all}
use Rattle.sv_queue.proofs.writers.Writers.remove_first.Goals as goal
use Rattle.sv_queue.proofs.writers.Writers.remove_first.Goals.{in-Some, in_default}

pub loop-slot-init : goal.loop-slot-init
loop-slot-init c = rw (writes_before-zero c.args.action.now, c.self.view_is) (unchanged [] (drop 1) c.args.self.now)

pub loop-slot-preserved : goal.loop-slot-preserved
loop-slot-preserved c =
    let a = c.args.action.now in
    let n = c.loop-slot.slot in
    let old = c.args.self.now in
    let now = c.loop-slot.self-inside.lists.items in
    elim c.match-written_at.branch [
      | in-Some w ↦ changed_slot [] (drop 1) a n old now c.match-written_at.self-inside.lists.items w.in-Some.object.0 w.index_mut-list.result.now w.pop_first.new.self
          c.requires (omega arith) w.in-Some.ensures.read w.in-Some.ensures.fresh w.in-Some.ensures.next c.loop-slot.invariant
          w.index_mut-list.ensures.value w.pop_first.ensures (ap (λ i. i.lists.items) w.self-inside-is)
      | in_default w ↦ kept_slot [] (drop 1) a n old now c.match-written_at.self-inside.lists.items w.in_default.ensures.next c.loop-slot.invariant (ap (λ i. i.lists.items) w.self-inside-is)
    ]

pub returns : goal.returns
returns c =
    let done : c.loop-slot.slot ≡ length c.args.action.now.reads = omega arith in
    rw (← writes_before_all c.args.action.now, ← done) c.loop-slot.invariant
