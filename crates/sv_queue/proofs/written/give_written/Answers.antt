-- What the check leaves to prove of `give_written`.
use Rattle.std.proofs.Common.{◌≡◌, ◌<◌, length, ap, subst, arith}
use Rattle.std.proofs.lemmas.List.{get_or_read}
use Rattle.sv_queue.specs.Slots.{SlotSet, no_slots}
use Rattle.sv_queue.specs.Written.{writes_before}
use Rattle.sv_queue.proofs.Waits.{row_room}
use Rattle.sv_queue.proofs.WrittenObjects.{unchanged, changed_slot, kept_slot, read_known, writes_before-zero, writes_before_all}
use Rattle.sv_queue.proofs.written.give_written.Goals as goal
use Rattle.sv_queue.proofs.written.give_written.Goals.{in-Some, in_default}

pub loop-slot-init : goal.loop-slot-init
loop-slot-init c = rw (writes_before-zero c.args.action.now) (unchanged no_slots (λ (r : SlotSet). record r { slots = c.args.slots.now.slots }) c.args.rows.now.items)

pub copy_from-requires : goal.copy_from-requires
copy_from-requires c s has =
    let rows = c.args.rows.now.items in
    let x = c.in-Some.object.0 in
    let low : x < length rows = read_known c.args.action.now c.loop-slot.slot x (length rows) c.requires.can (omega arith) c.in-Some.ensures.read in
    let read = get_or_read c.loop-slot.rows.items x c.index_mut-row.result.now (omega (arith, low, c.loop-slot.invariant.count)) c.index_mut-row.ensures.value no_slots in
    let same = row_room (writes_before c.args.action.now c.loop-slot.slot) rows c.loop-slot.rows.items x c.args.slots.now.slots c.loop-slot.invariant low in
    let room = c.requires.room x no_slots low s has in
    let here = ap (λ (r : SlotSet). r.room) read in
    omega (arith, same, room, here)

pub loop-slot-preserved : goal.loop-slot-preserved
loop-slot-preserved c =
    let a = c.args.action.now in
    let n = c.loop-slot.slot in
    let old = c.args.rows.now.items in
    let now = c.loop-slot.rows.items in
    elim c.match-written_at.branch [
      | in-Some w ↦ changed_slot no_slots (λ (r : SlotSet). record r { slots = c.args.slots.now.slots }) a n old now c.match-written_at.rows.items w.in-Some.object.0 w.index_mut-row.result.now w.copy_from.new.self
          c.requires.can (omega arith) w.in-Some.ensures.read w.in-Some.ensures.fresh w.in-Some.ensures.next c.loop-slot.invariant
          w.index_mut-row.ensures.value w.copy_from.ensures (ap (λ v. v.items) w.rows-is)
      | in_default w ↦ kept_slot no_slots (λ (r : SlotSet). record r { slots = c.args.slots.now.slots }) a n old now c.match-written_at.rows.items w.in_default.ensures.next c.loop-slot.invariant (ap (λ v. v.items) w.rows-is)
    ]

pub returns : goal.returns
returns c =
    let done : c.loop-slot.slot ≡ length c.args.action.now.reads = omega arith in
    rw (← writes_before_all c.args.action.now, ← done) c.loop-slot.invariant
