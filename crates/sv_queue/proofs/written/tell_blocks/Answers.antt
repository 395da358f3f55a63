-- What the check leaves to prove of `tell_blocks`.
use Rattle.std.proofs.Common.{◌≡◌, ◌*◌, ◌/◌, ◌<◌, ◌∙◌, append-nil, length, ap, arith}
use Rattle.std.proofs.lemmas.List.{get_or_read}
use Rattle.sv_queue.specs.Slots.{SlotSet, no_slots, set_joined}
use Rattle.sv_queue.specs.Written.{writes_before}
use Rattle.sv_queue.proofs.Blocks.{told-none, told-next}
use Rattle.sv_queue.proofs.WrittenObjects.{read_known, writes_before-zero, writes_before_all}
use Rattle.sv_queue.proofs.written.tell_blocks.Goals as goal
use Rattle.sv_queue.proofs.written.tell_blocks.Goals.{in-Some, in_default}

pub loop-slot-init : goal.loop-slot-init
loop-slot-init c = rw (writes_before-zero c.args.action.now) (told-none c.args.slots.now.slots c.args.blocks.now.items)

pub join-requires : goal.join-requires
join-requires c s has =
    let blocks = c.args.blocks.now.items in
    let x = c.in-Some.object.0 in
    let known = read_known c.args.action.now c.loop-slot.slot x (64 * length blocks) c.requires.can (omega arith) c.in-Some.ensures.read in
    let low : x / 64 < length blocks = omega (arith, known) in
    let read = get_or_read c.loop-slot.blocks.items (x / 64) c.index_mut-block.result.now (omega (arith, low, c.loop-slot.invariant.count)) c.index_mut-block.ensures.value no_slots in
    let same = c.loop-slot.invariant.room (x / 64) low in
    let room = c.requires.room (x / 64) no_slots low s has in
    let here = ap (λ (r : SlotSet). r.room) read in
    omega (arith, same, room, here)

pub loop-slot-preserved : goal.loop-slot-preserved
loop-slot-preserved c =
    let a = c.args.action.now in
    let n = c.loop-slot.slot in
    let slots = c.args.slots.now.slots in
    let old = c.args.blocks.now.items in
    let now = c.loop-slot.blocks.items in
    elim c.match-written_at.branch [
      | in-Some w ↦
          let x = w.in-Some.object.0 in
          let known = read_known a n x (64 * length old) c.requires.can (omega arith) w.in-Some.ensures.read in
          let low : x / 64 < length old = omega (arith, known) in
          let read = get_or_read now (x / 64) w.index_mut-block.result.now (omega (arith, low, c.loop-slot.invariant.count)) w.index_mut-block.ensures.value no_slots in
          rw (w.in-Some.ensures.next, ap (λ v. v.items) w.blocks-is) (told-next (writes_before a n) slots old now x w.join.new.self c.loop-slot.invariant low (w.join.ensures ∙ ap (set_joined slots) read))
      | in_default w ↦ rw (w.in_default.ensures.next, append-nil (writes_before a n), ap (λ v. v.items) w.blocks-is) c.loop-slot.invariant
    ]

pub returns : goal.returns
returns c =
    let done : c.loop-slot.slot ≡ length c.args.action.now.reads = omega arith in
    rw (← writes_before_all c.args.action.now, ← done) c.loop-slot.invariant
