-- What the check leaves to prove of `make_marks_room`.
use Rattle.std.proofs.Common.{◌≡◌, ℕ, ◌+◌, ◌<◌, ◌≤◌, ◌∙◌, List, length, get_or, sym, ap, subst, arith}
use Rattle.std.proofs.lemmas.List.{length-map}
use Rattle.sv_queue.specs.declared.waiting.WaitingAction.{WaitingAction}
use Rattle.sv_queue.specs.Marks.{all_queued, marks_of}
use Rattle.sv_queue.specs.Rooms.{HaveGrown}
use Rattle.sv_queue.specs.Slots.{SlotSet, no_slots}
use Rattle.sv_queue.proofs.Waits.{queued_count, queued-kept, read_marks, marks-set, grown-set, room-next}
use Rattle.sv_queue.proofs.rooms.make_marks_room.Goals as goal

pub returns-in_err-make_room-clause-queued : goal.returns-in_err-make_room-clause-queued
returns-in_err-make_room-clause-queued c =
    let ws = c.loop-place.entries.items in
    let old = c.args.entries.now.items in
    let n = c.loop-place.place in
    let w = c.index_mut-entry.result.now in
    let new' : WaitingAction = record w { marks = c.make_room.new.self } in
    let value = c.index_mut-entry.ensures.value in
    let low : n < length old = omega (arith, c.loop-place-test.true, c.len-place-end.ensures, c.args.entries.now.ok.0) in
    let within : n < length ws = omega (arith, low, queued_count ws, queued_count old, ap length c.loop-place.invariant.queued) in
    let same = c.make_room.ensures.slots ∙ ap (λ (r : SlotSet). r.slots) (read_marks ws n w within value) in
    let more : (get_or (marks_of ws) n no_slots).room ≤ c.make_room.new.self.room = subst (λ (r : SlotSet). r.room ≤ c.make_room.new.self.room) (read_marks ws n w within value) c.make_room.ensures.room in
    let queued = queued-kept ws n w c.make_room.new.self within value c.make_room.ensures.slots ∙ c.loop-place.invariant.queued in
    queued

pub returns-in_err-make_room-clause-grown : goal.returns-in_err-make_room-clause-grown
returns-in_err-make_room-clause-grown c =
    let ws = c.loop-place.entries.items in
    let old = c.args.entries.now.items in
    let n = c.loop-place.place in
    let w = c.index_mut-entry.result.now in
    let new' : WaitingAction = record w { marks = c.make_room.new.self } in
    let value = c.index_mut-entry.ensures.value in
    let low : n < length old = omega (arith, c.loop-place-test.true, c.len-place-end.ensures, c.args.entries.now.ok.0) in
    let within : n < length ws = omega (arith, low, queued_count ws, queued_count old, ap length c.loop-place.invariant.queued) in
    let same = c.make_room.ensures.slots ∙ ap (λ (r : SlotSet). r.slots) (read_marks ws n w within value) in
    let more : (get_or (marks_of ws) n no_slots).room ≤ c.make_room.new.self.room = subst (λ (r : SlotSet). r.room ≤ c.make_room.new.self.room) (read_marks ws n w within value) c.make_room.ensures.room in
    let queued = queued-kept ws n w c.make_room.new.self within value c.make_room.ensures.slots ∙ c.loop-place.invariant.queued in
    let grown = subst (HaveGrown (marks_of old)) (sym (marks-set ws n new')) (grown-set (marks_of old) (marks_of ws) n c.make_room.new.self c.loop-place.invariant.grown (omega (arith, low, length-map old (λ (v : WaitingAction). v.marks))) same more) in
    grown

pub loop-place-preserved : goal.loop-place-preserved
loop-place-preserved c =
    let ws = c.loop-place.entries.items in
    let old = c.args.entries.now.items in
    let n = c.loop-place.place in
    let w = c.index_mut-entry.result.now in
    let new' : WaitingAction = record w { marks = c.make_room.new.self } in
    let value = c.index_mut-entry.ensures.value in
    let low : n < length old = omega (arith, c.loop-place-test.true, c.len-place-end.ensures, c.args.entries.now.ok.0) in
    let within : n < length ws = omega (arith, low, queued_count ws, queued_count old, ap length c.loop-place.invariant.queued) in
    let same = c.make_room.ensures.slots ∙ ap (λ (r : SlotSet). r.slots) (read_marks ws n w within value) in
    let more : (get_or (marks_of ws) n no_slots).room ≤ c.make_room.new.self.room = subst (λ (r : SlotSet). r.room ≤ c.make_room.new.self.room) (read_marks ws n w within value) c.make_room.ensures.room in
    let queued = queued-kept ws n w c.make_room.new.self within value c.make_room.ensures.slots ∙ c.loop-place.invariant.queued in
    let grown = subst (HaveGrown (marks_of old)) (sym (marks-set ws n new')) (grown-set (marks_of old) (marks_of ws) n c.make_room.new.self c.loop-place.invariant.grown (omega (arith, low, length-map old (λ (v : WaitingAction). v.marks))) same more) in
    record {
      queued = queued;
      grown = grown;
      enough = λ k small. subst (λ (rs : List SlotSet). c.args.room ≤ (get_or rs k no_slots).room) (sym (marks-set ws n new'))
          (room-next (marks_of ws) n c.args.room c.make_room.new.self (omega (arith, within, length-map ws (λ (v : WaitingAction). v.marks))) c.loop-place.invariant.enough c.in_ok-make_room.ensures.ok k small);
    }
