-- What the check leaves to prove of `forget_marks`.
use Rattle.std.proofs.Common.{◌≡◌, ◌<◌, ◌∙◌, List, length, set, get_or, ap, ap₂, arith}
use Rattle.std.proofs.lemmas.List.{get_or_read}
use Rattle.sv_queue.specs.declared.waiting.WaitingAction.{WaitingAction}
use Rattle.sv_queue.specs.Marks.{waiting_but}
use Rattle.sv_queue.specs.Slots.{SlotSet, no_slots, set_but}
use Rattle.sv_queue.proofs.Waits.{no_waiting, mapped-next, left-at, mapped_count}
use Rattle.sv_queue.proofs.rooms.forget_marks.Goals as goal

pub loop-place-preserved : goal.loop-place-preserved
loop-place-preserved c =
    let xs = c.args.entries.now.items in
    let now = c.loop-place.entries.items in
    let n = c.loop-place.place in
    let low : n < length xs = omega (arith, c.loop-place-test.true, c.len-place-end.ensures, c.args.entries.now.ok.0) in
    let within : n < length now = omega (arith, low, ap length c.loop-place.invariant, mapped_count (waiting_but c.args.slot) xs n) in
    let read = get_or_read now n c.index_mut-entry.result.now within c.index_mut-entry.ensures.value no_waiting in
    let left = ap (λ (ys : List WaitingAction). get_or ys n no_waiting) c.loop-place.invariant ∙ left-at (waiting_but c.args.slot) no_waiting xs n low in
    ap₂ (λ (ys : List WaitingAction) (y : WaitingAction). set ys n y) c.loop-place.invariant (ap (λ (m : SlotSet). record c.index_mut-entry.result.now { marks = m }) c.remove.ensures ∙ ap (waiting_but c.args.slot) (read ∙ left))
    ∙ mapped-next (waiting_but c.args.slot) no_waiting xs n low
