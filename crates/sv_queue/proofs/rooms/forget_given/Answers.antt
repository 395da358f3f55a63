-- What the check leaves to prove of `forget_given`.
use Rattle.std.proofs.Common.{◌≡◌, ◌+◌, ◌/◌, ◌<◌, ◌∙◌, nat_lt, List, length, set, get_or, sym, ap, subst, arith, false}
use Rattle.std.proofs.lemmas.List.{get_or_read, set-get_or}
use Rattle.sv_world.specs.Control.{is_in}
use Rattle.sv_queue.specs.Rooms.{AreWithout}
use Rattle.sv_queue.specs.Slots.{SlotSet, no_slots, set_but}
use Rattle.sv_queue.proofs.Blocks.{rows-forgotten, block-forgotten, rows-skipped, block-skipped, block-before, all-forgotten, all-blocks-forgotten}
use Rattle.sv_queue.proofs.rooms.forget_given.Goals as goal
use Rattle.sv_queue.proofs.rooms.forget_given.Goals.{then-has, else-has}

pub loop-place-preserved : goal.loop-place-preserved
loop-place-preserved c =
    let s = c.args.slot in
    let n = c.loop-place.place in
    let rows = c.loop-place.rows.items in
    let blocks = c.loop-place.blocks.items in
    let h = c.loop-place.invariant in
    let low : n < length c.args.blocks.now.items = omega (arith, c.loop-place-test.true, c.len-place-end.ensures, c.args.blocks.now.ok.0) in
    let within : n < length blocks = omega (arith, low, h.blocks.count) in
    let read = get_or_read blocks n c.index_mut-block.result.now within c.index_mut-block.ensures.value no_slots in
    elim c.if-has.branch [
      | then-has w ↦ record {
        rows = subst (λ (rs : List SlotSet). AreWithout s (λ x. nat_lt (x / 64) (n + 1)) c.args.rows.now.items rs) (sym (ap (λ v. v.items) w.rows-is))
            (rows-forgotten s n c.args.rows.now.items rows w.forget_in_block.new.rows.items h.rows w.forget_in_block.ensures);
        blocks = subst (λ (bs : List SlotSet). AreWithout s (λ b. nat_lt b (n + 1)) c.args.blocks.now.items bs) (sym (ap (λ v. v.items) w.blocks-is))
            (block-forgotten s n c.args.blocks.now.items blocks w.remove.new.self h.blocks low (w.remove.ensures ∙ ap (set_but s) read));
      }
      | else-has w ↦
          let none : is_in s (get_or c.args.blocks.now.items n no_slots).slots ≡ false =
          ap (λ (r : SlotSet). is_in s r.slots) (sym (read ∙ block-before s n c.args.blocks.now.items blocks h.blocks low)) ∙ sym c.has.ensures ∙ w.if-has.false in
          record {
            rows = subst (λ (rs : List SlotSet). AreWithout s (λ x. nat_lt (x / 64) (n + 1)) c.args.rows.now.items rs) (sym (ap (λ v. v.items) w.rows-is))
                (rows-skipped s n c.args.rows.now.items rows c.args.blocks.now.items h.rows c.requires none);
            blocks = subst (λ (bs : List SlotSet). AreWithout s (λ b. nat_lt b (n + 1)) c.args.blocks.now.items bs) (sym (ap (λ v. v.items) w.blocks-is ∙ ap (λ (r : SlotSet). set blocks n r) read ∙ set-get_or blocks n no_slots))
                (block-skipped s n c.args.blocks.now.items blocks h.blocks none);
          }
    ]

pub returns-clause-rows : goal.returns-clause-rows
returns-clause-rows c = all-forgotten c.args.slot c.loop-place.place c.args.rows.now.items c.loop-place.rows.items c.args.blocks.now.items c.loop-place.invariant.rows c.requires
    (omega (arith, c.loop-place-test.false, c.len-place-end.ensures, c.args.blocks.now.ok.0))

pub returns-clause-blocks : goal.returns-clause-blocks
returns-clause-blocks c = all-blocks-forgotten c.args.slot c.loop-place.place c.args.blocks.now.items c.loop-place.blocks.items c.loop-place.invariant.blocks
    (omega (arith, c.loop-place-test.false, c.len-place-end.ensures, c.args.blocks.now.ok.0))
