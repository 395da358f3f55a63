-- What the check leaves to prove of `Queue::set_given`.
use Rattle.std.proofs.Common.{ℕ, ◌/◌, ◌<◌, ◌∙◌, List, length, sym, ap, subst, arith}
use Rattle.std.proofs.lemmas.List.{get_or_read}
use Rattle.sv_eval.proofs.Lists.{all_set}
use Rattle.sv_queue.specs.Invariant.{SetHasRoom, model_of, slots_in}
use Rattle.sv_queue.specs.Marks.{all_queued}
use Rattle.sv_queue.specs.Queue.{QueueView, with_given}
use Rattle.sv_queue.specs.Slots.{SlotSet, no_slots, set_with, with_slot}
use Rattle.sv_queue.proofs.Blocks.{blocks-with}
use Rattle.sv_queue.proofs.Installs.{pairs_of-add}
use Rattle.sv_queue.proofs.Kept.{agree_with_row}
use Rattle.sv_queue.proofs.Waits.{read_row, rows_count, rows-set, room_with, room_at}
use Rattle.sv_queue.proofs.queue.Queue.set_given.Goals as goal

pub add-requires : goal.add-requires
add-requires c =
    let a = c.self.inside in
    let rows = a.given.items in
    let low : c.args.object.0 < a.shape.objects = omega (arith, ap (λ (v : QueueView). v.shape.objects) c.self.view_is) in
    let within : c.args.object.0 < length rows = omega (arith, low, c.self.invariant.agree.given, rows_count rows) in
    let room = ap (λ (v : QueueView). v.room) c.self.view_is in
    let has = room_at a.room rows c.args.object.0 c.index_mut-row.result.now c.self.invariant.room.given within c.index_mut-row.ensures.value in
    let enough = has.enough in
    omega (arith, room, enough, c.requires.slot)

pub add-requires-2 : goal.add-requires-2
add-requires-2 c =
    let a = c.self.inside in
    let blocks = a.blocks.items in
    let x = c.args.object.0 in
    let low : x < a.shape.objects = omega (arith, ap (λ (v : QueueView). v.shape.objects) c.self.view_is) in
    let within : x < length a.given.items = omega (arith, low, c.self.invariant.agree.given, rows_count a.given.items) in
    let there : x / 64 < length blocks = omega (arith, within, c.self.invariant.cover.count) in
    let room = ap (λ (v : QueueView). v.room) c.self.view_is in
    let read = get_or_read blocks (x / 64) c.index_mut-block.result.now there c.index_mut-block.ensures.value no_slots in
    let enough = c.self.invariant.cover.enough (x / 64) no_slots there in
    let here = ap (λ (r : SlotSet). r.room) read in
    omega (arith, room, enough, here, c.requires.slot)

pub invariant_of-self : goal.invariant_of-self
invariant_of-self c =
    let a = c.self.inside in
    let rows = a.given.items in
    let x = c.args.object.0 in
    let low : x < a.shape.objects = omega (arith, ap (λ (v : QueueView). v.shape.objects) c.self.view_is) in
    let within : x < length rows = omega (arith, low, c.self.invariant.agree.given, rows_count rows) in
    let blocks = a.blocks.items in
    let there : x / 64 < length blocks = omega (arith, within, c.self.invariant.cover.count) in
    let room = ap (λ (v : QueueView). v.room) c.self.view_is in
    let small : c.args.slot < a.room = omega (arith, room, c.requires.slot) in
    let has = subst (SetHasRoom a.room) (sym c.add.ensures) (room_with a.room c.args.slot c.index_mut-row.result.now (room_at a.room rows x c.index_mut-row.result.now c.self.invariant.room.given within c.index_mut-row.ensures.value) small) in
    record {
      agree = rw (rows-set rows x c.add.new.self) (agree_with_row a.shape a.commit a.committed (all_queued a.entries.items) a.writers (slots_in rows) x c.add.new.self.slots c.self.invariant.agree);
      sources = c.self.invariant.sources;
      room = record {
        limit = c.self.invariant.room.limit;
        marks = c.self.invariant.room.marks;
        given = all_set (SetHasRoom a.room) rows x c.add.new.self c.self.invariant.room.given has;
      };
      cover = blocks-with a.room c.args.slot x rows blocks c.add.new.self c.add-2.new.self c.self.invariant.cover c.self.invariant.room.given c.self.invariant.room.limit within
          (c.add.ensures ∙ ap (set_with c.args.slot) (get_or_read rows x c.index_mut-row.result.now within c.index_mut-row.ensures.value no_slots))
          (c.add-2.ensures ∙ ap (set_with c.args.slot) (get_or_read blocks (x / 64) c.index_mut-block.result.now there c.index_mut-block.ensures.value no_slots));
    }

pub returns : goal.returns
returns c =
    let a = c.self.inside in
    let x = c.args.object.0 in
    let s = c.args.slot in
    let rows = a.given.items in
    let low : x < a.shape.objects = omega (arith, ap (λ (v : QueueView). v.shape.objects) c.self.view_is) in
    let within : x < length rows = omega (arith, low, c.self.invariant.agree.given, rows_count rows) in
    let read = read_row rows x c.index_mut-row.result.now within c.index_mut-row.ensures.value in
    ap (λ (given : List (ℕ × ℕ)). record (model_of a) { given = given })
    (rw (rows-set rows x c.add.new.self) (pairs_of-add a.shape.objects (slots_in rows) x s c.add.new.self.slots c.self.invariant.agree.given low (ap (λ (r : SlotSet). r.slots) c.add.ensures ∙ ap (with_slot s) read)))
    ∙ ap (λ (v : QueueView). with_given v x s) c.self.view_is
