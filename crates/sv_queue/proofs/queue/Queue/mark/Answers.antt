-- What the check leaves to prove of `Queue::mark`.
use Rattle.std.proofs.Common.{◌≡◌, ◌-◌, ◌<◌, ◌∙◌, List, length, get_or, set, sym, ap, subst, arith}
use Rattle.std.proofs.lemmas.List.{length-map}
use Rattle.sv_world.specs.declared.action.Action.{Action}
use Rattle.sv_eval.proofs.Lists.{all_set}
use Rattle.sv_queue.specs.declared.waiting.WaitingAction.{WaitingAction}
use Rattle.sv_queue.specs.Invariant.{HaveSources, SetHasRoom, IsGoodEntry, model_of}
use Rattle.sv_queue.specs.Marks.{all_queued, marks_of, queued_of}
use Rattle.sv_queue.specs.Queue.{Queued, QueueView, no_entry, with_mark}
use Rattle.sv_queue.specs.Slots.{SlotSet, no_slots, with_slot}
use Rattle.sv_queue.specs.Invariant.{slots_in}
use Rattle.sv_queue.proofs.Kept.{agree_with_entry}
use Rattle.sv_queue.proofs.SourceLists.{actions-set}
use Rattle.sv_queue.proofs.Waits.{queued_count, read_queued, read_marks, queued-set, marks-set, room_with}
use Rattle.sv_queue.proofs.queue.Queue.mark.Goals as goal

pub add-requires : goal.add-requires
add-requires c =
    let a = c.self.inside in
    let ws = a.entries.items in
    let i = c.args.pos - a.commit - 1 in
    let commit = ap (λ (v : QueueView). v.commit) c.self.view_is in
    let room = ap (λ (v : QueueView). v.room) c.self.view_is in
    let count = ap (λ (v : QueueView). length v.entries) c.self.view_is in
    let within : i < length ws = omega (arith, commit, count, queued_count ws) in
    let is = read_marks ws i c.index_mut-entry.result.now within c.index_mut-entry.ensures.value in
    let has = c.self.invariant.room.marks i no_slots (omega (arith, within, length-map ws (λ (v : WaitingAction). v.marks))) in
    let enough = has.enough in
    let same = ap (λ (r : SlotSet). r.room) is in
    omega (arith, room, enough, same, c.requires.slot)

pub invariant_of-self : goal.invariant_of-self
invariant_of-self c =
    let a = c.self.inside in
    let ws = a.entries.items in
    let es = all_queued ws in
    let i = c.args.pos - a.commit - 1 in
    let w = c.index_mut-entry.result.now in
    let new' : WaitingAction = record w { marks = c.add.new.self } in
    let value = c.index_mut-entry.ensures.value in
    let commit = ap (λ (v : QueueView). v.commit) c.self.view_is in
    let room = ap (λ (v : QueueView). v.room) c.self.view_is in
    let count = ap (λ (v : QueueView). length v.entries) c.self.view_is in
    let within : i < length ws = omega (arith, commit, count, queued_count ws) in
    let is : queued_of w ≡ get_or es i no_entry = read_queued ws i w within value in
    let good : IsGoodEntry a.shape (queued_of w) = subst (IsGoodEntry a.shape) (sym is) (c.self.invariant.agree.good i no_entry (omega (arith, within, queued_count ws))) in
    let same : w.action ≡ (get_or es i no_entry).action = ap (λ (d : Queued). d.action) is in
    let low : c.args.slot < a.room = omega (arith, room, c.requires.slot) in
    let had : SetHasRoom a.room w.marks = subst (SetHasRoom a.room) (sym (read_marks ws i w within value)) (c.self.invariant.room.marks i no_slots (omega (arith, within, length-map ws (λ (v : WaitingAction). v.marks)))) in
    let has : SetHasRoom a.room c.add.new.self = subst (SetHasRoom a.room) (sym c.add.ensures) (room_with a.room c.args.slot w.marks had low) in
    record {
      agree = rw (queued-set ws i new') (agree_with_entry a.shape a.commit a.committed es a.writers (slots_in a.given.items) i (queued_of new') c.self.invariant.agree same
          (record { action = good.action; values = good.values; attrs = good.attrs }));
      sources = rw (queued-set ws i new') (subst (λ (bs : List Action). HaveSources a.commit bs a.sources.items) (sym (actions-set es i (queued_of new') same)) c.self.invariant.sources);
      room = record {
        limit = c.self.invariant.room.limit;
        marks = rw (marks-set ws i new') (all_set (SetHasRoom a.room) (marks_of ws) i c.add.new.self c.self.invariant.room.marks has);
        given = c.self.invariant.room.given;
      };
      cover = c.self.invariant.cover;
    }

pub returns : goal.returns
returns c =
    let a = c.self.inside in
    let ws = a.entries.items in
    let es = all_queued ws in
    let i = c.args.pos - a.commit - 1 in
    let w = c.index_mut-entry.result.now in
    let new' : WaitingAction = record w { marks = c.add.new.self } in
    let commit = ap (λ (v : QueueView). v.commit) c.self.view_is in
    let count = ap (λ (v : QueueView). length v.entries) c.self.view_is in
    let within : i < length ws = omega (arith, commit, count, queued_count ws) in
    let is : queued_of w ≡ get_or es i no_entry = read_queued ws i w within c.index_mut-entry.ensures.value in
    ap (λ (ds : List Queued). record (model_of a) { entries = ds })
    (queued-set ws i new' ∙ ap (set es i) (ap (λ (m : SlotSet). record (queued_of w) { marks = m.slots }) c.add.ensures ∙ ap (λ (d : Queued). record d { marks = with_slot c.args.slot d.marks }) is))
    ∙ ap (λ (v : QueueView). with_mark v c.args.pos c.args.slot) c.self.view_is
