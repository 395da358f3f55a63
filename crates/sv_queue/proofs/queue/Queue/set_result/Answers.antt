-- What the check leaves to prove of `Queue::set_result`.
use Rattle.std.proofs.Common.{◌≡◌, ◌-◌, ◌<◌, ◌∙◌, List, length, get_or, set, ℤ, Some, sym, ap, subst, arith}
use Rattle.sv_world.specs.Sets.{write_set}
use Rattle.sv_world.specs.declared.action.Action.{Action}
use Rattle.sv_world.specs.Worlds.{HaveAttrs}
use Rattle.sv_queue.specs.declared.waiting.WaitingAction.{WaitingAction}
use Rattle.sv_queue.specs.Invariant.{HaveSources, IsGoodEntry, model_of, slots_in}
use Rattle.sv_queue.specs.Marks.{all_queued, queued_of}
use Rattle.sv_queue.specs.Queue.{Queued, QueueView, entry_at, no_entry, with_result}
use Rattle.sv_queue.proofs.Kept.{agree_with_entry}
use Rattle.sv_queue.proofs.SourceLists.{actions-set}
use Rattle.sv_queue.proofs.Waits.{queued_count, read_queued, queued-set, marks-same}
use Rattle.sv_queue.proofs.queue.Queue.set_result.Goals as goal

pub invariant_of-self : goal.invariant_of-self
invariant_of-self c =
    let a = c.self.inside in
    let ws = a.entries.items in
    let es = all_queued ws in
    let i = c.args.pos - a.commit - 1 in
    let w = c.index_mut-entry.result.now in
    let values = c.from_vec.result in
    let new' : WaitingAction = record w { result = Some values } in
    let commit = ap (λ (v : QueueView). v.commit) c.self.view_is in
    let many = ap (λ (v : QueueView). length v.entries) c.self.view_is in
    let within : i < length ws = omega (arith, commit, many, queued_count ws) in
    let is : queued_of w ≡ get_or es i no_entry = read_queued ws i w within c.index_mut-entry.ensures.value in
    let good : IsGoodEntry a.shape (queued_of w) = subst (IsGoodEntry a.shape) (sym is) (c.self.invariant.agree.good i no_entry (omega (arith, within, queued_count ws))) in
    let seen : queued_of w ≡ entry_at c.args.self.now c.args.pos = is ∙ ap (λ (v : QueueView). entry_at v c.args.pos) c.self.view_is in
    let count : length values ≡ length (write_set w.action) =
    ap length c.from_vec.ensures ∙ c.requires.count ∙ ap (λ (d : Queued). length (write_set d.action)) (sym seen) in
    let attrs : HaveAttrs a.shape values = rw (c.from_vec.ensures, ap (λ (v : QueueView). v.shape) c.self.view_is) c.requires.attrs in
    let same : w.action ≡ (get_or es i no_entry).action = ap (λ (d : Queued). d.action) is in
    record {
      agree = rw (queued-set ws i new') (agree_with_entry a.shape a.commit a.committed es a.writers (slots_in a.given.items) i (queued_of new') c.self.invariant.agree same
          (record { action = good.action; values = count; attrs = attrs }));
      sources = rw (queued-set ws i new') (subst (λ (bs : List Action). HaveSources a.commit bs a.sources.items) (sym (actions-set es i (queued_of new') same)) c.self.invariant.sources);
      room = record {
        limit = c.self.invariant.room.limit;
        marks = rw (marks-same ws i w (Some values) within c.index_mut-entry.ensures.value) c.self.invariant.room.marks;
        given = c.self.invariant.room.given;
      };
      cover = c.self.invariant.cover;
    }

pub returns : goal.returns
returns c =
    let a = c.self.inside in
    let ws = a.entries.items in
    let es = all_queued ws in
    let i = c.args.pos - a.commit - 1 in
    let w = c.index_mut-entry.result.now in
    let new' : WaitingAction = record w { result = Some c.from_vec.result } in
    let commit = ap (λ (v : QueueView). v.commit) c.self.view_is in
    let many = ap (λ (v : QueueView). length v.entries) c.self.view_is in
    let within : i < length ws = omega (arith, commit, many, queued_count ws) in
    let is : queued_of w ≡ get_or es i no_entry = read_queued ws i w within c.index_mut-entry.ensures.value in
    ap (λ (ds : List Queued). record (model_of a) { entries = ds })
    (queued-set ws i new' ∙ ap (set es i) (ap (λ (vs : List (List ℤ)). record (queued_of w) { result = Some vs }) c.from_vec.ensures ∙ ap (λ (d : Queued). record d { result = Some c.args.values.items }) is))
    ∙ ap (λ (v : QueueView). with_result v c.args.pos c.args.values.items) c.self.view_is
