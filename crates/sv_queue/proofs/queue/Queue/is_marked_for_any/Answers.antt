-- What the check leaves to prove of `Queue::is_marked_for_any`.
use Rattle.std.proofs.Common.{ℕ, ◌-◌, ◌<◌, length, ◌∙◌, sym, ap, arith}
use Rattle.std.specs.List.{list_any}
use Rattle.sv_world.specs.Control.{is_in}
use Rattle.sv_queue.specs.Marks.{all_queued}
use Rattle.sv_queue.specs.Queue.{Queued, QueueView, entry_at, sent_positions}
use Rattle.sv_queue.proofs.Entries.{in_marked}
use Rattle.sv_queue.proofs.Waits.{queued_count, read_queued, any-ext}
use Rattle.sv_queue.proofs.queue.Queue.is_marked_for_any.Goals as goal

pub returns-clause-in_marks : goal.returns-clause-in_marks
returns-clause-in_marks g c =
    let a = c.self.inside in
    let ws = a.entries.items in
    let place = c.args.pos - a.commit - 1 in
    let commit = ap (λ (v : QueueView). v.commit) c.self.view_is in
    let count = ap (λ (v : QueueView). length v.entries) c.self.view_is in
    let within : place < length ws = omega (arith, commit, count, queued_count ws) in
    c.meets.ensures
    ∙ ap (λ (e : Queued). list_any (λ s. is_in s e.marks) c.args.slots.now.slots) (read_queued ws place c.index-entry.result.now within c.index-entry.ensures)
    ∙ ap (λ (v : QueueView). list_any (λ s. is_in s (entry_at v c.args.pos).marks) c.args.slots.now.slots) c.self.view_is

pub returns-clause-marked : goal.returns-clause-marked
returns-clause-marked g c =
    let a = c.self.inside in
    let ws = a.entries.items in
    let place = c.args.pos - a.commit - 1 in
    let commit = ap (λ (v : QueueView). v.commit) c.self.view_is in
    let count = ap (λ (v : QueueView). length v.entries) c.self.view_is in
    let within : place < length ws = omega (arith, commit, count, queued_count ws) in
    c.meets.ensures
    ∙ ap (λ (e : Queued). list_any (λ s. is_in s e.marks) c.args.slots.now.slots) (read_queued ws place c.index-entry.result.now within c.index-entry.ensures)
    ∙ any-ext _ _ c.args.slots.now.slots (λ s. sym (in_marked a.commit (all_queued ws) s c.args.pos (omega (arith, commit))))
    ∙ ap (λ (v : QueueView). list_any (λ s. is_in c.args.pos (sent_positions v s)) c.args.slots.now.slots) c.self.view_is
