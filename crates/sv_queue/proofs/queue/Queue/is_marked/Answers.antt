-- What the check leaves to prove of `Queue::is_marked`.
use Rattle.std.proofs.Common.{◌-◌, ◌<◌, length, ◌∙◌, sym, ap, arith}
use Rattle.sv_world.specs.Control.{is_in}
use Rattle.sv_queue.specs.Marks.{all_queued}
use Rattle.sv_queue.specs.Queue.{Queued, QueueView, entry_at, sent_positions}
use Rattle.sv_queue.proofs.Entries.{in_marked}
use Rattle.sv_queue.proofs.Waits.{queued_count, read_queued}
use Rattle.sv_queue.proofs.queue.Queue.is_marked.Goals as goal

pub returns-clause-marked : goal.returns-clause-marked
returns-clause-marked g c =
    let a = c.self.inside in
    let ws = a.entries.items in
    let place = c.args.pos - a.commit - 1 in
    let commit = ap (λ (v : QueueView). v.commit) c.self.view_is in
    let count = ap (λ (v : QueueView). length v.entries) c.self.view_is in
    let within : place < length ws = omega (arith, commit, count, queued_count ws) in
    c.has.ensures
    ∙ ap (λ (e : Queued). is_in c.args.slot e.marks) (read_queued ws place c.index-entry.result.now within c.index-entry.ensures)
    ∙ sym (in_marked a.commit (all_queued ws) c.args.slot c.args.pos (omega (arith, commit)))
    ∙ ap (λ (v : QueueView). is_in c.args.pos (sent_positions v c.args.slot)) c.self.view_is

pub returns-clause-in_marks : goal.returns-clause-in_marks
returns-clause-in_marks g c =
    let a = c.self.inside in
    let ws = a.entries.items in
    let place = c.args.pos - a.commit - 1 in
    let commit = ap (λ (v : QueueView). v.commit) c.self.view_is in
    let count = ap (λ (v : QueueView). length v.entries) c.self.view_is in
    let within : place < length ws = omega (arith, commit, count, queued_count ws) in
    c.has.ensures
    ∙ ap (λ (e : Queued). is_in c.args.slot e.marks) (read_queued ws place c.index-entry.result.now within c.index-entry.ensures)
    ∙ ap (λ (v : QueueView). is_in c.args.slot (entry_at v c.args.pos).marks) c.self.view_is
