-- What the check leaves to prove of `Queue::entry`.
use Rattle.std.proofs.Common.{◌≡◌, ◌-◌, ◌<◌, length, get_or, ◌∙◌, sym, ap, subst, arith}
use Rattle.std.proofs.lemmas.List.{get_or-map}
use Rattle.sv_world.specs.declared.action.Action.{Action}
use Rattle.sv_world.specs.declared.world.Shape.{Shape}
use Rattle.sv_world.specs.Control.{action_at, blank}
use Rattle.sv_world.specs.Faults.{IsGoodAction}
use Rattle.sv_queue.specs.Marks.{all_queued}
use Rattle.sv_queue.specs.Queue.{Queued, QueueView, entry_actions, no_entry, queue_actions}
use Rattle.sv_queue.proofs.SourceLists.{action_above}
use Rattle.sv_queue.proofs.Waits.{queued_count, read_queued}
use Rattle.sv_queue.proofs.queue.Queue.entry.Goals as goal

pub returns-clause-placed : goal.returns-clause-placed
returns-clause-placed g c =
    let a = c.self.inside in
    let ws = a.entries.items in
    let es = all_queued ws in
    let place = c.args.pos - a.commit - 1 in
    let commit = ap (λ (v : QueueView). v.commit) c.self.view_is in
    let count = ap (λ (v : QueueView). length v.entries) c.self.view_is in
    let within : place < length ws = omega (arith, commit, count, queued_count ws) in
    ap (λ (e : Queued). e.action) (read_queued ws place c.index-entry.result.now within c.index-entry.ensures)
    ∙ sym (get_or-map (λ (e : Queued). e.action) es place no_entry blank (omega (arith, within, queued_count ws)))
    ∙ sym (action_above a.commit (entry_actions es) c.args.pos (omega (arith, commit)))
    ∙ ap (λ (v : QueueView). action_at (queue_actions v) c.args.pos) c.self.view_is

pub returns-clause-good : goal.returns-clause-good
returns-clause-good g c =
    let a = c.self.inside in
    let ws = a.entries.items in
    let place = c.args.pos - a.commit - 1 in
    let commit = ap (λ (v : QueueView). v.commit) c.self.view_is in
    let count = ap (λ (v : QueueView). length v.entries) c.self.view_is in
    let within : place < length ws = omega (arith, commit, count, queued_count ws) in
    let good = (c.self.invariant.agree.good place no_entry (omega (arith, within, queued_count ws))).action in
    subst (λ (s : Shape). IsGoodAction s c.index-entry.result.now.action) (ap (λ (v : QueueView). v.shape) c.self.view_is)
    (subst (λ (b : Action). IsGoodAction a.shape b) (sym (ap (λ (e : Queued). e.action) (read_queued ws place c.index-entry.result.now within c.index-entry.ensures))) good)
