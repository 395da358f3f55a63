-- What the check leaves to prove of `Queue::writer_below`.
use Rattle.std.proofs.Common.{arith, sym, subst, ℕ, List, ◌∙◌, ap}
use Rattle.sv_queue.specs.Positions.{IsAscending, greatest_below}
use Rattle.sv_queue.specs.Marks.{all_queued}
use Rattle.sv_queue.specs.Queue.{QueueView, queue_actions}
use Rattle.sv_world.specs.Control.{last_writer}
use Rattle.sv_queue.proofs.Entries.{writers_above_ascend, greatest_below-writers}
use Rattle.sv_queue.proofs.queue.Queue.writer_below.Goals as goal

pub last_below-requires-clause-ascending : goal.last_below-requires-clause-ascending
last_below-requires-clause-ascending c =
    let a = c.self.inside in
    let P : List ℕ → Type 0 = IsAscending in
    subst P (sym (c.self.invariant.agree.indexed c.args.object.0 (omega (arith, ap (λ (v : QueueView). v.shape.objects) c.self.view_is)))) (writers_above_ascend a.commit (all_queued a.entries.items) c.args.object.0)

pub returns : goal.returns
returns c =
    let a = c.self.inside in
    c.last_below.ensures
    ∙ ap (λ xs. greatest_below xs c.args.below) (c.self.invariant.agree.indexed c.args.object.0 (omega (arith, ap (λ (v : QueueView). v.shape.objects) c.self.view_is)))
    ∙ greatest_below-writers a.commit (all_queued a.entries.items) c.args.object.0 c.args.below
    ∙ ap (λ v. last_writer (queue_actions v) c.args.object.0 c.args.below) c.self.view_is
