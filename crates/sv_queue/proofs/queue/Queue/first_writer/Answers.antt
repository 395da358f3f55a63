-- What the check leaves to prove of `Queue::first_writer`.
use Rattle.std.proofs.Common.{◌<◌, ◌∙◌, ℕ, List, IfSome, IfNone, slice_get, ap, subst, arith}
use Rattle.sv_queue.specs.Marks.{all_queued}
use Rattle.sv_queue.specs.Queue.{IsFirstWriter, IsUnwritten, QueueView, queue_actions}
use Rattle.sv_queue.proofs.Entries.{first_of_writers, first_uncommitted, none_of_writers}
use Rattle.sv_queue.proofs.queue.Queue.first_writer.Goals as goal

pub returns-clause-writer : goal.returns-clause-writer
returns-clause-writer g c =
    let a = c.self.inside in
    let x = c.args.object.0 in
    let low : x < a.shape.objects = omega (arith, ap (λ (v : QueueView). v.shape.objects) c.self.view_is) in
    subst (λ (v : QueueView). IfSome c.first.result (λ pos. IsFirstWriter (queue_actions v) x pos)) c.self.view_is
    (first_of_writers a.commit (all_queued a.entries.items) x c.first.result (c.first.ensures ∙ ap (λ (xs : List ℕ). slice_get xs 0) (c.self.invariant.agree.indexed x low)))

pub returns-clause-uncommitted : goal.returns-clause-uncommitted
returns-clause-uncommitted g c =
    let a = c.self.inside in
    let x = c.args.object.0 in
    let low : x < a.shape.objects = omega (arith, ap (λ (v : QueueView). v.shape.objects) c.self.view_is) in
    subst (λ (v : QueueView). IfSome c.first.result (λ pos. v.commit < pos)) c.self.view_is
    (first_uncommitted a.commit (all_queued a.entries.items) x c.first.result (c.first.ensures ∙ ap (λ (xs : List ℕ). slice_get xs 0) (c.self.invariant.agree.indexed x low)))

pub returns-clause-none : goal.returns-clause-none
returns-clause-none g c =
    let a = c.self.inside in
    let x = c.args.object.0 in
    let low : x < a.shape.objects = omega (arith, ap (λ (v : QueueView). v.shape.objects) c.self.view_is) in
    subst (λ (v : QueueView). IfNone c.first.result (IsUnwritten (queue_actions v) x)) c.self.view_is
    (none_of_writers a.commit (all_queued a.entries.items) x c.first.result (c.first.ensures ∙ ap (λ (xs : List ℕ). slice_get xs 0) (c.self.invariant.agree.indexed x low)))
