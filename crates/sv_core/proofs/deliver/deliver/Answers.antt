-- What the check leaves to prove of `deliver`.
use Rattle.std.proofs.Common.{◌≡◌, ℕ, ◌<◌, List, All, sym, ◌∙◌, ap, subst}
use Rattle.sv_world.specs.declared.world.Shape.{Shape}
use Rattle.sv_wire.specs.declared.message.ObjectValue.{ObjectValue}
use Rattle.sv_queue.specs.Queue.{QueueView}
use Rattle.sv_core.proofs.FitMarks.{shape-marked, room-marked}
use Rattle.sv_core.proofs.deliver.deliver.Goals as goal

pub give_all-requires-clause-objects : goal.give_all-requires-clause-objects
give_all-requires-clause-objects c =
    let shape : c.mark_all.new.queue.shape.objects ≡ c.args.queue.now.shape.objects =
    ap (λ (v : QueueView). v.shape.objects) c.mark_all.ensures ∙ ap (λ (d : Shape). d.objects) (shape-marked c.args.queue.now c.as_slice.result.now c.args.slot) in
    subst (λ (xs : List ObjectValue). All (λ (x : ObjectValue). x.object.0 < c.mark_all.new.queue.shape.objects) xs) (sym c.as_slice-2.ensures)
    (subst (λ (n : ℕ). All (λ (x : ObjectValue). x.object.0 < n) c.args.relayed.now.head) (sym shape) c.requires.objects)

pub give_all-requires-clause-slot : goal.give_all-requires-clause-slot
give_all-requires-clause-slot c =
    subst (λ (n : ℕ). c.args.slot < n) (sym (ap (λ (v : QueueView). v.room) c.mark_all.ensures ∙ room-marked c.args.queue.now c.as_slice.result.now c.args.slot)) c.requires.slot
