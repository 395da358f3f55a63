-- What the check leaves to prove of `closure`.
use Rattle.std.proofs.Common.{◌≡◌, ℕ, ◌<◌, List, map, sym, ◌∙◌, ap, subst, arith}
use Rattle.std.specs.Prelude.{IfOk}
use Rattle.sv_world.specs.declared.world.ObjectId.{ObjectId}
use Rattle.sv_world.specs.declared.world.Shape.{Shape}
use Rattle.sv_world.proofs.Bases.{head_for-iff}
use Rattle.sv_world.proofs.Members.{all-members}
use Rattle.sv_queue.specs.Queue.{queue_actions, sent_positions, given_objects}
use Rattle.sv_influence.proofs.Growth.{bases-same}
use Rattle.sv_influence.proofs.lacking.closure.Goals as goal

pub listed-requires : goal.listed-requires
listed-requires g c =
    let v = c.args.queue.now in
    let few = c.shape-shape.ensures.limits.few_objects in
    let is = c.shape-shape.ensures.value in
    all-members (λ x. x < 65536) c.in_ok-found.found.bases
    (λ x m.
    let low : x < v.shape.objects =
    ((head_for-iff v.shape.objects (queue_actions v) v.commit (sent_positions v c.args.slot) (given_objects v c.args.slot) c.args.pos x).0 (sym (c.in_ok-found.ensures.bases x) ∙ m)).0 in
    let same : c.shape-shape.result.objects ≡ v.shape.objects = ap (λ (shape : Shape). shape.objects) is in
    omega arith)

pub returns-clause-head : goal.returns-clause-head
returns-clause-head g c =
    let v = c.args.queue.now in
    subst (λ (xs : List ℕ). IfOk c.listed.result (λ r. map (λ (o : ObjectId). o.0) r.head ≡ xs))
    (bases-same v.shape.objects (queue_actions v) v.commit (sent_positions v c.args.slot) (given_objects v c.args.slot) c.in_ok-found.found.bases c.args.pos
    c.listed.ensures.ascending c.in_ok-found.ensures.bases)
    c.listed.ensures.head
