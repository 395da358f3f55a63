-- What the check leaves to prove of `cut`.
use Rattle.std.proofs.Common.{◌≡◌, ℕ, List, ◌∙◌, ap, subst, arith}
use Rattle.std.specs.Prelude.{IfOk}
use Rattle.sv_world.specs.Sets.{numbers_of}
use Rattle.sv_influence.specs.declared.answers.ConsistentCut.{ConsistentCut}
use Rattle.sv_influence.specs.Lacking.{lacking_to_see, bases_to_see}
use Rattle.sv_influence.proofs.Sights.{bases-low, bases_to_see-all, see-last, latest-bounds, latest-few}
use Rattle.sv_influence.proofs.cuts.cut.Goals as goal

-- ---- at the last position

pub cut_at-requires : goal.cut_at-requires
cut_at-requires g c =
    bases-low c.args.queue.now c.args.slot c.last-last.result (numbers_of c.args.objects.now) c.in-Some.found.bases (rw c.in-Some.is at c.in_ok-found.ensures.bases)

pub returns-in-Some-clause-last : goal.returns-in-Some-clause-last
returns-in-Some-clause-last g c =
    let e = see-last c.args.queue.now c.args.slot c.last-last.result (numbers_of c.args.objects.now) c.last-last.ensures (rw c.in-Some.is at c.in_ok-found.ensures.few) in
    subst (λ (n : ℕ). IfOk c.cut_at.result (λ (r : ConsistentCut). r.last ≡ n)) e c.cut_at.ensures.last

pub returns-in-Some-clause-items : goal.returns-in-Some-clause-items
returns-in-Some-clause-items g c =
    let v = c.args.queue.now in
    let xs = numbers_of c.args.objects.now in
    let e = see-last v c.args.slot c.last-last.result xs c.last-last.ensures (rw c.in-Some.is at c.in_ok-found.ensures.few) in
    let items = rw c.in-Some.is at c.in_ok-found.ensures.items in
    subst (λ (ks : List ℕ). IfOk c.cut_at.result (λ (r : ConsistentCut). r.items ≡ ks)) (items ∙ ap (lacking_to_see v c.args.slot xs) e) c.cut_at.ensures.items

pub returns-in-Some-clause-head : goal.returns-in-Some-clause-head
returns-in-Some-clause-head g c =
    let v = c.args.queue.now in
    let xs = numbers_of c.args.objects.now in
    let e = see-last v c.args.slot c.last-last.result xs c.last-last.ensures (rw c.in-Some.is at c.in_ok-found.ensures.few) in
    let bases = rw c.in-Some.is at c.in_ok-found.ensures.bases in
    subst (λ (ks : List ℕ). IfOk c.cut_at.result (λ (r : ConsistentCut). numbers_of r.head ≡ ks))
    (bases_to_see-all v c.args.slot c.last-last.result xs c.in-Some.found.bases c.cut_at.ensures.ascending bases ∙ ap (bases_to_see v c.args.slot xs) e) c.cut_at.ensures.head

-- ---- at the position that was found

pub see-requires-2-clause-pos : goal.see-requires-2-clause-pos
see-requires-2-clause-pos g c = latest-bounds c.args.queue.now c.args.slot c.in_ok-last.last (numbers_of c.args.objects.now) c.in_ok-last.ensures.greatest

pub cut_at-requires-in-Some-2 : goal.cut_at-requires-in-Some-2
cut_at-requires-in-Some-2 g c =
    bases-low c.args.queue.now c.args.slot c.in_ok-last.last (numbers_of c.args.objects.now) c.in-Some-2.found.bases (rw c.in-Some-2.is at c.in_ok-found-2.ensures.bases)

pub unreachable-requires : goal.unreachable-requires
unreachable-requires g c =
    let few = latest-few c.args.queue.now c.args.slot c.in_ok-last.last (numbers_of c.args.objects.now) c.in_ok-last.ensures.greatest in
    let many = rw c.in-None.is at c.in_ok-found-2.ensures.many in
    omega arith

pub returns-clause-head : goal.returns-clause-head
returns-clause-head g c =
    let v = c.args.queue.now in
    let xs = numbers_of c.args.objects.now in
    let e = c.in_ok-last.ensures.greatest in
    let bases = rw c.in-Some-2.is at c.in_ok-found-2.ensures.bases in
    subst (λ (ks : List ℕ). IfOk c.cut_at-in-Some-2.result (λ (r : ConsistentCut). numbers_of r.head ≡ ks))
    (bases_to_see-all v c.args.slot c.in_ok-last.last xs c.in-Some-2.found.bases c.cut_at-in-Some-2.ensures.ascending bases ∙ ap (bases_to_see v c.args.slot xs) e)
    c.cut_at-in-Some-2.ensures.head
