-- What is proved by hand of `Versions::prune`.
use Rattle.std.proofs.Common.{List, ap, ◌∙◌, sym, subst}
use Rattle.sv_versions.specs.Held.{Held, Store, AnswersAbove}
use Rattle.sv_versions.specs.Histories.{flat}
use Rattle.sv_versions.proofs.Laws.{prune_answers}
use Rattle.sv_versions.proofs.Prunings.{flat_pruned, flat_few, still_listed}
use Rattle.sv_versions.proofs.store.Versions.prune.Goals as goal

pub invariant_of-self : goal.invariant_of-self
invariant_of-self c =
    let done = rw c.deref.ensures.value at c.prune_each.ensures in
    let kept = rw c.deref-2.ensures.value at c.keep_crowded.ensures in
    (done.long ∙ c.self.invariant.0, rw kept (still_listed _ _ _ _ c.self.invariant.1 done))

pub returns-clause-kept : goal.returns-clause-kept
returns-clause-kept c =
    let done = rw c.deref.ensures.value at c.prune_each.ensures in
    let make : List Held → Store = λ hs. record { shape = c.self.inside.shape; held = hs } in
    rw (← c.self.view_is) (ap make (flat_pruned _ _ _ _ c.self.invariant.1 done))

pub returns-clause-few : goal.returns-clause-few
returns-clause-few c =
    let done = rw c.deref.ensures.value at c.prune_each.ensures in
    flat_few _ _ _ _ c.self.invariant.1 done

pub returns-clause-answers : goal.returns-clause-answers
returns-clause-answers c = λ told all l a.
    let done = rw c.deref.ensures.value at c.prune_each.ensures in
    let was : AnswersAbove told (flat c.self.inside.histories.items) all = subst (λ (s : Store). AnswersAbove told s.held all) (sym c.self.view_is) a in
    rw (flat_pruned _ _ _ _ c.self.invariant.1 done) (prune_answers told c.args.commit _ all l was)
