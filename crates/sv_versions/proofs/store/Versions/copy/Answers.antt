-- What is proved by hand of `Versions::copy`.
use Rattle.std.proofs.Common.{◌≡◌, ◌∙◌}
use Rattle.std.proofs.lemmas.List.{take_all}
use Rattle.sv_versions.proofs.store.Versions.copy.Goals as goal

pub invariant_of-result : goal.invariant_of-result
invariant_of-result c =
    let same : c.loop-history.histories.items ≡ c.self.inside.histories.items =
    c.loop-history.invariant ∙ take_all _ _ c.loop-history-test.false ∙ c.deref-history-items.ensures.value in
    rw (same, c.in_ok-from_slice.ensures.items, c.deref.ensures.value) c.self.invariant
