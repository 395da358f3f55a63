-- What is proved by hand of `History::restore`.
use Rattle.std.proofs.Common.{List, [], None, sym, subst, ◌∙◌}
use Rattle.sv_versions.specs.declared.history.Version.{Version}
use Rattle.sv_versions.specs.Histories.{AscendsFrom}
use Rattle.sv_versions.proofs.Puts.{ascends_there}
use Rattle.sv_versions.proofs.Restores.{back_replaced, back_removed, back_none, restored_ascends}
use Rattle.sv_versions.proofs.history.History.restore.Goals as goal

pub returns-then-not-ends_at-clause-kept : goal.returns-then-not-ends_at-clause-kept
returns-then-not-ends_at-clause-kept c =
    let count = rw c.deref.ensures.value at c.count_versions-count.ensures in
    let apart = rw c.deref-2.ensures.value at c.if-not-ends_at.ensures in
    rw (← c.self.view_is) (back_none _ _ c.args.was _ c.self.invariant count apart)

pub invariant_of-self : goal.invariant_of-self
invariant_of-self c =
    let count = rw c.deref.ensures.value at c.count_versions-count.ensures in
    let there = rw c.deref-2.ensures.value at c.if-not-ends_at.ensures in
    subst (λ (vs : List Version). AscendsFrom 0 vs) (sym c.put_at.ensures) (ascends_there _ _ _ c.self.invariant count there)

pub invariant_of-self-in-None : goal.invariant_of-self-in-None
invariant_of-self-in-None c =
    let count = rw c.deref.ensures.value at c.count_versions-count.ensures in
    let there = rw c.deref-2.ensures.value at c.if-not-ends_at.ensures in
    let d : Version = record { pos = 0; value = [] } in
    subst (λ (vs : List Version). AscendsFrom 0 vs) (sym (c.remove_at.ensures ∙ back_removed c.args.pos _ _ d c.self.invariant count there))
    (restored_ascends c.args.pos None 0 c.self.inside.versions.items c.self.invariant)

pub returns-in-Some-clause-kept : goal.returns-in-Some-clause-kept
returns-in-Some-clause-kept c =
    let count = rw c.deref.ensures.value at c.count_versions-count.ensures in
    let there = rw c.deref-2.ensures.value at c.if-not-ends_at.ensures in
    rw (← c.self.view_is, c.in-Some.is) (c.put_at.ensures ∙ back_replaced _ _ _ c.self.invariant count there)

pub returns-in-None-clause-kept : goal.returns-in-None-clause-kept
returns-in-None-clause-kept c =
    let count = rw c.deref.ensures.value at c.count_versions-count.ensures in
    let there = rw c.deref-2.ensures.value at c.if-not-ends_at.ensures in
    let d : Version = record { pos = 0; value = [] } in
    rw (← c.self.view_is, c.in-None.is) (c.remove_at.ensures ∙ back_removed c.args.pos _ _ d c.self.invariant count there)
