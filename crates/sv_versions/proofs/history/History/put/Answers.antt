-- What is proved by hand of `History::put`.
use Rattle.std.proofs.Common.{◌≡◌, ◌-◌, get_or, sym, subst}
use Rattle.sv_versions.specs.declared.history.Version.{Version}
use Rattle.sv_versions.proofs.Puts.{put_there, put_new, ascends_there, ascends_new}
use Rattle.sv_versions.proofs.Restores.{put_there_back, put_new_back}
use Rattle.sv_versions.proofs.history.History.put.Goals as goal

pub invariant_of-self : goal.invariant_of-self
invariant_of-self c =
    let count = rw c.deref.ensures.value at c.count_versions-count.ensures in
    let there = rw c.deref-2.ensures.value at c.if-ends_at.ensures in
    rw c.replace-was.ensures.after (ascends_there _ _ _ c.self.invariant count there)

pub returns-then-ends_at-clause-ok : goal.returns-then-ends_at-clause-ok
returns-then-ends_at-clause-ok c = λ x.
    let count = rw c.deref.ensures.value at c.count_versions-count.ensures in
    let there = rw c.deref-2.ensures.value at c.if-ends_at.ensures in
    rw (c.replace-was.ensures.after, ← c.self.view_is) (put_there x _ _ _ c.self.invariant count there)

pub returns-then-ends_at-clause-undone : goal.returns-then-ends_at-clause-undone
returns-then-ends_at-clause-undone c =
    let count = rw c.deref.ensures.value at c.count_versions-count.ensures in
    let there = rw c.deref-2.ensures.value at c.if-ends_at.ensures in
    let w : Version = record { pos = c.args.pos; value = c.args.value } in
    let was : c.replace-was.result ≡ get_or c.self.inside.versions.items (c.count_versions-count.result - 1) c.replace-was.result =
    subst (λ (o : Version). o ≡ get_or c.self.inside.versions.items (c.count_versions-count.result - 1) o) (sym c.replace-was.ensures.value) c.index_mut.ensures.value in
    rw (c.replace-was.ensures.after, ← c.self.view_is) (put_there_back c.count_versions-count.result c.self.inside.versions.items w c.replace-was.result c.self.invariant count there was)

pub invariant_of-self-2 : goal.invariant_of-self-2
invariant_of-self-2 c =
    let count = rw c.deref.ensures.value at c.count_versions-count.ensures in
    let apart = rw c.deref-2.ensures.value at c.if-ends_at.ensures in
    rw c.in_ok-insert.ensures.items (ascends_new _ _ _ c.self.invariant count apart)

pub returns-clause-ok : goal.returns-clause-ok
returns-clause-ok c = λ x.
    let count = rw c.deref.ensures.value at c.count_versions-count.ensures in
    let apart = rw c.deref-2.ensures.value at c.if-ends_at.ensures in
    rw (c.in_ok-insert.ensures.items, ← c.self.view_is) (put_new x _ _ _ c.self.invariant count apart)

pub returns-clause-undone : goal.returns-clause-undone
returns-clause-undone c =
    let count = rw c.deref.ensures.value at c.count_versions-count.ensures in
    let apart = rw c.deref-2.ensures.value at c.if-ends_at.ensures in
    rw (c.in_ok-insert.ensures.items, ← c.self.view_is) (put_new_back _ _ _ c.self.invariant count apart)
