-- What is proved by hand of `History::below`.
use Rattle.std.proofs.Common.{arith}
use Rattle.sv_versions.proofs.Rows.{read_last, read_none, read_zero}
use Rattle.sv_versions.proofs.history.History.below.Goals as goal

pub returns-then-pos-eq0 : goal.returns-then-pos-eq0
returns-then-pos-eq0 c = λ x. read_zero x _ _ c.if-pos-eq0.true

pub returns-then-count-eq0 : goal.returns-then-count-eq0
returns-then-count-eq0 c = λ x.
    let count = rw c.deref.ensures.value at c.count_versions-count.ensures in
    rw (← c.self.view_is) (read_none x _ _ _ c.if-count-eq0.true (omega arith) count)

pub returns : goal.returns
returns c = λ x.
    let count = rw c.deref.ensures.value at c.count_versions-count.ensures in
    rw (← c.self.view_is) (read_last x _ _ _ _ (omega arith) (omega arith) c.self.invariant count c.index.ensures)
