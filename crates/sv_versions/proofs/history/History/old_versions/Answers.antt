-- What is proved by hand of `History::old_versions`.
use Rattle.sv_versions.proofs.Rows.{counted}
use Rattle.sv_versions.proofs.history.History.old_versions.Goals as goal

pub returns : goal.returns
returns c = λ x.
    let count = rw c.deref.ensures.value at c.count_versions.ensures in
    rw (← c.self.view_is) (counted x _ _ _ count)
