-- What is proved by hand of `History::latest`.
use Rattle.std.proofs.Common.{◌≡◌, length, arith, rules}
use Rattle.sv_versions.proofs.Rows.{latest_last}
use Rattle.sv_versions.proofs.history.History.latest.Goals as goal

pub returns : goal.returns
returns c = λ x.
    let long : length c.self.inside.versions.items ≡ c.len-count.result = search rules in
    rw (← c.self.view_is) (latest_last x _ _ _ (omega arith) long c.self.invariant c.index.ensures)
