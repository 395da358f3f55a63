-- What is proved by hand of `Pending::len`.
use Rattle.std.proofs.Common.{◌≡◌, length, sym, ◌∙◌, rules}
use Rattle.sv_pending.proofs.Overlays.{length-paired}
use Rattle.sv_pending.proofs.pending.Pending.len.Goals as goal

pub returns-clause-exact : goal.returns-clause-exact
returns-clause-exact c =
    let long : c.len.result ≡ length c.self.inside.made.items = search rules in
    rw (← c.self.view_is) (long ∙ sym (length-paired _ _ c.self.invariant.0))
