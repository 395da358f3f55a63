-- What is proved by hand of `LeanClient::stable`.
use Rattle.std.proofs.Common.{◌≡◌, None, sym, subst, arith}
use Rattle.sv_versions.specs.Held.{latest}
use Rattle.sv_client.specs.Invariant.{who_is}
use Rattle.sv_client.specs.Seen.{ClientView}
use Rattle.sv_client.specs.Traces.{held_of}
use Rattle.sv_client.proofs.Beyond.{none_latest}
use Rattle.sv_client.proofs.lean.LeanClient.stable.Goals as goal

pub returns-then-object-self : goal.returns-then-object-self
returns-then-object-self c =
    subst (λ (v : ClientView). None ≡ latest (held_of v.events) c.args.object.0) c.self.view_is
    (sym (none_latest (who_is c.self.inside) 0 (c.self.inside.past) c.self.invariant.turn c.args.object.0 (omega arith)))
