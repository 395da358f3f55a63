-- What is proved by hand of `LeanClient::skip`.
use Rattle.std.proofs.Common.{◌≡◌, true, List, [], sym, subst}
use Rattle.sv_client.specs.declared.trace.Event.{Event}
use Rattle.sv_client.specs.Seen.{ClientView}
use Rattle.sv_client.specs.Invariant.{who_is, IsClientOf}
use Rattle.sv_client.proofs.Begun.{begun}
use Rattle.sv_client.proofs.lean.LeanClient.skip.Goals as goal

pub invariant_of-self : goal.invariant_of-self
invariant_of-self c =
    let i = c.self.inside in
    let fresh : i.past ≡ [] = subst (λ (v : ClientView). v.events ≡ []) (sym c.self.view_is) c.requires.fresh in
    let is = subst (λ (es : List Event). IsClientOf (who_is i) es i.versions i.pending i.awaited.items i.sessions i.made i.told i.joined) fresh c.self.invariant in
    subst (λ (es : List Event). IsClientOf (who_is i) es i.versions i.pending c.in_ok-begun.begun.items c.args.sessions i.made i.told true) (sym c.new.ensures)
    (begun (who_is i) i.versions i.pending i.awaited.items i.sessions i.made i.told i.joined is c.args.sessions c.in_ok-begun.begun.items c.requires.some c.in_ok-begun.ensures)
