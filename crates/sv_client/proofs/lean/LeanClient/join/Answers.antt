-- What is proved by hand of `LeanClient::join`.
use Rattle.std.proofs.Common.{ℕ, ◌+◌, ◌≤◌, true, List, ◌∷◌, length, sym, ap, subst, ◌∙◌, arith}
use Rattle.std.specs.Prelude.{replicate}
use Rattle.sv_client.specs.declared.kinds.Awaited.TheVariants as kinds
use Rattle.sv_client.specs.declared.trace.Event.{Event}
use Rattle.sv_client.specs.Invariant.{who_is, IsClientOf}
use Rattle.sv_client.proofs.Keeping.{joined_keeps}
use Rattle.sv_client.proofs.lean.LeanClient.join.Goals as goal

pub invariant_of-self : goal.invariant_of-self
invariant_of-self c =
    let who = who_is c.self.inside in
    let t = c.self.inside.past in
    let is = c.self.invariant in
    let ks = c.in_ok-awaited.ensures ∙ ap (λ (n : ℕ). kinds.Join ∷ replicate n kinds.Submit) c.len.ensures.exact in
    let short : length c.self.inside.pending.items ≤ 8 = omega (arith, c.len.ensures.exact, c.len.ensures.few) in
    subst (λ (es : List Event). IsClientOf who es c.self.inside.versions c.self.inside.pending c.in_ok-awaited.awaited.items (c.self.inside.sessions + 1) c.self.inside.made c.self.inside.told true)
    (sym c.note.ensures)
    (joined_keeps who t c.self.inside.versions c.self.inside.pending c.self.inside.awaited.items c.self.inside.sessions c.self.inside.made c.self.inside.told c.self.inside.joined is c.in_ok-awaited.awaited.items ks short)
