-- What the oldest request observes is of the world.
use Rattle.std.proofs.Common.{List, slice_get, option_copied, sym, ap, subst, ◌∙◌}
use Rattle.sv_client.specs.declared.kinds.Awaited.{Awaited}
use Rattle.sv_client.specs.Seen.{ClientView}
use Rattle.sv_client.specs.Evaluating.{AreWithin}
use Rattle.sv_client.specs.Invariant.{who_is}
use Rattle.sv_client.proofs.Within.{first_within, awaited_within}
use Rattle.sv_client.proofs.lean.LeanClient.observed.Goals as goal

pub returns-in-Some-clause-within : goal.returns-in-Some-clause-within
returns-in-Some-clause-within c =
    let who = who_is c.self.inside in
    let ks = c.self.inside.awaited.items in
    let front = ap (λ (js : List Awaited). slice_get js 0) (sym c.deref.ensures.value) ∙ sym c.first.ensures.value ∙ ap option_copied c.in-Some.is in
    let all = awaited_within who 0 (c.self.inside.past) ks c.self.invariant.turn c.self.invariant.awaited.same in
    subst (λ (v : ClientView). AreWithin v.who.shape.objects c.observed_by.result.now) c.self.view_is
    (subst (AreWithin who.shape.objects) (sym c.observed_by.ensures.objects) (first_within who.shape.objects ks c.in-Some.awaited.now all front))
