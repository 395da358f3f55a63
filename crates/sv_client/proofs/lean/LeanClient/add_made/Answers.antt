-- What is proved by hand of `LeanClient::add_made`.
use Rattle.std.proofs.Common.{◌≡◌, ◌+◌, ◌<◌, List, [], ◌∷◌, ◌++◌, length, None, sym, ap, subst, ◌∙◌, arith}
use Rattle.sv_world.specs.declared.action.Action.{Action}
use Rattle.sv_world.specs.declared.world.Shape.{Shape}
use Rattle.sv_world.specs.Faults.{first_fault_of_action, IsGoodAction}
use Rattle.sv_world.proofs.Good.{good_of_none}
use Rattle.sv_pending.specs.Made.{PendingList}
use Rattle.sv_client.specs.declared.kinds.Awaited.{Awaited}
use Rattle.sv_client.specs.declared.kinds.Awaited.TheVariants as kinds
use Rattle.sv_client.specs.declared.trace.Event.{Event}
use Rattle.sv_client.specs.declared.trace.Event.TheVariants as events
use Rattle.sv_client.specs.Taking.{outstanding}
use Rattle.sv_client.specs.Proper.{IsReadyToMake}
use Rattle.sv_client.specs.Seen.{ClientView}
use Rattle.sv_client.specs.Invariant.{who_is, IsClientOf}
use Rattle.sv_client.proofs.Keeping.{made_keeps, same_long}
use Rattle.sv_client.proofs.lean.LeanClient.add_made.Goals as goal

pub add-requires-clause-good : goal.add-requires-clause-good
add-requires-clause-good c =
    let p : c.self.inside.pending.shape ≡ c.self.inside.shape = ap (λ (p : PendingList). p.shape) c.self.invariant.actions in
    subst (λ (s : Shape). IsGoodAction s c.args.action) (sym p)
    (good_of_none c.self.inside.shape c.args.action (subst (λ (v : ClientView). first_fault_of_action v.who.shape c.args.action ≡ None) (sym c.self.view_is) c.requires.ready.good))

pub invariant_of-self-2 : goal.invariant_of-self-2
invariant_of-self-2 c =
    let who = who_is c.self.inside in
    let t = c.self.inside.past in
    let is = c.self.invariant in
    let long = same_long c.self.inside.awaited.items (outstanding who t) is.awaited.same in
    let may : IsReadyToMake who t c.args.action = subst (λ (v : ClientView). IsReadyToMake v.who v.events c.args.action) (sym c.self.view_is) c.requires.ready in
    let ks = c.push_reserved.ensures.items ∙ ap (λ (ks : List Awaited). ks ++ kinds.Submit ∷ []) c.in_ok-reserve.ensures.items in
    let few : length c.self.inside.awaited.items < 16 = omega (arith, long, may.calm) in
    let event = c.note.ensures ∙ ap (λ (a : Action). events.Make a ∷ t) c.of.ensures in
    subst (λ (es : List Event). IsClientOf who es c.self.inside.versions c.add.new.self c.push_reserved.new.self.items c.self.inside.sessions (c.self.inside.made + 1) c.self.inside.told c.self.inside.joined)
    (sym event)
    (made_keeps who t c.self.inside.versions c.self.inside.pending c.self.inside.awaited.items c.self.inside.sessions c.self.inside.made c.self.inside.told c.self.inside.joined is c.args.action c.add.new.self c.push_reserved.new.self.items may c.in_ok-add.ensures.ok ks few)
