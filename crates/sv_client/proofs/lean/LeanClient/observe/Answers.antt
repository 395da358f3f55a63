-- What is proved by hand of `LeanClient::observe`.
use Rattle.std.proofs.Common.{◌≡◌, true, List, [], ◌∷◌, ◌++◌, sym, ap, subst, ◌∙◌, arith}
use Rattle.sv_world.specs.declared.world.ObjectId.{ObjectId}
use Rattle.sv_world.specs.Sets.{numbers_of}
use Rattle.sv_world.specs.Faults.{may_be_observed}
use Rattle.sv_wire.specs.declared.message.Request.TheVariants as requests
use Rattle.sv_client.specs.declared.kinds.Awaited.TheVariants as kinds
use Rattle.sv_client.specs.declared.trace.Event.{Event}
use Rattle.sv_client.specs.declared.trace.Event.TheVariants as events
use Rattle.sv_client.specs.Taking.{outstanding}
use Rattle.sv_client.specs.Proper.{MayObserve, in_session}
use Rattle.sv_client.specs.Seen.{ClientView}
use Rattle.sv_client.specs.Invariant.{who_is, IsClientOf}
use Rattle.sv_client.proofs.Keeping.{observed_keeps, asks_one, same_long}
use Rattle.sv_client.proofs.lean.LeanClient.observe.Goals as goal

pub invariant_of-self-2 : goal.invariant_of-self-2
invariant_of-self-2 c =
    let who = who_is c.self.inside in
    let t = c.self.inside.past in
    let is = c.self.invariant in
    let os = c.args.objects in
    let wait = c.args.wait in
    let long = same_long c.self.inside.awaited.items (outstanding who t) is.awaited.same in
    let same : c.as_slice.result.now ≡ os = c.as_slice.ensures in
    let good : may_be_observed c.self.inside.shape.objects (numbers_of os) ≡ true = sym (c.if-not-may_be_observed.ensures ∙ ap (λ (xs : List ObjectId). may_be_observed c.self.inside.shape.objects (numbers_of xs)) same) in
    let may : MayObserve who t os = record { joined = subst (λ (v : ClientView). in_session v.events ≡ true) (sym c.self.view_is) c.requires; good = good; calm = omega (arith, long, c.len.ensures) } in
    let awaited : c.in_ok-awaited.awaited ≡ os = c.in_ok-awaited.ensures ∙ c.as_slice-2.ensures in
    let event = c.note.ensures ∙ ap (λ (xs : List ObjectId). events.Observe xs wait ∷ t) c.of.ensures in
    let kind = c.in_ok-push.ensures.items ∙ ap (λ (xs : List ObjectId). c.self.inside.awaited.items ++ kinds.Observe xs ∷ []) awaited in
    subst (λ (es : List Event). IsClientOf who es c.self.inside.versions c.self.inside.pending c.push.new.self.items c.self.inside.sessions c.self.inside.made c.self.inside.told c.self.inside.joined)
    (sym event)
    (observed_keeps who t c.self.inside.versions c.self.inside.pending c.self.inside.awaited.items c.self.inside.sessions c.self.inside.made c.self.inside.told c.self.inside.joined is os wait c.push.new.self.items may kind (omega (arith, c.len.ensures)))

pub returns-clause-request : goal.returns-clause-request
returns-clause-request c = asks_one c.args.self.now.events (requests.Observe c.args.objects c.args.wait) c.requires
