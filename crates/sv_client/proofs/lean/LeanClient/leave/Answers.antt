-- What is proved by hand of `LeanClient::leave`.
use Rattle.std.proofs.Common.{false, List, length, sym, ap, subst, arith}
use Rattle.sv_wire.specs.declared.message.Request.{Request}
use Rattle.sv_wire.specs.declared.message.Request.TheVariants as requests
use Rattle.sv_client.specs.declared.trace.Event.{Event}
use Rattle.sv_client.specs.Taking.{outstanding}
use Rattle.sv_client.specs.Proper.{MayLeave}
use Rattle.sv_client.specs.Seen.{ClientView}
use Rattle.sv_client.specs.Invariant.{who_is, IsClientOf}
use Rattle.sv_client.proofs.Keeping.{left_keeps, asks_one, same_long}
use Rattle.sv_client.proofs.lean.LeanClient.leave.Goals as goal

pub invariant_of-self-2 : goal.invariant_of-self-2
invariant_of-self-2 c =
    let who = who_is c.self.inside in
    let t = c.self.inside.past in
    let is = c.self.invariant in
    let long = same_long c.self.inside.awaited.items (outstanding who t) is.awaited.same in
    let may : MayLeave who t = subst (λ (v : ClientView). MayLeave v.who v.events) (sym c.self.view_is) c.requires in
    subst (λ (es : List Event). IsClientOf who es c.self.inside.versions c.self.inside.pending c.push.new.self.items c.self.inside.sessions c.self.inside.made c.self.inside.told false)
    (sym c.note.ensures)
    (left_keeps who t c.self.inside.versions c.self.inside.pending c.self.inside.awaited.items c.self.inside.sessions c.self.inside.made c.self.inside.told c.self.inside.joined is c.push.new.self.items may c.in_ok-push.ensures.items (omega (arith, long, ap (λ (os : List Request). length os) may.settled)))

pub returns-clause-request : goal.returns-clause-request
returns-clause-request c = asks_one c.args.self.now.events requests.Leave c.requires.joined
