-- What is proved by hand of `LeanClient::poll`.
use Rattle.std.proofs.Common.{◌≡◌, true, List, sym, subst, arith}
use Rattle.sv_wire.specs.declared.message.Request.TheVariants as requests
use Rattle.sv_client.specs.declared.trace.Event.{Event}
use Rattle.sv_client.specs.Taking.{outstanding}
use Rattle.sv_client.specs.Proper.{MayPoll, in_session}
use Rattle.sv_client.specs.Seen.{ClientView}
use Rattle.sv_client.specs.Invariant.{who_is, IsClientOf}
use Rattle.sv_client.proofs.Keeping.{polled_keeps, asks_one, same_long}
use Rattle.sv_client.proofs.lean.LeanClient.poll.Goals as goal

pub invariant_of-self-2 : goal.invariant_of-self-2
invariant_of-self-2 c =
    let who = who_is c.self.inside in
    let t = c.self.inside.past in
    let is = c.self.invariant in
    let long = same_long c.self.inside.awaited.items (outstanding who t) is.awaited.same in
    let may : MayPoll who t = record { joined = subst (λ (v : ClientView). in_session v.events ≡ true) (sym c.self.view_is) c.requires; calm = omega (arith, long, c.len.ensures) } in
    subst (λ (es : List Event). IsClientOf who es c.self.inside.versions c.self.inside.pending c.push.new.self.items c.self.inside.sessions c.self.inside.made c.self.inside.told c.self.inside.joined)
    (sym c.note.ensures)
    (polled_keeps who t c.self.inside.versions c.self.inside.pending c.self.inside.awaited.items c.self.inside.sessions c.self.inside.made c.self.inside.told c.self.inside.joined is c.push.new.self.items may c.in_ok-push.ensures.items (omega (arith, c.len.ensures)))

pub returns-clause-request : goal.returns-clause-request
returns-clause-request c = asks_one c.args.self.now.events requests.Poll c.requires
