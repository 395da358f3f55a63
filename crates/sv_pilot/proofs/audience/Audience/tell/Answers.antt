-- What is proved by hand of `Audience::tell`.
use Rattle.std.proofs.Common.{◌≡◌, ◌<◌, true, List, length, get_or, sym, ap, subst, arith}
use Rattle.sv_world.specs.declared.world.ObjectId.{ObjectId}
use Rattle.sv_world.specs.Faults.{is_ascending}
use Rattle.sv_world.specs.Sets.{numbers_of}
use Rattle.sv_pilot.proofs.Heard.{some_at, tell_step, all_told}
use Rattle.sv_pilot.proofs.audience.Audience.tell.Goals as goal

pub loop-at-preserved : goal.loop-at-preserved
loop-at-preserved g c =
    let client = c.args.client.now in
    let at = c.loop-at.at in
    let before = c.loop-at.self in
    let up = subst (λ (os : List ObjectId). is_ascending (numbers_of os) ≡ true) (sym c.requires) c.is_in_order.ensures in
    let within : at < length client.who.interest = omega (arith, c.loop-at-test.true, ap (λ (os : List ObjectId). length os) c.interest-at-end.ensures) in
    let o = some_at client.who.interest at within in
    tell_step client.who client.events c.args.self.now.heard at o.0 up within o.1 before c.tell_one.new.self
    (c.in_ok-tell_one.ensures.ok o.0 (subst (λ (os : List ObjectId). o.0 ≡ get_or os at o.0) (sym c.loop-at.invariant.interest) o.1)) c.loop-at.invariant

pub returns-clause-all : goal.returns-clause-all
returns-clause-all g c =
    let client = c.args.client.now in
    all_told client.who client.events c.args.self.now.heard c.loop-at.self c.loop-at.at (omega (arith, c.loop-at-test.false, ap (λ (os : List ObjectId). length os) c.interest-at-end.ensures)) c.loop-at.invariant
