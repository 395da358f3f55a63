-- What is proved by hand of `Desk::run`.
use Rattle.sv_lock.proofs.Calls.{held, may_return, ran}
use Rattle.sv_lock.proofs.desk.Desk.run.Goals as goal

pub take-requires-clause-may : goal.take-requires-clause-may
take-requires-clause-may g c = let r = c.requires in record { idle = r.idle.0; number = (_, r.number); based = (r.can.0, r.can.1) }

pub step-answer-requires-clause-held : goal.step-answer-requires-clause-held
step-answer-requires-clause-held g c =
    let o = g.O.Object in let r = c.requires in let took = c.take.ensures.took in
    held o.base o.history o.number_of (λ b mine. o.can_step b c.args.number c.args.request mine) c.args.number _ r.can.0 _ _ took r.idle.1 r.can.1 r.number r.can.2

pub give_back-requires-clause-may : goal.give_back-requires-clause-may
give_back-requires-clause-may g c =
    let o = g.O.Object in let r = c.requires in let took = c.take.ensures.took in
    may_return o.base o.history o.lawful o.number_of (o.entry c.args.number c.args.request) o.whole c.step-answer.result c.args.number _ _ _ _
    (λ x. g.met.O.Object.number_of_entry c.args.number c.args.request x) took r.number c.step-answer.ensures.seat

pub returns-clause-ran : goal.returns-clause-ran
returns-clause-ran g c =
    let o = g.O.Object in let r = c.requires in let took = c.take.ensures.took in
    ran o.base o.history o.lawful o.number_of (o.entry c.args.number c.args.request) o.whole c.step-answer.result c.args.number _ _ _ _ _
    (λ x. g.met.O.Object.number_of_entry c.args.number c.args.request x) took r.number c.step-answer.ensures.seat c.give_back.ensures.returned
