-- What is proved by hand of `Connection::flush`.
use Rattle.std.proofs.Common.{take, refl, ap, subst, ◌∙◌}
use Rattle.sv_link.specs.Ends.{Told}
use Rattle.sv_pilot.specs.Lines.{Line}
use Rattle.sv_pilot.specs.Sending.{Sends, IsSent}
use Rattle.sv_pilot.proofs.Moved.{flushed, none_waits, sent_by}
use Rattle.sv_pilot.proofs.connection.Connection.flush.Goals as goal

pub invariant_of-self : goal.invariant_of-self
invariant_of-self g c = ap (λ (t : Told). t.closed) c.flush.ensures.sends.grew ∙ c.self.invariant

pub returns-clause-sent : goal.returns-clause-sent
returns-clause-sent g c =
    let E = g.E.End in
    let old : Line = record { told = E.told c.self.inside.end; faults = E.faults c.self.inside.end; came = c.self.inside.reader; waits = c.self.inside.outbox } in
    let new : Line = record { told = E.told c.flush.new.end; faults = E.faults c.flush.new.end; came = c.self.inside.reader; waits = c.flush.new.self } in
    subst (λ (l : Line). Sends l new c.whole.result) c.self.view_is (flushed old new c.flush.result c.whole.result c.whole.ensures c.flush.ensures.sends c.flush.ensures.left refl)

pub returns-clause-empty : goal.returns-clause-empty
returns-clause-empty g c =
    let E = g.E.End in
    let old : Line = record { told = E.told c.self.inside.end; faults = E.faults c.self.inside.end; came = c.self.inside.reader; waits = c.self.inside.outbox } in
    let new : Line = record { told = E.told c.flush.new.end; faults = E.faults c.flush.new.end; came = c.self.inside.reader; waits = c.flush.new.self } in
    none_waits old new c.flush.result c.whole.result c.whole.ensures c.flush.ensures.left

pub returns-clause-answer : goal.returns-clause-answer
returns-clause-answer g c =
    let E = g.E.End in
    let old : Line = record { told = E.told c.self.inside.end; faults = E.faults c.self.inside.end; came = c.self.inside.reader; waits = c.self.inside.outbox } in
    let new : Line = record { told = E.told c.flush.new.end; faults = E.faults c.flush.new.end; came = c.self.inside.reader; waits = c.flush.new.self } in
    subst (λ (l : Line). IsSent l new c.whole.result) c.self.view_is
    (sent_by old new (take c.flush.ensures.sends.size c.self.inside.outbox) c.flush.result c.whole.result c.whole.ensures c.flush.ensures.sends.grew c.flush.ensures.cause)
