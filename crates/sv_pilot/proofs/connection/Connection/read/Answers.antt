-- What is proved by hand of `Connection::read`.
use Rattle.std.proofs.Common.{refl, sym, subst}
use Rattle.sv_pilot.specs.Lines.{Line, IsPartial}
use Rattle.sv_pilot.specs.Sending.{HasRead, IsReadOn}
use Rattle.sv_pilot.proofs.Moved.{read_by, read_on_by, stays_open}
use Rattle.sv_pilot.proofs.connection.Connection.read.Goals as goal

pub invariant_of-self : goal.invariant_of-self
invariant_of-self g c = stays_open _ _ _ _ c.read_from.result c.read_from.ensures.came c.self.invariant

pub returns-clause-read : goal.returns-clause-read
returns-clause-read g c =
    let E = g.E.End in
    let old : Line = record { told = E.told c.self.inside.end; faults = E.faults c.self.inside.end; came = c.self.inside.reader; waits = c.self.inside.outbox } in
    let new : Line = record { told = E.told c.read_from.new.end; faults = E.faults c.read_from.new.end; came = c.read_from.new.self; waits = c.self.inside.outbox } in
    subst (λ (l : Line). HasRead l new new.waits) c.self.view_is (read_by old new c.read_from.result c.read_from.ensures.came refl)

pub returns-clause-answer : goal.returns-clause-answer
returns-clause-answer g c =
    let E = g.E.End in
    let old : Line = record { told = E.told c.self.inside.end; faults = E.faults c.self.inside.end; came = c.self.inside.reader; waits = c.self.inside.outbox } in
    let new : Line = record { told = E.told c.read_from.new.end; faults = E.faults c.read_from.new.end; came = c.read_from.new.self; waits = c.self.inside.outbox } in
    subst (λ (l : Line). IsReadOn l new c.some.result) c.self.view_is (read_on_by old new c.read_from.result c.some.result c.some.ensures (subst (λ (l : Line). IsPartial l.came) (sym c.self.view_is) c.requires.partial) c.read_from.ensures.came c.read_from.ensures.cause)
