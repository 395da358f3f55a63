-- What is proved by hand of `Pilot::take_next`.
use Rattle.std.proofs.Common.{◌<◌, Err, refl, subst}
use Rattle.std.specs.Prelude.{OnOk, IfErr}
use Rattle.sv_wire.specs.declared.message.Reply.{Reply}
use Rattle.sv_client.specs.Taking.{outstanding}
use Rattle.sv_pilot.specs.Lines.{IsCalm}
use Rattle.sv_pilot.specs.Doings.{PilotView, Takes, StopsBy, weight}
use Rattle.sv_pilot.proofs.Taking.{line_taken, then_taken, line_reads, read_fails, all_read, receiving_stops_it}
use Rattle.sv_pilot.proofs.Moved.{failed_by}
use Rattle.sv_pilot.proofs.Asked.{calm_later, stopped_later}
use Rattle.sv_pilot.proofs.pilot.Pilot.take_next.Goals as goal

pub returns-in_err-reply-clause-taken : goal.returns-in_err-reply-clause-taken
returns-in_err-reply-clause-taken g c =
    let old : PilotView = record { client = c.self.inside.client; line = c.self.inside.connection; told = c.self.inside.audience.heard } in
    let mid : PilotView = record { client = c.self.inside.client; line = c.receive.new.self; told = c.self.inside.audience.heard } in
    let trouble = c.in_err-reply.field-0.0 in
    failed_by c.from_residual.result trouble c.from_residual.ensures.1 (Takes c.args.self.now mid)
    (subst (λ (p : PilotView). Takes {X = Unit} p mid (Err trouble)) c.self.view_is (read_fails Reply Unit old mid trouble trouble (line_reads {X = Reply} old mid (Err trouble) refl c.in_err-reply.ensures.read)))

pub returns-in_err-reply-clause-why : goal.returns-in_err-reply-clause-why
returns-in_err-reply-clause-why g c =
    let old : PilotView = record { client = c.self.inside.client; line = c.self.inside.connection; told = c.self.inside.audience.heard } in
    let mid : PilotView = record { client = c.self.inside.client; line = c.receive.new.self; told = c.self.inside.audience.heard } in
    failed_by c.from_residual.result c.in_err-reply.field-0.0 c.from_residual.ensures.1 (λ q. IfErr q (StopsBy c.args.self.now mid))
    (subst (λ (p : PilotView). StopsBy p mid c.in_err-reply.field-0.0) c.self.view_is (receiving_stops_it old mid c.in_err-reply.field-0.0 c.in_err-reply.ensures.received))

pub take-requires-clause-front : goal.take-requires-clause-front
take-requires-clause-front g c = c.in_ok-reply.ensures.received.1

pub take-requires-clause-message : goal.take-requires-clause-message
take-requires-clause-message g c = c.in_ok-reply.ensures.received.2

pub returns-clause-taken : goal.returns-clause-taken
returns-clause-taken g c =
    let old : PilotView = record { client = c.self.inside.client; line = c.self.inside.connection; told = c.self.inside.audience.heard } in
    let mid : PilotView = record { client = c.self.inside.client; line = c.receive.new.self; told = c.self.inside.audience.heard } in
    let new = c.take.new.self in
    let read = all_read old.line mid.line c.in_ok-reply.reply c.in_ok-reply.ensures.read in
    subst (λ (p : PilotView). Takes p new c.take.result) c.self.view_is (then_taken old mid new c.take.result (line_taken old mid mid.line.waits refl read) c.take.ensures.taken)

pub returns-clause-calm : goal.returns-clause-calm
returns-clause-calm g c =
    let old : PilotView = record { client = c.self.inside.client; line = c.self.inside.connection; told = c.self.inside.audience.heard } in
    let mid : PilotView = record { client = c.self.inside.client; line = c.receive.new.self; told = c.self.inside.audience.heard } in
    subst (λ (p : PilotView). OnOk c.take.result (IsCalm p.line c.take.new.self.line)) c.self.view_is
    (calm_later old.line mid.line c.take.new.self.line c.take.result c.in_ok-reply.ensures.received.0 c.take.ensures.calm)

pub returns-clause-lighter : goal.returns-clause-lighter
returns-clause-lighter g c =
    let new = c.take.new.self in
    subst (λ (p : PilotView). OnOk c.take.result (weight (outstanding new.client.who new.client.events) < weight (outstanding p.client.who p.client.events))) c.self.view_is c.take.ensures.lighter

pub returns-clause-why : goal.returns-clause-why
returns-clause-why g c =
    let old : PilotView = record { client = c.self.inside.client; line = c.self.inside.connection; told = c.self.inside.audience.heard } in
    let mid : PilotView = record { client = c.self.inside.client; line = c.receive.new.self; told = c.self.inside.audience.heard } in
    subst (λ (p : PilotView). IfErr c.take.result (StopsBy p c.take.new.self)) c.self.view_is
    (stopped_later old mid c.take.new.self c.take.result c.in_ok-reply.ensures.received.0 c.take.ensures.why)
