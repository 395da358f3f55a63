-- What is proved by hand of `Pilot::take`.
use Rattle.std.proofs.Common.{◌≡◌, List, Ok, Err, option_to_list, ◌<◌, sym, ap, subst, ◌∙◌}
use Rattle.std.specs.Prelude.{IfErr}
use Rattle.sv_world.specs.Worlds.{IsGoodShape}
use Rattle.sv_link.specs.Ends.{Told}
use Rattle.sv_wire.specs.Messages.{reply_at}
use Rattle.sv_exchange.specs.Incoming.{FirstReads}
use Rattle.sv_client.specs.declared.trace.Event.{Event}
use Rattle.sv_client.specs.Taking.{Identity, outstanding}
use Rattle.sv_client.specs.Proper.{AreInTurn}
use Rattle.sv_client.specs.Answers.{IsTakeFault, got_now}
use Rattle.sv_client.specs.Seen.{ClientView}
use Rattle.sv_pilot.specs.Troubles.{trouble_of_take}
use Rattle.sv_pilot.specs.Lines.{IsCalm, asking}
use Rattle.sv_pilot.specs.Doings.{PilotView, HasTaken, Takes, HeardPart, HasTold, StopsBy, weight}
use Rattle.sv_pilot.proofs.Taking.{none_taken, taken_more, then_taken, all_taken, whole_taken, taken_told, calm_more, stops_later}
use Rattle.sv_pilot.proofs.Moved.{failed_by}
use Rattle.sv_pilot.proofs.Told.{told_not, told_after}
use Rattle.sv_pilot.proofs.Replied.{some_frame, skip_takes, asked_waits, done_is_message, fewer_are_due, refused_at, always, memory_stops}
use Rattle.sv_pilot.proofs.pilot.Pilot.take.Goals as goal

pub returns-in_err-done-clause-taken : goal.returns-in_err-done-clause-taken
returns-in_err-done-clause-taken g c =
    let new : PilotView = record { client = c.take.new.self; line = c.self.inside.connection; told = c.self.inside.audience.heard } in
    none_taken c.args.self.now new c.from_residual.result (ap (λ (v : ClientView). record { client = v; line = c.self.inside.connection; told = c.self.inside.audience.heard }) c.in_err-done.ensures.err ∙ c.self.view_is)

pub returns-in_err-done-clause-why : goal.returns-in_err-done-clause-why
returns-in_err-done-clause-why g c =
    let new : PilotView = record { client = c.take.new.self; line = c.self.inside.connection; told = c.self.inside.audience.heard } in
    let same = ap (λ (v : ClientView). record { client = v; line = c.self.inside.connection; told = c.self.inside.audience.heard }) c.in_err-done.ensures.err ∙ c.self.view_is in
    let why = subst (λ (p : PilotView). IsTakeFault p.client.who p.client.events c.args.reply.now c.in_err-done.field-0.0) c.self.view_is c.in_err-done.ensures.fault in
    failed_by c.from_residual.result (trouble_of_take c.in_err-done.field-0.0) c.from_residual.ensures.1 (λ q. IfErr q (StopsBy c.args.self.now new))
    (refused_at c.args.self.now new c.args.reply.now c.in_err-done.field-0.0 same c.requires.front why)

pub skip-requires : goal.skip-requires
skip-requires g c =
    some_frame _ _ (subst (λ (p : PilotView). FirstReads reply_at p.line.came (Ok c.args.reply.now)) (sym c.self.view_is) c.requires.front)

pub answer-requires : goal.answer-requires
answer-requires g c = λ shape.
    let v : ClientView = c.self.inside.client in
    let turn = subst (λ (es : List Event). AreInTurn v.who 0 es) c.in_ok-done.ensures.got (subst (λ (w : Identity). AreInTurn w 0 c.take.new.self.events) c.in_ok-done.ensures.who c.in_turn.ensures.turn) in
    done_is_message v.who v.events c.args.reply.now c.in_ok-done.done c.asks_messages.ensures turn c.requires.message c.in_ok-done.ensures.done
    (subst (λ (w : Identity). IsGoodShape w.shape) c.in_ok-done.ensures.who shape)

pub returns-in_err-answer-clause-taken : goal.returns-in_err-answer-clause-taken
returns-in_err-answer-clause-taken g c =
    let old : PilotView = record { client = c.self.inside.client; line = c.self.inside.connection; told = c.self.inside.audience.heard } in
    let mid : PilotView = record { client = c.take.new.self; line = asking c.skip.new.self (option_to_list c.in_ok-done.done); told = c.self.inside.audience.heard } in
    let waits = asked_waits old.line c.skip.new.self c.in_ok-done.done _ c.skip.ensures.waits c.in_ok-done.ensures.done in
    let front = subst (λ (p : PilotView). FirstReads reply_at p.line.came (Ok c.args.reply.now)) (sym c.self.view_is) c.requires.front in
    let first : HasTaken old mid mid.line.waits = skip_takes old mid c.args.reply.now front c.in_ok-done.ensures.who c.in_ok-done.ensures.got c.skip.ensures.told waits c.skip.ensures.came in
    let trouble = c.in_err-answer.field-0.0 in
    failed_by c.from_residual-in_err-answer.result trouble c.from_residual-in_err-answer.ensures.1 (Takes c.args.self.now c.answer.new.self)
    (subst (λ (p : PilotView). Takes {X = Unit} p c.answer.new.self (Err trouble)) c.self.view_is (then_taken {X = Unit} old mid c.answer.new.self (Err trouble) first c.in_err-answer.ensures.taken))

pub returns-in_err-answer-clause-why : goal.returns-in_err-answer-clause-why
returns-in_err-answer-clause-why g c =
    let old : PilotView = record { client = c.self.inside.client; line = c.self.inside.connection; told = c.self.inside.audience.heard } in
    let mid : PilotView = record { client = c.take.new.self; line = c.skip.new.self; told = c.self.inside.audience.heard } in
    let calm : IsCalm old.line mid.line = record { faults = c.skip.ensures.faults; ended = ap (λ (t : Told). t.ended) c.skip.ensures.told } in
    failed_by c.from_residual-in_err-answer.result c.in_err-answer.field-0.0 c.from_residual-in_err-answer.ensures.1 (λ q. IfErr q (StopsBy c.args.self.now c.answer.new.self))
    (subst (λ (p : PilotView). StopsBy p c.answer.new.self c.in_err-answer.field-0.0) c.self.view_is (stops_later old mid c.answer.new.self c.in_err-answer.field-0.0 calm c.in_err-answer.ensures.why))

pub returns-clause-taken : goal.returns-clause-taken
returns-clause-taken g c =
    let old : PilotView = record { client = c.self.inside.client; line = c.self.inside.connection; told = c.self.inside.audience.heard } in
    let mid : PilotView = record { client = c.take.new.self; line = asking c.skip.new.self (option_to_list c.in_ok-done.done); told = c.self.inside.audience.heard } in
    let waits = asked_waits old.line c.skip.new.self c.in_ok-done.done _ c.skip.ensures.waits c.in_ok-done.ensures.done in
    let front = subst (λ (p : PilotView). FirstReads reply_at p.line.came (Ok c.args.reply.now)) (sym c.self.view_is) c.requires.front in
    let first : HasTaken old mid mid.line.waits = skip_takes old mid c.args.reply.now front c.in_ok-done.ensures.who c.in_ok-done.ensures.got c.skip.ensures.told waits c.skip.ensures.came in
    let after = c.answer.new.self in
    let all : HasTaken old after after.line.waits = taken_more old mid after after.line.waits first (all_taken mid after tt c.in_ok-answer.ensures.taken) in
    whole_taken c.args.self.now c.tell.new.self c.tell.result
    (subst (λ (p : PilotView). HasTaken c.args.self.now p p.line.waits) (sym c.tell.ensures.same) (taken_told c.args.self.now after c.tell.new.self.told after.line.waits (subst (λ (p : PilotView). HasTaken p after after.line.waits) c.self.view_is all)))

pub returns-clause-calm : goal.returns-clause-calm
returns-clause-calm g c =
    let old : PilotView = record { client = c.self.inside.client; line = c.self.inside.connection; told = c.self.inside.audience.heard } in
    let mid : PilotView = record { client = c.take.new.self; line = c.skip.new.self; told = c.self.inside.audience.heard } in
    let calm : IsCalm old.line mid.line = record { faults = c.skip.ensures.faults; ended = ap (λ (t : Told). t.ended) c.skip.ensures.told } in
    let all = calm_more old.line mid.line c.answer.new.self.line calm c.in_ok-answer.ensures.calm in
    always _ c.tell.result (subst (λ (p : PilotView). IsCalm c.args.self.now.line p.line) (sym c.tell.ensures.same) (subst (λ (p : PilotView). IsCalm p.line c.answer.new.self.line) c.self.view_is all))

pub returns-clause-why : goal.returns-clause-why
returns-clause-why g c =
    let old : PilotView = record { client = c.self.inside.client; line = c.self.inside.connection; told = c.self.inside.audience.heard } in
    let mid : PilotView = record { client = c.take.new.self; line = c.skip.new.self; told = c.self.inside.audience.heard } in
    let calm : IsCalm old.line mid.line = record { faults = c.skip.ensures.faults; ended = ap (λ (t : Told). t.ended) c.skip.ensures.told } in
    let all = calm_more old.line mid.line c.answer.new.self.line calm c.in_ok-answer.ensures.calm in
    memory_stops c.args.self.now c.tell.new.self c.tell.result
    (subst (λ (p : PilotView). IsCalm c.args.self.now.line p.line) (sym c.tell.ensures.same) (subst (λ (p : PilotView). IsCalm p.line c.answer.new.self.line) c.self.view_is all)) c.tell.ensures.memory

pub returns-clause-lighter : goal.returns-clause-lighter
returns-clause-lighter g c =
    let v : ClientView = c.self.inside.client in
    let turn = subst (λ (es : List Event). AreInTurn v.who 0 es) c.in_ok-done.ensures.got (subst (λ (w : Identity). AreInTurn w 0 c.take.new.self.events) c.in_ok-done.ensures.who c.in_turn.ensures.turn) in
    let fewer = fewer_are_due v.who v.events c.args.reply.now turn in
    let due = subst (λ (es : List Event). weight (outstanding v.who es) < weight (outstanding v.who v.events)) (sym c.in_ok-done.ensures.got) fewer in
    let mine = subst (λ (w : Identity). weight (outstanding w c.take.new.self.events) < weight (outstanding v.who v.events)) (sym c.in_ok-done.ensures.who) due in
    let same : c.tell.new.self.client ≡ c.take.new.self = ap (λ (p : PilotView). p.client) c.tell.ensures.same ∙ c.answer.ensures.client in
    let new = subst (λ (w : ClientView). weight (outstanding w.who w.events) < weight (outstanding v.who v.events)) (sym same) mine in
    always _ c.tell.result
    (subst (λ (p : PilotView). weight (outstanding c.tell.new.self.client.who c.tell.new.self.client.events) < weight (outstanding p.client.who p.client.events)) c.self.view_is new)

pub returns-in_err-answer-clause-told : goal.returns-in_err-answer-clause-told
returns-in_err-answer-clause-told g c =
    let v : ClientView = c.self.inside.client in
    let new = c.answer.new.self in
    let events = ap (λ (w : ClientView). w.events) c.answer.ensures.client ∙ c.in_ok-done.ensures.got in
    failed_by c.from_residual-in_err-answer.result c.in_err-answer.field-0.0 c.from_residual-in_err-answer.ensures.1 (HasTold c.args.self.now new)
    (subst (λ (p : PilotView). HeardPart p.client.who p.client.events p.told new) c.self.view_is
    (told_not v.who v.events (got_now v.events c.args.reply.now) c.self.inside.audience.heard new events c.answer.ensures.told))

pub returns-clause-told : goal.returns-clause-told
returns-clause-told g c =
    let v : ClientView = c.self.inside.client in
    let mid = c.answer.new.self in
    let events = ap (λ (w : ClientView). w.events) c.answer.ensures.client ∙ c.in_ok-done.ensures.got in
    let who = ap (λ (w : ClientView). w.who) c.answer.ensures.client ∙ c.in_ok-done.ensures.who in
    subst (λ (p : PilotView). HasTold p c.tell.new.self c.tell.result) c.self.view_is
    (told_after v.who v.events (got_now v.events c.args.reply.now) c.self.inside.audience.heard mid c.tell.new.self c.tell.result who events c.answer.ensures.told (ap (λ (p : PilotView). p.client) c.tell.ensures.same)
    c.tell.ensures.some c.tell.ensures.all)
