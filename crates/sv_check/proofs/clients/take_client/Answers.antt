-- What is proved by hand of `take_client`.
use Rattle.std.proofs.Common.{inr, ℕ, List, ◌++◌, length, refl, ap, ◌∙◌, Bor}
use Rattle.sv_report.specs.Report.{event_lines}
use Rattle.sv_check.specs.Serving.{entries_of}
use Rattle.sv_check.specs.Acting.{journal_events}
use Rattle.sv_check.specs.Clients.{EventsStop, IsClientStop}
use Rattle.sv_check.proofs.Acted.{start_lines, events_stopped, stopped_whole, wrong_from, missing_from}
use Rattle.sv_check.proofs.clients.take_client.Goals as goal

pub returns-in_err-events-clause-wrong : goal.returns-in_err-events-clause-wrong
returns-in_err-events-clause-wrong c =
    let part = c.args.part.now in
    missing_from _ part.shape (entries_of c.args.served.now) part.number part.first part.plan.now c.args.text.now c.as_bytes.result.now c.in_err-events.field-0.0
    c.from_residual-in_err-events.result c.from_residual-in_err-events.ensures.1 c.in_err-events.ensures.wrong (c.as_bytes.ensures.value ∙ c.in_ok-line.ensures) c.in_err-events.ensures.differs

pub returns-in_err-rest-clause-wrong : goal.returns-in_err-rest-clause-wrong
returns-in_err-rest-clause-wrong c =
    let part = c.args.part.now in
    let entries = entries_of c.args.served.now in
    let actor = c.in_ok-actor.actor in
    let made = c.in_ok-actor.ensures in
    let text = c.in_ok-events.events.now in
    let line = c.as_bytes.ensures.value ∙ c.in_ok-line.ensures in
    let begun = c.in_ok-events.ensures.taken ∙ ap (λ (l : List ℕ). l ++ text) line in
    wrong_from (Bor (List ℕ)) _ (EventsStop entries actor text) (IsClientStop part.shape entries part.number part.first part.plan.now c.args.text.now) c.in_err-rest.field-0.0
    c.from_residual-in_err-rest.result c.from_residual-in_err-rest.ensures.1
    (λ left s. inr (events_stopped entries actor part.number part.first part.shape part.plan.now c.args.text.now text left c.requires.number c.requires.plan made.who made.first made.script made.new begun s))
    c.in_err-rest.ensures.wrong

pub returns-clause-wrong : goal.returns-clause-wrong
returns-clause-wrong c =
    let part = c.args.part.now in
    let entries = entries_of c.args.served.now in
    let old = c.in_ok-actor.actor in
    let made = c.in_ok-actor.ensures in
    let text = c.in_ok-events.events.now in
    let line = c.as_bytes.ensures.value ∙ c.in_ok-line.ensures in
    let begun = c.in_ok-events.ensures.taken ∙ ap (λ (l : List ℕ). l ++ text) line in
    let actor = c.take_events.new.actor in
    let on = c.in_ok-rest.ensures.on in
    let rest = c.in_ok-rest.rest.now in
    let lines = start_lines entries old text (event_lines entries (journal_events actor) ++ rest) made.new c.in_ok-rest.ensures.taken in
    inr (stopped_whole entries actor part.number part.first part.shape part.plan.now on.acting (on.who ∙ made.who) (on.first ∙ made.first) (on.script ∙ made.script) c.args.text.now text rest (length rest)
    c.requires.number c.requires.plan begun lines refl c.in_ok-rest.ensures.done (c.in-None.ensures.unfit refl))
