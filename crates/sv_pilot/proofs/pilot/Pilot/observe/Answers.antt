-- What is proved by hand of `Pilot::observe`.
use Rattle.std.proofs.Common.{◌≡◌, [], ◌∷◌, ◌⊎◌, refl, ap, subst, ◌∙◌}
use Rattle.std.specs.Prelude.{OnOk, IfErr}
use Rattle.sv_client.specs.declared.trace.Event.TheVariants as events
use Rattle.sv_client.specs.Seen.{ClientView}
use Rattle.sv_pilot.specs.declared.trouble.Trouble.{Trouble}
use Rattle.sv_pilot.specs.declared.trouble.Trouble.TheVariants as troubles
use Rattle.sv_pilot.specs.Troubles.{trouble_of_observe}
use Rattle.sv_pilot.specs.Lines.{IsCalm, asking}
use Rattle.sv_pilot.specs.Doings.{PilotView, HasTold, Did, IsSettled, Stopped}
use Rattle.sv_pilot.proofs.Taking.{doing_is, asked_fine, asked_stops, may_stop, not_refused}
use Rattle.sv_pilot.proofs.Told.{asked_told}
use Rattle.sv_pilot.proofs.Moved.{failed_by}
use Rattle.sv_pilot.proofs.Asked.{stopped_same, asked_is_message, nothing_done, observe_or_memory}
use Rattle.sv_pilot.proofs.pilot.Pilot.observe.Goals as goal

pub ask-requires : goal.ask-requires
ask-requires g c =
    let v : ClientView = c.self.inside.client in
    asked_is_message v.who v.events (events.Observe c.args.objects c.args.wait) c.in_ok-request.request c.asks_messages.ensures c.in_ok-request.ensures.cause tt c.in_ok-request.ensures.request

pub returns-in_err-request-clause-stopped : goal.returns-in_err-request-clause-stopped
returns-in_err-request-clause-stopped g c =
    let new : PilotView = record { client = c.observe.new.self; line = c.self.inside.connection; told = c.self.inside.audience.heard } in
    let same = ap (λ (v : ClientView). record { client = v; line = c.self.inside.connection; told = c.self.inside.audience.heard }) c.in_err-request.ensures.err ∙ c.self.view_is in
    failed_by c.from_residual.result (trouble_of_observe c.in_err-request.field-0.0) c.from_residual.ensures.1 (λ q. IfErr q (λ (trouble : Trouble). (trouble ≡ troubles.Game) ⊎ Stopped (events.Observe c.args.objects c.args.wait) c.args.self.now new trouble))
    (nothing_done (events.Observe c.args.objects c.args.wait) c.args.self.now new _ same (observe_or_memory c.in_err-request.field-0.0))

pub returns-clause-observed : goal.returns-clause-observed
returns-clause-observed g c =
    let old : PilotView = record { client = c.self.inside.client; line = c.self.inside.connection; told = c.self.inside.audience.heard } in
    let start : PilotView = record { client = c.observe.new.self; line = asking c.self.inside.connection (c.in_ok-request.request ∷ []); told = c.self.inside.audience.heard } in
    let new = c.ask.new.self in
    subst (λ (p : PilotView). OnOk c.ask.result (Did (events.Observe c.args.objects c.args.wait) p new [] × IsSettled new × IsCalm p.line new.line)) c.self.view_is
    (asked_fine (events.Observe c.args.objects c.args.wait) old start new c.ask.result (doing_is old c.observe.new.self (events.Observe c.args.objects c.args.wait) (c.in_ok-request.request ∷ []) c.in_ok-request.ensures.ok c.in_ok-request.ensures.request) c.ask.ensures.taken c.ask.ensures.settled)

pub returns-clause-stopped : goal.returns-clause-stopped
returns-clause-stopped g c =
    let old : PilotView = record { client = c.self.inside.client; line = c.self.inside.connection; told = c.self.inside.audience.heard } in
    let start : PilotView = record { client = c.observe.new.self; line = asking c.self.inside.connection (c.in_ok-request.request ∷ []); told = c.self.inside.audience.heard } in
    let new = c.ask.new.self in
    subst (λ (p : PilotView). IfErr c.ask.result (λ (trouble : Trouble). (trouble ≡ troubles.Game) ⊎ Stopped (events.Observe c.args.objects c.args.wait) p new trouble)) c.self.view_is
    (may_stop (events.Observe c.args.objects c.args.wait) old new c.ask.result
    (asked_stops (events.Observe c.args.objects c.args.wait) old start new c.ask.result (doing_is old c.observe.new.self (events.Observe c.args.objects c.args.wait) (c.in_ok-request.request ∷ []) c.in_ok-request.ensures.ok c.in_ok-request.ensures.request) c.ask.ensures.taken (stopped_same old (record { client = c.observe.new.self; line = old.line; told = old.told }) new c.ask.result refl c.ask.ensures.why)))

pub returns-clause-refused : goal.returns-clause-refused
returns-clause-refused g c =
    let mid : PilotView = record { client = c.observe.new.self; line = c.self.inside.connection; told = c.self.inside.audience.heard } in
    not_refused mid c.ask.new.self c.ask.result _ c.ask.ensures.why

pub returns-clause-told : goal.returns-clause-told
returns-clause-told g c =
    let old : PilotView = record { client = c.self.inside.client; line = c.self.inside.connection; told = c.self.inside.audience.heard } in
    subst (λ (p : PilotView). HasTold p c.ask.new.self c.ask.result) c.self.view_is (asked_told old c.observe.new.self (events.Observe c.args.objects c.args.wait) c.ask.new.self c.ask.result c.in_ok-request.ensures.ok c.ask.ensures.told)
