-- What is proved by hand of `Pilot::make`.
use Rattle.std.proofs.Common.{◌≡◌, [], ◌∷◌, ◌≤◌, ◌⊎◌, refl, ap, subst, ◌∙◌}
use Rattle.std.specs.Prelude.{OnOk, IfErr}
use Rattle.sv_client.specs.declared.trace.Event.TheVariants as events
use Rattle.sv_client.specs.Seen.{ClientView}
use Rattle.sv_pilot.specs.declared.trouble.Trouble.{Trouble}
use Rattle.sv_pilot.specs.declared.trouble.Trouble.TheVariants as troubles
use Rattle.sv_client.specs.Traces.{makes}
use Rattle.sv_client.specs.Proper.{IsReadyToMake, most_numbers}
use Rattle.sv_client.specs.Answers.{IsMakeFault}
use Rattle.sv_pilot.specs.Troubles.{trouble_of_make}
use Rattle.sv_pilot.specs.Lines.{IsCalm, asking}
use Rattle.sv_pilot.specs.Doings.{PilotView, HasTold, Did, IsSettled, StoppedMake}
use Rattle.sv_pilot.proofs.Taking.{doing_is, asked_fine, asked_stops, not_refused}
use Rattle.sv_pilot.proofs.Told.{asked_told}
use Rattle.sv_pilot.proofs.Moved.{failed_by}
use Rattle.sv_pilot.proofs.Asked.{stopped_same, asked_is_message, make_refused, make_nothing, made_fine, made_stops}
use Rattle.sv_pilot.proofs.pilot.Pilot.make.Goals as goal

pub ask-requires : goal.ask-requires
ask-requires g c =
    let v : ClientView = c.self.inside.client in
    asked_is_message v.who v.events (events.Make c.args.action) c.in_ok-request.request c.asks_messages.ensures c.in_ok-request.ensures.cause tt c.in_ok-request.ensures.request

pub returns-in_err-request-clause-stopped : goal.returns-in_err-request-clause-stopped
returns-in_err-request-clause-stopped g c =
    let new : PilotView = record { client = c.make.new.self; line = c.self.inside.connection; told = c.self.inside.audience.heard } in
    let same = ap (λ (v : ClientView). record { client = v; line = c.self.inside.connection; told = c.self.inside.audience.heard }) c.in_err-request.ensures.err ∙ c.self.view_is in
    failed_by c.from_residual.result (trouble_of_make c.in_err-request.field-0.0) c.from_residual.ensures.1
    (λ q. IfErr q (λ (trouble : Trouble). (trouble ≡ troubles.Game) ⊎ StoppedMake c.args.action c.args.self.now new trouble)) (make_nothing c.args.self.now new c.args.action c.in_err-request.field-0.0 same)

pub returns-in_err-request-clause-refused : goal.returns-in_err-request-clause-refused
returns-in_err-request-clause-refused g c =
    let new : PilotView = record { client = c.make.new.self; line = c.self.inside.connection; told = c.self.inside.audience.heard } in
    let same = ap (λ (v : ClientView). record { client = v; line = c.self.inside.connection; told = c.self.inside.audience.heard }) c.in_err-request.ensures.err ∙ c.self.view_is in
    let is = subst (λ (p : PilotView). IsMakeFault p.client.who p.client.events c.args.action c.in_err-request.field-0.0) c.self.view_is c.in_err-request.ensures.cause in
    failed_by c.from_residual.result (trouble_of_make c.in_err-request.field-0.0) c.from_residual.ensures.1 (λ q. IfErr q (λ (trouble : Trouble). trouble ≡ troubles.Game
    → (new ≡ c.args.self.now) × ((IsReadyToMake c.args.self.now.client.who c.args.self.now.client.events c.args.action → ⊥) ⊎ (most_numbers ≤ makes c.args.self.now.client.events))))
    (make_refused c.args.self.now new c.args.action c.in_err-request.field-0.0 same is)

pub returns-clause-made : goal.returns-clause-made
returns-clause-made g c =
    let old : PilotView = record { client = c.self.inside.client; line = c.self.inside.connection; told = c.self.inside.audience.heard } in
    let start : PilotView = record { client = c.make.new.self; line = asking c.self.inside.connection (c.in_ok-request.request ∷ []); told = c.self.inside.audience.heard } in
    let new = c.ask.new.self in
    let e = events.Make c.args.action in
    subst (λ (p : PilotView). OnOk c.ask.result (IsReadyToMake p.client.who p.client.events c.args.action × Did e p new [] × IsSettled new × IsCalm p.line new.line)) c.self.view_is
    (made_fine old new c.args.action c.ask.result c.in_ok-request.ensures.cause
    (asked_fine e old start new c.ask.result (doing_is old c.make.new.self e (c.in_ok-request.request ∷ []) c.in_ok-request.ensures.ok c.in_ok-request.ensures.request) c.ask.ensures.taken c.ask.ensures.settled))

pub returns-clause-stopped : goal.returns-clause-stopped
returns-clause-stopped g c =
    let old : PilotView = record { client = c.self.inside.client; line = c.self.inside.connection; told = c.self.inside.audience.heard } in
    let start : PilotView = record { client = c.make.new.self; line = asking c.self.inside.connection (c.in_ok-request.request ∷ []); told = c.self.inside.audience.heard } in
    let new = c.ask.new.self in
    let e = events.Make c.args.action in
    subst (λ (p : PilotView). IfErr c.ask.result (λ (trouble : Trouble). (trouble ≡ troubles.Game) ⊎ StoppedMake c.args.action p new trouble)) c.self.view_is
    (made_stops old new c.args.action c.ask.result c.in_ok-request.ensures.cause
    (asked_stops e old start new c.ask.result (doing_is old c.make.new.self e (c.in_ok-request.request ∷ []) c.in_ok-request.ensures.ok c.in_ok-request.ensures.request) c.ask.ensures.taken (stopped_same old (record { client = c.make.new.self; line = old.line; told = old.told }) new c.ask.result refl c.ask.ensures.why)))

pub returns-clause-refused : goal.returns-clause-refused
returns-clause-refused g c =
    let mid : PilotView = record { client = c.make.new.self; line = c.self.inside.connection; told = c.self.inside.audience.heard } in
    not_refused mid c.ask.new.self c.ask.result _ c.ask.ensures.why

pub returns-clause-told : goal.returns-clause-told
returns-clause-told g c =
    let old : PilotView = record { client = c.self.inside.client; line = c.self.inside.connection; told = c.self.inside.audience.heard } in
    subst (λ (p : PilotView). HasTold p c.ask.new.self c.ask.result) c.self.view_is (asked_told old c.make.new.self (events.Make c.args.action) c.ask.new.self c.ask.result c.in_ok-request.ensures.ok c.ask.ensures.told)
