-- What is proved by hand of `Pilot::join`.
use Rattle.std.proofs.Common.{◌≡◌, ◌≤◌, ◌⊎◌, inr, [], Ok, Err, refl, sym, ap, subst, ◌∙◌, zero-add}
use Rattle.std.specs.Prelude.{All, OnOk, IfErr}
use Rattle.sv_wire.specs.Grammar.{IsWireRequest}
use Rattle.sv_client.specs.declared.trace.Event.TheVariants as events
use Rattle.sv_client.specs.Traces.{joins}
use Rattle.sv_client.specs.Proper.{most_numbers}
use Rattle.sv_client.specs.Seen.{ClientView}
use Rattle.sv_pilot.specs.declared.trouble.Trouble.{Trouble}
use Rattle.sv_pilot.specs.declared.trouble.Trouble.TheVariants as troubles
use Rattle.sv_pilot.specs.Lines.{IsCalm}
use Rattle.sv_pilot.specs.Doings.{PilotView, Takes, Did, doing, HasTold, IsSettled, Stopped}
use Rattle.sv_pilot.proofs.Taking.{doing_is, none_posted_told, calm_same, did_sent, then_taken, all_taken, sending_stops_it, asked_fine, asked_stops, may_stop, not_refused}
use Rattle.sv_pilot.proofs.Told.{told_after, told_then}
use Rattle.sv_pilot.proofs.Moved.{failed_by}
use Rattle.sv_pilot.proofs.Asked.{nothing_done, not_of_game, settled_later, stopped_later}
use Rattle.sv_pilot.proofs.pilot.Pilot.join.Goals as goal

pub send_all-requires : goal.send_all-requires
send_all-requires g c =
    let n = joins c.self.inside.client.events in
    subst (All IsWireRequest) (sym (c.as_slice.ensures.value ∙ c.in_ok-requests.ensures.requests)) (c.asks_messages.ensures (events.Join n) (sym (zero-add n)) tt)

pub returns-in_err-requests-clause-stopped : goal.returns-in_err-requests-clause-stopped
returns-in_err-requests-clause-stopped g c =
    let new : PilotView = record { client = c.join.new.self; line = c.self.inside.connection; told = c.self.inside.audience.heard } in
    let e = events.Join (joins c.args.self.now.client.events) in
    let same = ap (λ (v : ClientView). record { client = v; line = c.self.inside.connection; told = c.self.inside.audience.heard }) c.in_err-requests.ensures.err ∙ c.self.view_is in
    failed_by c.from_residual.result troubles.Memory c.from_residual.ensures.1 (λ q. IfErr q (λ (trouble : Trouble). (trouble ≡ troubles.Game) ⊎ Stopped e c.args.self.now new trouble))
    (nothing_done e c.args.self.now new troubles.Memory same (inr refl))

pub returns-in_err-tell-clause-stopped : goal.returns-in_err-tell-clause-stopped
returns-in_err-tell-clause-stopped g c =
    let old : PilotView = record { client = c.self.inside.client; line = c.self.inside.connection; told = c.self.inside.audience.heard } in
    let start : PilotView = record { client = c.join.new.self; line = c.self.inside.connection; told = c.self.inside.audience.heard } in
    let new : PilotView = record start { told = c.tell.new.self.heard } in
    let e = events.Join (joins old.client.events) in
    let asked = c.in_ok-requests.requests.items in
    let did = subst (λ (p : PilotView). Takes {X = Unit} p new (Err troubles.Memory)) (doing_is old c.join.new.self e asked c.in_ok-requests.ensures.ok c.in_ok-requests.ensures.requests)
    (none_posted_told start c.tell.new.self.heard asked troubles.Memory) in
    failed_by c.from_residual-in_err-tell.result troubles.Memory c.from_residual-in_err-tell.ensures.1
    (λ q. IfErr q (λ (t : Trouble). (t ≡ troubles.Game) ⊎ Stopped (events.Join (joins c.args.self.now.client.events)) c.args.self.now new t))
    (subst (λ (p : PilotView). (troubles.Memory ≡ troubles.Game) ⊎ Stopped (events.Join (joins p.client.events)) p new troubles.Memory) c.self.view_is (inr (inr (did.0, did.1, calm_same old.line old.line refl))))

pub returns-in_err-tell-clause-told : goal.returns-in_err-tell-clause-told
returns-in_err-tell-clause-told g c =
    let old : PilotView = record { client = c.self.inside.client; line = c.self.inside.connection; told = c.self.inside.audience.heard } in
    let start : PilotView = record { client = c.join.new.self; line = c.self.inside.connection; told = c.self.inside.audience.heard } in
    let new : PilotView = record start { told = c.tell.new.self.heard } in
    let is = c.in_ok-requests.ensures.ok in
    failed_by c.from_residual-in_err-tell.result troubles.Memory c.from_residual-in_err-tell.ensures.1 (HasTold c.args.self.now new)
    (subst (λ (p : PilotView). HasTold {X = Unit} p new (Err troubles.Memory)) c.self.view_is
    (told_after {X = Unit} old.client.who old.client.events (events.Join (joins old.client.events)) old.told start new (Err troubles.Memory) (ap (λ (v : ClientView). v.who) is) (ap (λ (v : ClientView). v.events) is) refl refl c.tell.ensures.some tt))

pub returns-in_err-send_all-clause-told : goal.returns-in_err-send_all-clause-told
returns-in_err-send_all-clause-told g c =
    let old : PilotView = record { client = c.self.inside.client; line = c.self.inside.connection; told = c.self.inside.audience.heard } in
    let start : PilotView = record { client = c.join.new.self; line = c.self.inside.connection; told = c.self.inside.audience.heard } in
    let mid : PilotView = record { client = c.join.new.self; line = c.send_all.new.self; told = c.tell.new.self.heard } in
    let is = c.in_ok-requests.ensures.ok in
    let trouble = c.in_err-send_all.field-0.0 in
    failed_by c.from_residual-in_err-send_all.result trouble c.from_residual-in_err-send_all.ensures.1 (HasTold c.args.self.now mid)
    (subst (λ (p : PilotView). HasTold {X = Unit} p mid (Err trouble)) c.self.view_is
    (told_after {X = Unit} old.client.who old.client.events (events.Join (joins old.client.events)) old.told start mid (Err trouble) (ap (λ (v : ClientView). v.who) is) (ap (λ (v : ClientView). v.events) is) refl refl c.tell.ensures.some tt))

pub returns-clause-told : goal.returns-clause-told
returns-clause-told g c =
    let old : PilotView = record { client = c.self.inside.client; line = c.self.inside.connection; told = c.self.inside.audience.heard } in
    let start : PilotView = record { client = c.join.new.self; line = c.self.inside.connection; told = c.self.inside.audience.heard } in
    let mid : PilotView = record { client = c.join.new.self; line = c.send_all.new.self; told = c.tell.new.self.heard } in
    let new = c.settle.new.self in
    let is = c.in_ok-requests.ensures.ok in
    let who = ap (λ (v : ClientView). v.who) is in
    subst (λ (p : PilotView). HasTold p new c.settle.result) c.self.view_is
    (told_then old.client.who old.client.events old.told mid new c.settle.result who
    (told_after {X = Unit} old.client.who old.client.events (events.Join (joins old.client.events)) old.told start mid (Ok tt) who (ap (λ (v : ClientView). v.events) is) refl refl c.tell.ensures.some c.in_ok-tell.ensures.all)
    c.settle.ensures.told)

pub returns-in_err-send_all-clause-stopped : goal.returns-in_err-send_all-clause-stopped
returns-in_err-send_all-clause-stopped g c =
    let old : PilotView = record { client = c.self.inside.client; line = c.self.inside.connection; told = c.self.inside.audience.heard } in
    let mid : PilotView = record { client = c.join.new.self; line = c.send_all.new.self; told = c.tell.new.self.heard } in
    let trouble = c.in_err-send_all.field-0.0 in
    let e = events.Join (joins old.client.events) in
    let did = did_sent e old mid _ (Err trouble) c.in_ok-requests.ensures.ok (c.as_slice.ensures.value ∙ c.in_ok-requests.ensures.requests) c.in_err-send_all.ensures.sent in
    failed_by c.from_residual-in_err-send_all.result trouble c.from_residual-in_err-send_all.ensures.1
    (λ q. IfErr q (λ (t : Trouble). (t ≡ troubles.Game) ⊎ Stopped (events.Join (joins c.args.self.now.client.events)) c.args.self.now mid t))
    (subst (λ (p : PilotView). (trouble ≡ troubles.Game) ⊎ Stopped (events.Join (joins p.client.events)) p mid trouble) c.self.view_is
    (inr (inr (did.0, did.1, sending_stops_it old mid trouble c.in_err-send_all.ensures.answer))))

pub returns-in_err-send_all-clause-refused : goal.returns-in_err-send_all-clause-refused
returns-in_err-send_all-clause-refused g c =
    let mid : PilotView = record { client = c.join.new.self; line = c.send_all.new.self; told = c.tell.new.self.heard } in
    let old : PilotView = record { client = c.self.inside.client; line = c.self.inside.connection; told = c.self.inside.audience.heard } in
    let trouble = c.in_err-send_all.field-0.0 in
    failed_by c.from_residual-in_err-send_all.result trouble c.from_residual-in_err-send_all.ensures.1 (λ q. IfErr q (λ (t : Trouble). t ≡ troubles.Game → (mid ≡ c.args.self.now) × (most_numbers ≤ joins c.args.self.now.client.events)))
    (λ game. absurd (not_of_game old mid trouble c.in_err-send_all.ensures.answer game))

pub returns-clause-joined : goal.returns-clause-joined
returns-clause-joined g c =
    let old : PilotView = record { client = c.self.inside.client; line = c.self.inside.connection; told = c.self.inside.audience.heard } in
    let mid : PilotView = record { client = c.join.new.self; line = c.send_all.new.self; told = c.tell.new.self.heard } in
    let new = c.settle.new.self in
    let e = events.Join (joins old.client.events) in
    let did = did_sent e old mid _ (Ok tt) c.in_ok-requests.ensures.ok (c.as_slice.ensures.value ∙ c.in_ok-requests.ensures.requests) c.in_ok-send_all.ensures.sent in
    let taken = then_taken (doing old e) mid new c.settle.result (all_taken (doing old e) mid tt did) c.settle.ensures.taken in
    subst (λ (p : PilotView). OnOk c.settle.result (Did (events.Join (joins p.client.events)) p new [] × IsSettled new × IsCalm p.line new.line)) c.self.view_is
    (asked_fine e old (doing old e) new c.settle.result refl taken (settled_later old mid new c.settle.result c.in_ok-send_all.ensures.answer c.settle.ensures.settled))

pub returns-clause-stopped : goal.returns-clause-stopped
returns-clause-stopped g c =
    let old : PilotView = record { client = c.self.inside.client; line = c.self.inside.connection; told = c.self.inside.audience.heard } in
    let mid : PilotView = record { client = c.join.new.self; line = c.send_all.new.self; told = c.tell.new.self.heard } in
    let new = c.settle.new.self in
    let e = events.Join (joins old.client.events) in
    let did = did_sent e old mid _ (Ok tt) c.in_ok-requests.ensures.ok (c.as_slice.ensures.value ∙ c.in_ok-requests.ensures.requests) c.in_ok-send_all.ensures.sent in
    let taken = then_taken (doing old e) mid new c.settle.result (all_taken (doing old e) mid tt did) c.settle.ensures.taken in
    subst (λ (p : PilotView). IfErr c.settle.result (λ (trouble : Trouble). (trouble ≡ troubles.Game) ⊎ Stopped (events.Join (joins p.client.events)) p new trouble)) c.self.view_is
    (may_stop e old new c.settle.result
    (asked_stops e old (doing old e) new c.settle.result refl taken (stopped_later old mid new c.settle.result c.in_ok-send_all.ensures.answer c.settle.ensures.why)))

pub returns-clause-refused : goal.returns-clause-refused
returns-clause-refused g c =
    let mid : PilotView = record { client = c.join.new.self; line = c.send_all.new.self; told = c.tell.new.self.heard } in
    not_refused mid c.settle.new.self c.settle.result _ c.settle.ensures.why
