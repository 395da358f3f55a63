-- What is proved by hand of `Pilot::ask`.
use Rattle.std.proofs.Common.{◌≡◌, List, [], ◌∷◌, Ok, Err, OnOk, IfErr, refl, subst}
use Rattle.sv_client.specs.declared.trace.Event.{Event}
use Rattle.sv_pilot.specs.declared.trouble.Trouble.TheVariants as troubles
use Rattle.sv_pilot.specs.Lines.{IsCalm}
use Rattle.sv_pilot.specs.Doings.{PilotView, Takes, Hears, posting, IsSettled, StopsBy}
use Rattle.sv_pilot.proofs.Taking.{none_posted_told, line_takes, all_taken, then_taken, sending_stops_it}
use Rattle.sv_pilot.proofs.Told.{told_after, told_then}
use Rattle.sv_pilot.proofs.Moved.{failed_by}
use Rattle.sv_pilot.proofs.Asked.{settled_later, stopped_later}
use Rattle.sv_pilot.proofs.pilot.Pilot.ask.Goals as goal

pub returns-in_err-tell-clause-taken : goal.returns-in_err-tell-clause-taken
returns-in_err-tell-clause-taken g c =
    let old : PilotView = record { client = c.self.inside.client; line = c.self.inside.connection; told = c.self.inside.audience.heard } in
    let new : PilotView = record old { told = c.tell.new.self.heard } in
    let asked = c.args.request.now ∷ [] in
    failed_by c.from_residual.result troubles.Memory c.from_residual.ensures.1 (Takes (posting c.args.self.now asked) new)
    (subst (λ (p : PilotView). Takes {X = Unit} (posting p asked) new (Err troubles.Memory)) c.self.view_is (none_posted_told old c.tell.new.self.heard asked troubles.Memory))

pub returns-in_err-tell-clause-told : goal.returns-in_err-tell-clause-told
returns-in_err-tell-clause-told g c =
    let old : PilotView = record { client = c.self.inside.client; line = c.self.inside.connection; told = c.self.inside.audience.heard } in
    let new : PilotView = record old { told = c.tell.new.self.heard } in
    subst (λ (p : PilotView). (t : List Event) (e : Event) → p.client.events ≡ e ∷ t → Hears p.client.who t p.told new c.from_residual.result) c.self.view_is
    (λ t e is. failed_by c.from_residual.result troubles.Memory c.from_residual.ensures.1 (Hears old.client.who t old.told new) (told_after {X = Unit} old.client.who t e old.told old new (Err troubles.Memory) refl is refl refl c.tell.ensures.some tt))

pub returns-in_err-send-clause-told : goal.returns-in_err-send-clause-told
returns-in_err-send-clause-told g c =
    let old : PilotView = record { client = c.self.inside.client; line = c.self.inside.connection; told = c.self.inside.audience.heard } in
    let mid : PilotView = record { client = c.self.inside.client; line = c.send.new.self; told = c.tell.new.self.heard } in
    let trouble = c.in_err-send.field-0.0 in
    subst (λ (p : PilotView). (t : List Event) (e : Event) → p.client.events ≡ e ∷ t → Hears p.client.who t p.told mid c.from_residual-in_err-send.result) c.self.view_is
    (λ t e is. failed_by c.from_residual-in_err-send.result trouble c.from_residual-in_err-send.ensures.1 (Hears old.client.who t old.told mid) (told_after {X = Unit} old.client.who t e old.told old mid (Err trouble) refl is refl refl c.tell.ensures.some tt))

pub returns-clause-told : goal.returns-clause-told
returns-clause-told g c =
    let old : PilotView = record { client = c.self.inside.client; line = c.self.inside.connection; told = c.self.inside.audience.heard } in
    let mid : PilotView = record { client = c.self.inside.client; line = c.send.new.self; told = c.tell.new.self.heard } in
    let new = c.settle.new.self in
    subst (λ (p : PilotView). (t : List Event) (e : Event) → p.client.events ≡ e ∷ t → Hears p.client.who t p.told new c.settle.result) c.self.view_is
    (λ t e is. told_then old.client.who t old.told mid new c.settle.result refl (told_after {X = Unit} old.client.who t e old.told old mid (Ok tt) refl is refl refl c.tell.ensures.some c.in_ok-tell.ensures.all) c.settle.ensures.told)

pub returns-in_err-send-clause-taken : goal.returns-in_err-send-clause-taken
returns-in_err-send-clause-taken g c =
    let old : PilotView = record { client = c.self.inside.client; line = c.self.inside.connection; told = c.self.inside.audience.heard } in
    let mid : PilotView = record { client = c.self.inside.client; line = c.send.new.self; told = c.tell.new.self.heard } in
    let asked = c.args.request.now ∷ [] in
    let trouble = c.in_err-send.field-0.0 in
    failed_by c.from_residual-in_err-send.result trouble c.from_residual-in_err-send.ensures.1 (Takes (posting c.args.self.now asked) mid)
    (subst (λ (p : PilotView). Takes {X = Unit} (posting p asked) mid (Err trouble)) c.self.view_is (line_takes {X = Unit} (posting old asked) mid (Err trouble) refl c.in_err-send.ensures.sent))

pub returns-in_err-send-clause-why : goal.returns-in_err-send-clause-why
returns-in_err-send-clause-why g c =
    let old : PilotView = record { client = c.self.inside.client; line = c.self.inside.connection; told = c.self.inside.audience.heard } in
    let mid : PilotView = record { client = c.self.inside.client; line = c.send.new.self; told = c.tell.new.self.heard } in
    failed_by c.from_residual-in_err-send.result c.in_err-send.field-0.0 c.from_residual-in_err-send.ensures.1 (λ q. IfErr q (StopsBy c.args.self.now mid))
    (subst (λ (p : PilotView). StopsBy p mid c.in_err-send.field-0.0) c.self.view_is (sending_stops_it old mid c.in_err-send.field-0.0 c.in_err-send.ensures.answer))

pub returns-clause-taken : goal.returns-clause-taken
returns-clause-taken g c =
    let old : PilotView = record { client = c.self.inside.client; line = c.self.inside.connection; told = c.self.inside.audience.heard } in
    let mid : PilotView = record { client = c.self.inside.client; line = c.send.new.self; told = c.tell.new.self.heard } in
    let asked = c.args.request.now ∷ [] in
    let sent = all_taken (posting old asked) mid tt (line_takes {X = Unit} (posting old asked) mid (Ok tt) refl c.in_ok-send.ensures.sent) in
    subst (λ (p : PilotView). Takes (posting p asked) c.settle.new.self c.settle.result) c.self.view_is (then_taken (posting old asked) mid c.settle.new.self c.settle.result sent c.settle.ensures.taken)

pub returns-clause-settled : goal.returns-clause-settled
returns-clause-settled g c =
    let old : PilotView = record { client = c.self.inside.client; line = c.self.inside.connection; told = c.self.inside.audience.heard } in
    let mid : PilotView = record { client = c.self.inside.client; line = c.send.new.self; told = c.tell.new.self.heard } in
    subst (λ (p : PilotView). OnOk c.settle.result (IsSettled c.settle.new.self × IsCalm p.line c.settle.new.self.line)) c.self.view_is
    (settled_later old mid c.settle.new.self c.settle.result c.in_ok-send.ensures.answer c.settle.ensures.settled)

pub returns-clause-why : goal.returns-clause-why
returns-clause-why g c =
    let old : PilotView = record { client = c.self.inside.client; line = c.self.inside.connection; told = c.self.inside.audience.heard } in
    let mid : PilotView = record { client = c.self.inside.client; line = c.send.new.self; told = c.tell.new.self.heard } in
    subst (λ (p : PilotView). IfErr c.settle.result (StopsBy p c.settle.new.self)) c.self.view_is (stopped_later old mid c.settle.new.self c.settle.result c.in_ok-send.ensures.answer c.settle.ensures.why)
