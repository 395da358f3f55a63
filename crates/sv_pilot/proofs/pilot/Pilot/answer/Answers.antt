-- What is proved by hand of `Pilot::answer`.
use Rattle.std.proofs.Common.{Option, Ok, [], ◌∷◌, option_to_list, refl, sym, subst}
use Rattle.std.specs.Prelude.{OnOk, IfErr}
use Rattle.sv_wire.specs.declared.message.Request.{Request}
use Rattle.sv_pilot.specs.declared.trouble.Trouble.TheVariants as troubles
use Rattle.sv_pilot.specs.Lines.{IsCalm}
use Rattle.sv_pilot.specs.Doings.{PilotView, Takes, posting, StopsBy}
use Rattle.sv_pilot.proofs.Taking.{none_posted, nothing_to_post, line_takes}
use Rattle.sv_pilot.proofs.Asked.{sent_calm, sent_why}
use Rattle.sv_pilot.proofs.pilot.Pilot.answer.Goals as goal

pub returns-in_default-clause-taken : goal.returns-in_default-clause-taken
returns-in_default-clause-taken g c =
    let p = c.args.self.now in
    subst (λ (done : Option Request). Takes {X = Unit} (posting p (option_to_list done)) p (Ok tt)) (sym c.in_default.is) (nothing_to_post p)

pub returns-then-not-is_good_shape-clause-taken : goal.returns-then-not-is_good_shape-clause-taken
returns-then-not-is_good_shape-clause-taken g c = none_posted c.args.self.now _ troubles.Reply

pub returns-clause-taken : goal.returns-clause-taken
returns-clause-taken g c =
    let old : PilotView = record { client = c.self.inside.client; line = c.self.inside.connection; told = c.self.inside.audience.heard } in
    let mid : PilotView = record { client = c.self.inside.client; line = c.send.new.self; told = c.self.inside.audience.heard } in
    let asked = c.in-Some.request ∷ [] in
    subst (λ (done : Option Request). Takes (posting c.args.self.now (option_to_list done)) mid c.send.result) (sym c.in-Some.is)
    (subst (λ (p : PilotView). Takes (posting p asked) mid c.send.result) c.self.view_is (line_takes (posting old asked) mid c.send.result refl c.send.ensures.sent))

pub returns-clause-calm : goal.returns-clause-calm
returns-clause-calm g c =
    let old : PilotView = record { client = c.self.inside.client; line = c.self.inside.connection; told = c.self.inside.audience.heard } in
    let mid : PilotView = record { client = c.self.inside.client; line = c.send.new.self; told = c.self.inside.audience.heard } in
    subst (λ (p : PilotView). OnOk c.send.result (IsCalm p.line mid.line)) c.self.view_is (sent_calm old.line mid.line c.send.result c.send.ensures.answer)

pub returns-clause-why : goal.returns-clause-why
returns-clause-why g c =
    let old : PilotView = record { client = c.self.inside.client; line = c.self.inside.connection; told = c.self.inside.audience.heard } in
    let mid : PilotView = record { client = c.self.inside.client; line = c.send.new.self; told = c.self.inside.audience.heard } in
    subst (λ (p : PilotView). IfErr c.send.result (StopsBy p mid)) c.self.view_is (sent_why old mid c.send.result c.send.ensures.answer)
