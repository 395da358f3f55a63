-- What is held is answered first, and then the request.
use Rattle.std.proofs.Common.{ℕ, Option, refl, sym, ap, ◌∙◌, subst}
use Rattle.std.specs.Prelude.{OnOk}
use Rattle.sv_office.specs.Entering.{IsEnded}
use Rattle.sv_office.specs.Offices.{session_of}
use Rattle.sv_office.specs.declared.office.Policy.{Policy}
use Rattle.sv_office.specs.declared.guest.Guest.{Guest}
use Rattle.sv_office.proofs.Adding.{keeps_then}
use Rattle.sv_office.proofs.Admitting.{admitted_another}
use Rattle.sv_office.proofs.Answering.{asked_then, held_came}
use Rattle.sv_office.proofs.Leaving.{served_left, served_still}
use Rattle.sv_office.proofs.Stepping1.{away_after, clash, end_shut, ended_asked_in, gone_shut, held_none, may_hold_none, none_held, ok_any, one_yet, taken_answered, taken_nothing, yet_shut, yet_then_ok}
use Rattle.sv_office.proofs.Turning.{one_nowhere, one_then_ended}
use Rattle.sv_office.proofs.office.Office.take_request.Goals as goal

pub end-requires : goal.end-requires
end-requires g c = record {
  served =
      served_left _ c.args.guest.now _ (ap (λ (x : Guest). x.session) c.leave.ensures) (ap (λ (x : Guest). x.peer.told) c.leave.ensures)
      (ap (λ (x : Guest). x.standing) c.leave.ensures) c.requires.served;
}

pub release-requires-clause-served : goal.release-requires-clause-served
release-requires-clause-served g c = served_still _ c.args.guest.now _ refl refl refl c.requires.served

pub returns-in_err-release-clause-added : goal.returns-in_err-release-clause-added
returns-in_err-release-clause-added g c = held_came _ _ c.args.guest.now _ (sym c.admits.ensures ∙ c.if-not-admits.false) c.in_err-release.ensures.added

pub returns-in-Some-clause-served : goal.returns-in-Some-clause-served
returns-in-Some-clause-served g c = served_still _ c.release.new.guest _ refl refl refl c.in_ok-release.ensures.served

pub returns-in-Some-clause-added : goal.returns-in-Some-clause-added
returns-in-Some-clause-added g c = held_came _ _ c.args.guest.now _ (sym c.admits.ensures ∙ c.if-not-admits.false) c.in_ok-release.ensures.added

pub answer-requires-clause-apart : goal.answer-requires-clause-apart
answer-requires-clause-apart g c =
    away_after c.args.self.now.keeper.world c.args.self.now.sound.begun c.requires.apart c.in_ok-release.ensures.session c.in_ok-release.ensures.steward

pub returns-clause-added : goal.returns-clause-added
returns-clause-added g c =
    asked_then _ c.args.guest.now _ (sym c.admits.ensures ∙ c.if-not-admits.false) c.in_ok-release.ensures.added c.in_ok-release.ensures.session
    (λ none. (c.in_ok-release.ensures.idle (c.is_open.ensures.0 c.if-not-is_open.false) none).0) c.in_ok-release.ensures.steward c.answer.ensures.added

pub returns-clause-session : goal.returns-clause-session
returns-clause-session g c = keeps_then c.in_ok-release.ensures.added.added c.in_ok-release.ensures.session
    (λ none. (c.in_ok-release.ensures.idle (c.is_open.ensures.0 c.if-not-is_open.false) none).0) c.answer.ensures.session

pub returns-then-not-admits-clause-added : goal.returns-then-not-admits-clause-added
returns-then-not-admits-clause-added g c = ended_asked_in _ _ c.args.guest.now _ (ap (λ (x : Guest). x.session) c.leave.ensures) c.end.ensures.added

pub returns-then-not-is_open-clause-added : goal.returns-then-not-is_open-clause-added
returns-then-not-is_open-clause-added g c = held_came _ _ c.args.guest.now _ (sym c.admits.ensures ∙ c.if-not-admits.false) c.in_ok-release.ensures.added

pub returns-then-not-admits-clause-taken : goal.returns-then-not-admits-clause-taken
returns-then-not-admits-clause-taken g c = λ yes. absurd (clash yes (sym c.admits.ensures ∙ c.if-not-admits.true))

pub returns-then-not-admits-clause-refused : goal.returns-then-not-admits-clause-refused
returns-then-not-admits-clause-refused g c = λ no.
    subst (λ (o : Option ℕ). OnOk c.end.result (IsEnded o c.end.new.guest.session c.args.self.now.keeper.world.history c.end.new.self.keeper.world.history)) (ap (λ (x : Guest). x.session) c.leave.ensures)
    c.end.ensures.ended

pub returns-then-not-admits-clause-held : goal.returns-then-not-admits-clause-held
returns-then-not-admits-clause-held g c = held_none _ (none_held c.end.ensures.guest.held (ap (λ (x : Guest). x.held) c.leave.ensures))

pub returns-in_err-release-clause-held : goal.returns-in_err-release-clause-held
returns-in_err-release-clause-held g c = held_none _ c.in_err-release.ensures.held

pub returns-then-not-is_open-clause-taken : goal.returns-then-not-is_open-clause-taken
returns-then-not-is_open-clause-taken g c = λ yes.
    taken_nothing (session_of c.args.self.now.steward) c.args.guest.now.session c.release.new.guest.session c.args.self.now.policy.authority c.args.guest.now.held
    c.args.self.now.keeper.world c.release.new.self.keeper.world c.args.request c.in_ok-release.ensures.once c.release.new.guest.session refl

pub returns-then-not-is_open-clause-refused : goal.returns-then-not-is_open-clause-refused
returns-then-not-is_open-clause-refused g c = λ no. absurd (clash (sym c.admits.ensures ∙ c.if-not-admits.false) no)

pub returns-then-not-is_open-clause-held : goal.returns-then-not-is_open-clause-held
returns-then-not-is_open-clause-held g c = held_none _ c.in_ok-release.ensures.held

pub returns-in-Some-clause-taken : goal.returns-in-Some-clause-taken
returns-in-Some-clause-taken g c = λ yes.
    taken_nothing (session_of c.args.self.now.steward) c.args.guest.now.session c.release.new.guest.session c.args.self.now.policy.authority c.args.guest.now.held
    c.args.self.now.keeper.world c.release.new.self.keeper.world c.args.request c.in_ok-release.ensures.once c.release.new.guest.session refl

pub returns-in-Some-clause-refused : goal.returns-in-Some-clause-refused
returns-in-Some-clause-refused g c = λ no. absurd (clash (sym c.admits.ensures ∙ c.if-not-admits.false) no)

pub returns-clause-taken : goal.returns-clause-taken
returns-clause-taken g c = λ yes.
    taken_answered (session_of c.args.self.now.steward) c.args.guest.now.session c.release.new.guest.session c.args.self.now.policy.authority c.args.guest.now.held
    c.args.self.now.keeper.world c.release.new.self.keeper.world c.args.request c.in_ok-release.ensures.once c.answer.result (session_of c.release.new.self.steward)
    c.answer.new.guest.session c.release.new.self.policy.authority c.answer.new.self.keeper.world c.in_ok-release.ensures.steward
    (ap (λ (m : Policy). m.authority) c.in_ok-release.ensures.policy) c.answer.ensures.answered

pub returns-clause-refused : goal.returns-clause-refused
returns-clause-refused g c = λ no. absurd (clash (sym c.admits.ensures ∙ c.if-not-admits.false) no)

pub returns-clause-held : goal.returns-clause-held
returns-clause-held g c = held_none _ (none_held c.answer.ensures.guest.held c.in_ok-release.ensures.held)

pub returns-then-not-admits-clause-asked : goal.returns-then-not-admits-clause-asked
returns-then-not-admits-clause-asked g c =
    one_then_ended (one_nowhere refl (ap (λ (x : Guest). x.session) c.leave.ensures)) c.end.ensures.added.added c.end.ensures.session

pub returns-then-not-admits-clause-idle : goal.returns-then-not-admits-clause-idle
returns-then-not-admits-clause-idle g c =
    ok_any c.end.result (yet_shut (end_shut (gone_shut (ap (λ (x : Guest). x.standing) c.leave.ensures)) c.end.ensures.open))

pub returns-then-not-admits-clause-may_hold : goal.returns-then-not-admits-clause-may_hold
returns-then-not-admits-clause-may_hold g c = may_hold_none _ _ (none_held c.end.ensures.guest.held (ap (λ (x : Guest). x.held) c.leave.ensures))

pub returns-in_err-release-clause-may_hold : goal.returns-in_err-release-clause-may_hold
returns-in_err-release-clause-may_hold g c = may_hold_none _ _ c.in_err-release.ensures.held

pub returns-then-not-is_open-clause-may_hold : goal.returns-then-not-is_open-clause-may_hold
returns-then-not-is_open-clause-may_hold g c = may_hold_none _ _ c.in_ok-release.ensures.held

pub returns-in-Some-clause-may_hold : goal.returns-in-Some-clause-may_hold
returns-in-Some-clause-may_hold g c = sym c.admits.ensures ∙ c.if-not-admits.false

pub returns-clause-may_hold : goal.returns-clause-may_hold
returns-clause-may_hold g c = may_hold_none _ _ (none_held c.answer.ensures.guest.held c.in_ok-release.ensures.held)

pub returns-clause-asked : goal.returns-clause-asked
returns-clause-asked g c =
    one_yet {u = c.args.self.now.keeper.world} {v = c.release.new.self.keeper.world} c.in_ok-release.ensures.asked c.in_ok-release.ensures.idle (c.is_open.ensures.0 c.if-not-is_open.false)
    c.in_ok-release.ensures.steward c.answer.ensures.asked

pub returns-clause-idle : goal.returns-clause-idle
returns-clause-idle g c =
    yet_then_ok c.answer.result c.args.guest.now c.release.new.guest c.answer.new.guest c.args.self.now.keeper.world c.release.new.self.keeper.world
    c.answer.new.self.keeper.world c.in_ok-release.ensures.idle (c.is_open.ensures.0 c.if-not-is_open.false) c.answer.ensures.idle

pub answer-requires-clause-another : goal.answer-requires-clause-another
answer-requires-clause-another g c = admitted_another c.args.self.now.keys c.args.guest.now.key c.args.request (sym c.admits.ensures ∙ c.if-not-admits.false)
