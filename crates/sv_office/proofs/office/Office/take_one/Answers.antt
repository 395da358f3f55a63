-- It was asked something, or nothing.
use Rattle.std.proofs.Common.{inl, inr, refl, ap}
use Rattle.sv_office.specs.declared.guest.Guest.{Guest}
use Rattle.sv_office.proofs.Hearing2.{turn_asked, turn_nowhere}
use Rattle.sv_office.proofs.Showing.{heard_key}
use Rattle.sv_office.proofs.Stepping1.{yet_same}
use Rattle.sv_office.proofs.Renewed.{kept_same}
use Rattle.sv_office.proofs.office.Office.take_one.Goals as goal

pub returns-in_err-take_request-in-Request-clause-turn : goal.returns-in_err-take_request-in-Request-clause-turn
returns-in_err-take_request-in-Request-clause-turn g c =
    turn_asked c.args.self.now c.take_request.new.self c.args.guest.now c.take_request.new.guest c.asked.result c.take_request.ensures.added c.take_request.ensures.asked
    c.take_request.ensures.steward c.take_request.ensures.policy c.take_request.ensures.keys c.take_request.ensures.key c.take_request.ensures.spoken
    c.take_request.ensures.may_hold

pub returns-in-NotYet-clause-turn : goal.returns-in-NotYet-clause-turn
returns-in-NotYet-clause-turn g c = turn_nowhere _ _ _ _ refl refl refl refl refl refl refl (inl refl)

pub returns-in-NotYet-clause-idle : goal.returns-in-NotYet-clause-idle
returns-in-NotYet-clause-idle g c = yet_same refl refl

pub returns-in-Memory-clause-turn : goal.returns-in-Memory-clause-turn
returns-in-Memory-clause-turn g c =
    turn_nowhere _ _ _ _ refl (ap (λ (guest : Guest). guest.session) c.leave.ensures) refl refl refl (ap (λ (guest : Guest). guest.key) c.leave.ensures)
    (ap (λ (guest : Guest). guest.has_spoken) c.leave.ensures) (inr (ap (λ (guest : Guest). guest.held) c.leave.ensures))

pub returns-in-Memory-clause-idle : goal.returns-in-Memory-clause-idle
returns-in-Memory-clause-idle g c = yet_same (ap (λ (guest : Guest). guest.session) c.leave.ensures) refl

pub returns-in-Closed-clause-turn : goal.returns-in-Closed-clause-turn
returns-in-Closed-clause-turn g c =
    turn_nowhere _ _ _ _ refl c.close.ensures.session refl refl refl c.close.ensures.key c.close.ensures.spoken (inr c.close.ensures.held)

pub returns-in-Closed-clause-idle : goal.returns-in-Closed-clause-idle
returns-in-Closed-clause-idle g c = yet_same c.close.ensures.session refl

pub returns-in_ok-take_request-in-Request-clause-turn : goal.returns-in_ok-take_request-in-Request-clause-turn
returns-in_ok-take_request-in-Request-clause-turn g c =
    turn_asked c.args.self.now c.take_request.new.self c.args.guest.now c.take_request.new.guest c.asked.result c.take_request.ensures.added c.take_request.ensures.asked
    c.take_request.ensures.steward c.take_request.ensures.policy c.take_request.ensures.keys c.take_request.ensures.key c.take_request.ensures.spoken
    c.take_request.ensures.may_hold

pub returns-in_err-take_request-in-Request-clause-kept : goal.returns-in_err-take_request-in-Request-clause-kept
returns-in_err-take_request-in-Request-clause-kept g c = kept_same (λ name. refl) c.take_request.ensures.keys

pub returns-in-NotYet-clause-kept : goal.returns-in-NotYet-clause-kept
returns-in-NotYet-clause-kept g c = kept_same (λ name. refl) refl

pub returns-in-Memory-clause-kept : goal.returns-in-Memory-clause-kept
returns-in-Memory-clause-kept g c = kept_same (λ name. refl) refl

pub returns-in-Closed-clause-kept : goal.returns-in-Closed-clause-kept
returns-in-Closed-clause-kept g c = kept_same (λ name. refl) refl

pub returns-in_ok-take_request-in-Request-clause-kept : goal.returns-in_ok-take_request-in-Request-clause-kept
returns-in_ok-take_request-in-Request-clause-kept g c = kept_same (λ name. refl) c.take_request.ensures.keys

pub returns-in_err-take_request-in-Request-clause-key : goal.returns-in_err-take_request-in-Request-clause-key
returns-in_err-take_request-in-Request-clause-key g c = inl c.take_request.ensures.key

pub returns-in_ok-take_request-in-Request-clause-key : goal.returns-in_ok-take_request-in-Request-clause-key
returns-in_ok-take_request-in-Request-clause-key g c = inl c.take_request.ensures.key

pub returns-in-NotYet-clause-key : goal.returns-in-NotYet-clause-key
returns-in-NotYet-clause-key g c = inl refl

pub returns-in-Memory-clause-key : goal.returns-in-Memory-clause-key
returns-in-Memory-clause-key g c = inl (ap (λ (guest : Guest). guest.key) c.leave.ensures)

pub returns-in-Closed-clause-key : goal.returns-in-Closed-clause-key
returns-in-Closed-clause-key g c = inl c.close.ensures.key

pub returns-in_err-greet-in-Hello-clause-key : goal.returns-in_err-greet-in-Hello-clause-key
returns-in_err-greet-in-Hello-clause-key g c = heard_key _ _ c.in-Hello.digest c.in-Hello.ensures.next c.greet.ensures.key

pub returns-in_ok-greet-in-Hello-clause-key : goal.returns-in_ok-greet-in-Hello-clause-key
returns-in_ok-greet-in-Hello-clause-key g c = heard_key _ _ c.in-Hello.digest c.in-Hello.ensures.next c.greet.ensures.key
