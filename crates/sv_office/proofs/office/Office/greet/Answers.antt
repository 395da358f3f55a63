-- It was asked what is misshapen, or nothing; or the keys were looked at.
use Rattle.std.proofs.Common.{Some, inl, inr, refl, sym, ap, ◌∙◌}
use Rattle.sv_wire.specs.declared.message.Request.TheVariants as requests
use Rattle.sv_office.specs.declared.guest.Guest.{Guest}
use Rattle.sv_office.proofs.Asking.{may_hold_with}
use Rattle.sv_office.proofs.Hearing2.{turn_asked, turn_looked, turn_nowhere}
use Rattle.sv_office.proofs.Stepping1.{gone_shut, may_hold_none, yet_same, yet_shut}
use Rattle.sv_office.proofs.Renewed.{kept_same}
use Rattle.sv_office.proofs.office.Office.greet.Goals as goal

pub returns-then-guest-clause-turn : goal.returns-then-guest-clause-turn
returns-then-guest-clause-turn g c =
    turn_asked c.args.self.now c.take_request.new.self c.args.guest.now c.take_request.new.guest requests.Bad c.take_request.ensures.added c.take_request.ensures.asked
    c.take_request.ensures.steward c.take_request.ensures.policy c.take_request.ensures.keys c.take_request.ensures.key c.take_request.ensures.spoken
    c.take_request.ensures.may_hold

pub returns-in_default-clause-turn : goal.returns-in_default-clause-turn
returns-in_default-clause-turn g c = turn_nowhere _ _ _ _ refl refl refl refl refl refl refl (inl refl)

pub returns-in_default-clause-idle : goal.returns-in_default-clause-idle
returns-in_default-clause-idle g c = yet_same refl refl

pub returns-then-look-clause-turn : goal.returns-then-look-clause-turn
returns-then-look-clause-turn g c =
    turn_looked _ _ c.args.guest.now _ refl refl refl refl c.if-guest.false (inr (refl, sym c.look.ensures.answer ∙ c.if-look.true))
    (λ may. may_hold_with c.args.self.now.keys (Some c.look.new.self) c.args.guest.now.key (Some c.args.digest) c.args.guest.now.held may (λ shown. refl))

pub returns-then-look-clause-idle : goal.returns-then-look-clause-idle
returns-then-look-clause-idle g c = yet_same refl refl

pub returns-clause-turn : goal.returns-clause-turn
returns-clause-turn g c =
    turn_looked _ _ c.args.guest.now c.leave.new.self refl (ap (λ (guest : Guest). guest.session) c.leave.ensures) refl refl c.if-guest.false
    (inl (ap (λ (guest : Guest). guest.key) c.leave.ensures)) (λ may. may_hold_none (Some c.look.new.self) c.leave.new.self.key (ap (λ (guest : Guest). guest.held) c.leave.ensures))

pub returns-clause-idle : goal.returns-clause-idle
returns-clause-idle g c = yet_shut (gone_shut (ap (λ (guest : Guest). guest.standing) c.leave.ensures))

pub returns-then-guest-clause-kept : goal.returns-then-guest-clause-kept
returns-then-guest-clause-kept g c = kept_same (λ name. refl) c.take_request.ensures.keys

pub returns-in_default-clause-kept : goal.returns-in_default-clause-kept
returns-in_default-clause-kept g c = kept_same (λ name. refl) refl

pub returns-then-guest-clause-key : goal.returns-then-guest-clause-key
returns-then-guest-clause-key g c = inl c.take_request.ensures.key

pub returns-in_default-clause-key : goal.returns-in_default-clause-key
returns-in_default-clause-key g c = inl refl

pub returns-then-look-clause-key : goal.returns-then-look-clause-key
returns-then-look-clause-key g c = inr refl

pub returns-clause-key : goal.returns-clause-key
returns-clause-key g c = inl (ap (λ (guest : Guest). guest.key) c.leave.ensures)
