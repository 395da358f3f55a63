-- It was answered, and maybe its session has its End.
use Rattle.sv_office.proofs.Hearing2.{turn_then_ended}
use Rattle.sv_office.proofs.Stepping1.{end_shut, not_open, yet_shut}
use Rattle.std.proofs.Common.{refl}
use Rattle.sv_office.proofs.Showing.{heard_still}
use Rattle.sv_office.proofs.Renewed.{kept_same, kept_then}
use Rattle.sv_office.proofs.office.Office.take_next.Goals as goal

pub returns-in_err-end-clause-turn : goal.returns-in_err-end-clause-turn
returns-in_err-end-clause-turn g c =
    turn_then_ended _ c.take_one.new.self _ _ c.take_one.new.guest _ c.take_one.ensures.turn c.end.ensures.added c.end.ensures.session c.end.ensures.steward
    c.end.ensures.policy c.end.ensures.keys c.end.ensures.guest

pub returns-then-not-is_open-clause-turn : goal.returns-then-not-is_open-clause-turn
returns-then-not-is_open-clause-turn g c =
    turn_then_ended _ c.take_one.new.self _ _ c.take_one.new.guest _ c.take_one.ensures.turn c.end.ensures.added c.end.ensures.session c.end.ensures.steward
    c.end.ensures.policy c.end.ensures.keys c.end.ensures.guest

pub returns-then-not-is_open-clause-idle : goal.returns-then-not-is_open-clause-idle
returns-then-not-is_open-clause-idle g c = yet_shut (end_shut (not_open c.if-not-is_open.true c.is_open.ensures.1) c.end.ensures.open)

pub returns-in_err-end-clause-kept : goal.returns-in_err-end-clause-kept
returns-in_err-end-clause-kept g c = kept_then c.take_one.ensures.kept (kept_same (λ name. refl) c.end.ensures.keys)

pub returns-then-not-is_open-clause-kept : goal.returns-then-not-is_open-clause-kept
returns-then-not-is_open-clause-kept g c = kept_then c.take_one.ensures.kept (kept_same (λ name. refl) c.end.ensures.keys)

pub returns-in_err-end-clause-key : goal.returns-in_err-end-clause-key
returns-in_err-end-clause-key g c = heard_still _ c.end.ensures.guest.key c.take_one.ensures.key

pub returns-then-not-is_open-clause-key : goal.returns-then-not-is_open-clause-key
returns-then-not-is_open-clause-key g c = heard_still _ c.end.ensures.guest.key c.take_one.ensures.key
