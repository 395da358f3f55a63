-- More was heard of it, and maybe its session has its End.
use Rattle.std.proofs.Common.{refl}
use Rattle.sv_office.proofs.Hearing2.{turn_ended_as, turn_nowhere}
use Rattle.sv_office.proofs.Leaving.{served_still}
use Rattle.sv_office.proofs.Stepping1.{end_shut, not_open, yet_same, yet_shut}
use Rattle.sv_office.proofs.Renewed.{kept_same}
use Rattle.sv_office.proofs.office.Office.read_guest.Goals as goal

pub end-requires : goal.end-requires
end-requires g c = record { served = c.read_and_take-count.ensures.served c.args.self.now.keeper.world c.requires.served }

pub returns-in_err-end-clause-turn : goal.returns-in_err-end-clause-turn
returns-in_err-end-clause-turn g c =
    turn_ended_as _ _ _ c.read_and_take-count.new.guest _ c.read_and_take-count.ensures.guest c.end.ensures.added c.end.ensures.session c.end.ensures.steward
    c.end.ensures.policy c.end.ensures.keys c.end.ensures.guest

pub returns-then-not-is_open-clause-turn : goal.returns-then-not-is_open-clause-turn
returns-then-not-is_open-clause-turn g c =
    turn_ended_as _ _ _ c.read_and_take-count.new.guest _ c.read_and_take-count.ensures.guest c.end.ensures.added c.end.ensures.session c.end.ensures.steward
    c.end.ensures.policy c.end.ensures.keys c.end.ensures.guest

pub returns-then-not-is_open-clause-idle : goal.returns-then-not-is_open-clause-idle
returns-then-not-is_open-clause-idle g c = yet_shut (end_shut (not_open c.if-not-is_open.true c.is_open.ensures.1) c.end.ensures.open)

pub returns-then-count-eq0-clause-served : goal.returns-then-count-eq0-clause-served
returns-then-count-eq0-clause-served g c =
    served_still c.args.self.now.keeper.world c.read_and_take-count.new.guest _ refl refl refl (c.read_and_take-count.ensures.served c.args.self.now.keeper.world c.requires.served)

pub returns-then-count-eq0-clause-turn : goal.returns-then-count-eq0-clause-turn
returns-then-count-eq0-clause-turn g c =
    turn_nowhere _ _ _ _ refl c.read_and_take-count.ensures.guest.session refl refl refl c.read_and_take-count.ensures.guest.key
    c.read_and_take-count.ensures.guest.spoken c.read_and_take-count.ensures.guest.held

pub returns-then-count-eq0-clause-idle : goal.returns-then-count-eq0-clause-idle
returns-then-count-eq0-clause-idle g c = yet_same c.read_and_take-count.ensures.guest.session refl

pub returns-clause-served : goal.returns-clause-served
returns-clause-served g c =
    served_still c.args.self.now.keeper.world c.read_and_take-count.new.guest _ refl refl refl (c.read_and_take-count.ensures.served c.args.self.now.keeper.world c.requires.served)

pub returns-clause-turn : goal.returns-clause-turn
returns-clause-turn g c =
    turn_nowhere _ _ _ _ refl c.read_and_take-count.ensures.guest.session refl refl refl c.read_and_take-count.ensures.guest.key
    c.read_and_take-count.ensures.guest.spoken c.read_and_take-count.ensures.guest.held

pub returns-clause-idle : goal.returns-clause-idle
returns-clause-idle g c = yet_same c.read_and_take-count.ensures.guest.session refl

pub returns-in_err-end-clause-kept : goal.returns-in_err-end-clause-kept
returns-in_err-end-clause-kept g c = kept_same c.read_and_take-count.ensures.files c.end.ensures.keys

pub returns-then-not-is_open-clause-kept : goal.returns-then-not-is_open-clause-kept
returns-then-not-is_open-clause-kept g c = kept_same c.read_and_take-count.ensures.files c.end.ensures.keys

pub returns-then-count-eq0-clause-kept : goal.returns-then-count-eq0-clause-kept
returns-then-count-eq0-clause-kept g c = kept_same c.read_and_take-count.ensures.files refl

pub returns-clause-kept : goal.returns-clause-kept
returns-clause-kept g c = kept_same c.read_and_take-count.ensures.files refl
