-- The steward asked in its own session.
use Rattle.std.proofs.Common.{refl, ap}
use Rattle.sv_office.specs.Offices.{session_of}
use Rattle.sv_office.proofs.Stewarding2.{keeps_own_same, stewards_same}
use Rattle.sv_office.proofs.office.Office.join.Goals as goal

pub returns-in_err-join-clause-added : goal.returns-in_err-join-clause-added
returns-in_err-join-clause-added g c = stewards_same _ _ c.in-Some.steward.session _ (ap session_of c.in-Some.is) c.join.ensures.added

pub returns-in_ok-join-clause-added : goal.returns-in_ok-join-clause-added
returns-in_ok-join-clause-added g c = stewards_same _ _ c.in-Some.steward.session _ (ap session_of c.in-Some.is) c.join.ensures.added

pub returns-in_err-join-clause-session : goal.returns-in_err-join-clause-session
returns-in_err-join-clause-session g c =
    keeps_own_same c.args.self.now.keeper.world c.in-Some.steward.session _ c.join.new.self.session _ (ap session_of c.in-Some.is) refl c.join.ensures.session

pub returns-in_ok-join-clause-session : goal.returns-in_ok-join-clause-session
returns-in_ok-join-clause-session g c =
    keeps_own_same c.args.self.now.keeper.world c.in-Some.steward.session _ c.join.new.self.session _ (ap session_of c.in-Some.is) refl c.join.ensures.session
