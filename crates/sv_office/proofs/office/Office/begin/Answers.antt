-- The steward joined in its own session, and reported in the one that it has.
use Rattle.sv_office.specs.Offices.{session_of}
use Rattle.sv_office.proofs.Adding.{goes_nowhere, goes_then}
use Rattle.sv_office.proofs.Stewarding2.{stewards_and_reports}
use Rattle.sv_office.proofs.office.Office.begin.Goals as goal

pub returns-in_err-report_all-clause-added : goal.returns-in_err-report_all-clause-added
returns-in_err-report_all-clause-added g c =
    stewards_and_reports _ _ _ _ (session_of c.join.new.self.steward) c.join.ensures.added c.join.ensures.session c.report_all.ensures.added

pub returns-in-Ok-clause-added : goal.returns-in-Ok-clause-added
returns-in-Ok-clause-added g c =
    goes_then (stewards_and_reports _ _ _ _ (session_of c.join.new.self.steward) c.join.ensures.added c.join.ensures.session c.report_all.ensures.added) (goes_nowhere c.make_durable.ensures.world)

pub returns-in-Err-clause-added : goal.returns-in-Err-clause-added
returns-in-Err-clause-added g c =
    goes_then (stewards_and_reports _ _ _ _ (session_of c.join.new.self.steward) c.join.ensures.added c.join.ensures.session c.report_all.ensures.added) (goes_nowhere c.make_durable.ensures.world)
