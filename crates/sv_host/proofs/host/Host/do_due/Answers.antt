-- One call after the other.
use Rattle.sv_host.proofs.Joined.{nobody_then}
use Rattle.sv_host.proofs.host.Host.do_due.Goals as goal

pub returns-in_err-report-clause-nobody : goal.returns-in_err-report-clause-nobody
returns-in_err-report-clause-nobody g c = nobody_then c.look_for_idle.ensures.nobody c.report.ensures.nobody

pub returns-clause-nobody : goal.returns-clause-nobody
returns-clause-nobody g c = nobody_then c.look_for_idle.ensures.nobody (nobody_then c.report.ensures.nobody c.look_at_held.ensures.nobody)
