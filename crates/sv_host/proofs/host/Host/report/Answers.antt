-- The steward reported.
use Rattle.sv_host.proofs.Joined.{nobody_reported}
use Rattle.sv_host.proofs.Loop1.{reported_all}
use Rattle.sv_host.proofs.Written.{written_later}
use Rattle.sv_host.proofs.host.Host.report.Goals as goal

pub returns-clause-served : goal.returns-clause-served
returns-clause-served g c = reported_all c.is_lawful.ensures.order c.in_ok-report_old.ensures.added c.in_ok-report_old.ensures.steward c.requires.served

pub returns-clause-written : goal.returns-clause-written
returns-clause-written g c told = written_later c.is_lawful.ensures.order c.in_ok-report_old.ensures.added c.args.self.now.room.guests

pub returns-in_err-report_old-clause-nobody : goal.returns-in_err-report_old-clause-nobody
returns-in_err-report_old-clause-nobody g c = nobody_reported c.report_old.ensures.keys c.report_old.ensures.added

pub returns-clause-nobody : goal.returns-clause-nobody
returns-clause-nobody g c = nobody_reported c.in_ok-report_old.ensures.keys c.in_ok-report_old.ensures.added
