-- Reports are of Dones that were noted.
use Rattle.sv_witness.proofs.Honest.{report-reported}
use Rattle.sv_witness.proofs.laws.reports_are_of_noted_dones.Goals as goal

pub returns : goal.returns
returns c = report-reported
