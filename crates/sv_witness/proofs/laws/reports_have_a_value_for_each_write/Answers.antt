-- Reports have a value for each write.
use Rattle.sv_witness.proofs.Forms.{report-form}
use Rattle.sv_witness.proofs.laws.reports_have_a_value_for_each_write.Goals as goal

pub returns : goal.returns
returns c r h p report legal among = report-form r h legal p report among
