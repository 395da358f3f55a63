-- The ghost arguments of `Witness::end`.
use Rattle.sv_witness.specs.Reports.{agreed_history}
use Rattle.sv_witness.proofs.witness.Witness.end.Given as goal

abbrev pub ghost-enter_end : goal.ghost-enter_end
ghost-enter_end g a = agreed_history g.h
