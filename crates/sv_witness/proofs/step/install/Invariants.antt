-- The ghost arguments of `install`.
use Rattle.sv_witness.specs.Reports.{agreed_history}
use Rattle.sv_witness.proofs.step.install.Given as goal

abbrev pub ghost-enter_asked : goal.ghost-enter_asked
ghost-enter_asked g a = agreed_history g.h
