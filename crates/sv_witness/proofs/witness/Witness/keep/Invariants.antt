-- The ghost arguments of `Witness::keep`.
use Rattle.sv_witness.specs.Reports.{agreed_history}
use Rattle.sv_witness.proofs.witness.Witness.keep.Given as goal

abbrev pub ghost-enter_emptied : goal.ghost-enter_emptied
ghost-enter_emptied g a = agreed_history g.h
