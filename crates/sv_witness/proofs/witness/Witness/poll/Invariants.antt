-- The ghost arguments of `Witness::poll`.
use Rattle.sv_witness.proofs.witness.Witness.poll.Given as goal

abbrev pub ghost-keep : goal.ghost-keep
ghost-keep g a = g.h
