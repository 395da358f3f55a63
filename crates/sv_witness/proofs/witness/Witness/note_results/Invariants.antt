-- The ghost arguments of `Witness::note_results`.
use Rattle.sv_witness.proofs.witness.Witness.note_results.Given as goal

abbrev pub ghost-install : goal.ghost-install
ghost-install g a = g.h
