-- The ghost arguments of `Witness::answer`.
use Rattle.sv_witness.specs.Reports.{agreed_history}
use Rattle.sv_witness.proofs.witness.Witness.answer.Given as goal

abbrev pub ghost-decide : goal.ghost-decide
ghost-decide g a = agreed_history g.h

abbrev pub ghost-note_results : goal.ghost-note_results
ghost-note_results g a = g.h

abbrev pub ghost-poll : goal.ghost-poll
ghost-poll g a = g.h

abbrev pub ghost-keep : goal.ghost-keep
ghost-keep g a = g.h
