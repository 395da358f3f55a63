-- The ghost arguments of `Core::carry_out`.
use Rattle.sv_core.proofs.server_core.Core.carry_out.Given as goal

abbrev pub ghost-welcome : goal.ghost-welcome
ghost-welcome g a = g.h

abbrev pub ghost-drop_new : goal.ghost-drop_new
ghost-drop_new g a = g.h

abbrev pub ghost-deny_new : goal.ghost-deny_new
ghost-deny_new g a = g.h

abbrev pub ghost-relay : goal.ghost-relay
ghost-relay g a = g.h

abbrev pub ghost-accept_new : goal.ghost-accept_new
ghost-accept_new g a = g.h

abbrev pub ghost-see : goal.ghost-see
ghost-see g a = g.h

abbrev pub ghost-note_results : goal.ghost-note_results
ghost-note_results g a = g.h

abbrev pub ghost-answer_plainly : goal.ghost-answer_plainly
ghost-answer_plainly g a = g.h
