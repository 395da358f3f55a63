-- The ghost arguments of `Core::quiet_answer`.
use Rattle.sv_core.proofs.server_core.Core.quiet_answer.Given as goal

abbrev pub ghost-decide : goal.ghost-decide
ghost-decide g a = g.h

abbrev pub ghosts-knows_them : goal.ghosts-knows_them
ghosts-knows_them g a = record { name = a.blank.name; parts = a.blank.parts }
