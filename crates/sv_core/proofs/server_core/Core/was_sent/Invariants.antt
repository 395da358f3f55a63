-- The ghost arguments of `Core::was_sent`.
use Rattle.sv_core.proofs.server_core.Core.was_sent.Given as goal

abbrev pub ghosts-is_marked : goal.ghosts-is_marked
ghosts-is_marked a = record { name = a.blank.name; parts = a.blank.parts }
