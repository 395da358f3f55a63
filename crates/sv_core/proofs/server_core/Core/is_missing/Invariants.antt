-- The ghost arguments of `Core::is_missing`.
use Rattle.sv_core.proofs.server_core.Core.is_missing.Given as goal

abbrev pub ghosts-is_missing : goal.ghosts-is_missing
ghosts-is_missing a = record { name = a.blank.name; parts = a.blank.parts }
