-- The ghost arguments of `relay_in`.
use Rattle.sv_core.proofs.relays.relay_in.Given as goal

abbrev pub ghosts-counted : goal.ghosts-counted
ghosts-counted a = record { name = a.blank.name; parts = a.blank.parts }
