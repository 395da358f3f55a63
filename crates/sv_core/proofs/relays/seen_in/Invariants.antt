-- The ghost arguments of `seen_in`.
use Rattle.sv_core.proofs.relays.seen_in.Given as goal

abbrev pub ghosts-seen_counted : goal.ghosts-seen_counted
ghosts-seen_counted a = record { name = a.blank.name; parts = a.blank.parts }
