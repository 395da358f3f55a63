-- The ghost arguments of `first_orphan`.
use Rattle.sv_core.proofs.orphans.first_orphan.Given as goal

abbrev pub ghosts-search : goal.ghosts-search
ghosts-search a = record { name = a.blank.name; parts = a.blank.parts }
