-- The ghost arguments of `chain`.
use Rattle.sv_influence.proofs.influence.chain.Given as goal

abbrev pub ghosts-walk_down : goal.ghosts-walk_down
ghosts-walk_down a = record { name = a.blank.name; parts = a.blank.parts }

abbrev pub ghosts-by_sources : goal.ghosts-by_sources
ghosts-by_sources a = record { name = a.blank.name; parts = a.blank.parts }
