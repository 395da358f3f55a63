-- The ghost arguments of `first_due`.
use Rattle.sv_witness.proofs.due.first_due.Given as goal

abbrev pub ghosts-search : goal.ghosts-search
ghosts-search a = record { name = a.blank.name; parts = a.blank.parts }
