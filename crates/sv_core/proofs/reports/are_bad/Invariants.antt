-- The ghost arguments of `are_bad`.
use Rattle.sv_core.proofs.reports.are_bad.Given as goal

abbrev pub ghosts-is_any_bad : goal.ghosts-is_any_bad
ghosts-is_any_bad a = record { name = a.blank.name; parts = a.blank.parts }
