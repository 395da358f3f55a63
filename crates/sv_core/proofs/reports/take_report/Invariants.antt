-- The ghost arguments of `take_report`.
use Rattle.sv_core.proofs.reports.take_report.Given as goal

abbrev pub ghosts-is_missing : goal.ghosts-is_missing
ghosts-is_missing a = record { name = a.blank.name; parts = a.blank.parts }

abbrev pub ghosts-set_report : goal.ghosts-set_report
ghosts-set_report a = record { name = a.blank.name; parts = a.blank.parts }
