-- What is proved by hand of `changes_are_told_at_once`.
use Rattle.sv_script.proofs.Told.{told-at_once, lines-at_once}
use Rattle.sv_script.proofs.telling.changes_are_told_at_once.Goals as goal

pub returns-clause-changes : goal.returns-clause-changes
returns-clause-changes c = told-at_once

pub returns-clause-lines : goal.returns-clause-lines
returns-clause-lines c = lines-at_once
