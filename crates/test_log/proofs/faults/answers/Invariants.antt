-- The folder is at rest.
use Rattle.sv_log.specs.Folders.{disk_in_memory}
use Rattle.sv_log.specs.Rests.{IsAtRest}
use Rattle.test_log.proofs.faults.answers.Given as goal

abbrev pub invariant-loop-steps : goal.invariant-loop-steps
invariant-loop-steps g l = IsAtRest (disk_in_memory l.folder)
