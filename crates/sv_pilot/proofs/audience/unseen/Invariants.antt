-- The loop invariant of `unseen`.
use Rattle.std.proofs.Common.{◌≡◌, take}
use Rattle.sv_pilot.specs.Calls.{all_unseen}
use Rattle.sv_pilot.proofs.audience.unseen.Given as goal

abbrev pub invariant-loop-object : goal.invariant-loop-object
invariant-loop-object l = l.seen.items ≡ all_unseen (take l.object-index l.objects)
