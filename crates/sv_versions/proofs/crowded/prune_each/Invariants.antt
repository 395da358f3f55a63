-- The loop invariant of `prune_each`.
use Rattle.std.proofs.Common.{take}
use Rattle.sv_versions.specs.Histories.{ArePruned}
use Rattle.sv_versions.proofs.crowded.prune_each.Given as goal

abbrev pub invariant-loop-object : goal.invariant-loop-object
invariant-loop-object l = ArePruned l.commit (take l.object-index l.listed) l.initial.histories.items l.histories.items
