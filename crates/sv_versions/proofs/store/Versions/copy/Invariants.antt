-- The loop invariant of `Versions::copy`.
use Rattle.std.proofs.Common.{◌≡◌, take}
use Rattle.sv_versions.proofs.store.Versions.copy.Given as goal

abbrev pub invariant-loop-history : goal.invariant-loop-history
invariant-loop-history l = l.histories.items ≡ take l.history-index l.history-items
