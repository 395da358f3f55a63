-- The loop invariant of `History::copy`.
use Rattle.std.proofs.Common.{◌≡◌, take}
use Rattle.sv_versions.proofs.history.History.copy.Given as goal

abbrev pub invariant-loop-version : goal.invariant-loop-version
invariant-loop-version l = l.versions.items ≡ take l.version-index l.version-items
