-- The loop invariant and the measure of `count_versions`.
use Rattle.std.proofs.Common.{ℕ, ◌<◌, ◌≤◌, length, get_or}
use Rattle.sv_versions.specs.declared.history.Version.{Version}
use Rattle.sv_versions.proofs.count.count_versions.Given as goal

abbrev pub invariant-loop-count : goal.invariant-loop-count
invariant-loop-count l =
    (l.count ≤ length l.versions) × ((k : ℕ) (d : Version) → l.count ≤ k → k < length l.versions → l.pos < (get_or l.versions k d).pos)

abbrev pub decreases-loop-count : goal.decreases-loop-count
decreases-loop-count l = l.count
