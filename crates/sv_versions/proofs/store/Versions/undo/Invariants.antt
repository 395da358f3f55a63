-- The loop invariant and the measure of `Versions::undo`.
use Rattle.std.proofs.Common.{◌≡◌, length, reverse}
use Rattle.sv_versions.specs.Undone.{undone}
use Rattle.sv_versions.proofs.store.Versions.undo.Given as goal

abbrev pub invariant-loop-change : goal.invariant-loop-change
invariant-loop-change l = (l.self.shape ≡ l.fn.self.shape) × (undone (reverse l.undo-inside.changes.items) l.self.held ≡ undone l.fn.undo l.fn.self.held)

abbrev pub decreases-loop-change : goal.decreases-loop-change
decreases-loop-change l = length l.undo-inside.changes.items
