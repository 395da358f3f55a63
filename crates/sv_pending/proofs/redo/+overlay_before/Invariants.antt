-- The measure of `overlay_before`.
use Rattle.sv_pending.proofs.redo.+overlay_before.Given as goal

abbrev pub decreases-overlay_before : goal.decreases-overlay_before
decreases-overlay_before l = l.count
