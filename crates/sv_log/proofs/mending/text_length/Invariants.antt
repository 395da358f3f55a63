-- The loop invariant and the measure of `text_length`.
use Rattle.std.proofs.Common.{◌≤◌, ◌-◌, length, take}
use Rattle.sv_log.specs.Texts.{IsText}
use Rattle.sv_log.proofs.mending.text_length.Given as goal

abbrev pub invariant-loop-count : goal.invariant-loop-count
invariant-loop-count l = record { within : l.end ≤ length l.bytes; text : IsText (take l.end l.bytes) }

abbrev pub decreases-loop-count : goal.decreases-loop-count
decreases-loop-count l = length l.bytes - l.end
