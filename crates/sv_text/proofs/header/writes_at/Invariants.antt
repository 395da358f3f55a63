-- The tokens that are left give the mask that all give.
use Rattle.std.proofs.Common.{◌≡◌, length}
use Rattle.sv_text.specs.Reading.{writes_from}
use Rattle.sv_text.proofs.header.writes_at.Given as goal

abbrev pub invariant-loop-cursor : goal.invariant-loop-cursor
invariant-loop-cursor l = writes_from l.reads l.mask l.least l.cursor ≡ writes_from l.reads 0 0 l.fn.cursor

abbrev pub decreases-loop-cursor : goal.decreases-loop-cursor
decreases-loop-cursor l = length l.cursor
