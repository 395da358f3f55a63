-- The tokens that are left give the reads that all give.
use Rattle.std.proofs.Common.{◌≡◌, ◌≤◌, [], length}
use Rattle.sv_text.specs.Reading.{reads_from}
use Rattle.sv_text.proofs.header.reads_at.Given as goal

abbrev pub invariant-loop-cursor : goal.invariant-loop-cursor
invariant-loop-cursor l = record {
  few : length l.reads ≤ 16;
  told : reads_from l.reads l.least l.cursor ≡ reads_from [] 0 l.fn.cursor;
}

abbrev pub decreases-loop-cursor : goal.decreases-loop-cursor
decreases-loop-cursor l = length l.cursor
