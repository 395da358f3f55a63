-- Each call may go less deep, and the turns that are left of a block read its rest.
use Rattle.std.proofs.Common.{◌≡◌, ◌+◌, ◌-◌, ◌*◌, ◌≤◌, ◌<◌, length}
use Rattle.sv_text.specs.Reading.{stmt_at}
use Rattle.sv_text.proofs.Flat.{run_by}
use Rattle.sv_text.proofs.statement.+statement.Given as goal

abbrev pub decreases-stmt_at : goal.decreases-stmt_at
decreases-stmt_at l = 4 * l.depth

abbrev pub decreases-block_at : goal.decreases-block_at
decreases-block_at l = 4 * l.depth + 1

abbrev pub decreases-else_at : goal.decreases-else_at
decreases-else_at l = 4 * l.depth + 2

abbrev pub decreases-if_at : goal.decreases-if_at
decreases-if_at l = 4 * l.depth + 3

abbrev pub invariant-block_at-loop-count : goal.invariant-block_at-loop-count
invariant-block_at-loop-count l =
    record {
      few : l.parser.started ≤ 64;
      long : l.place < length l.parser.out.items;
      told : run_by (stmt_at l.reads l.depth) (65 - l.count) l.place l.count l.parser.out.items l.parser.started l.parser.cursor ≡ run_by (stmt_at l.reads l.depth) 65 l.place 0 l.initial.parser.out.items l.initial.parser.started l.initial.parser.cursor;
    }
