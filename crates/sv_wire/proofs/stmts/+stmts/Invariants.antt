-- The loop invariant and the measures of the functions of the cycle `stmts`.
use Rattle.std.proofs.Common.{◌≡◌, ◌≤◌, ◌+◌, ◌-◌, ◌*◌}
use Rattle.sv_world.specs.Spelled.{run_spelled}
use Rattle.sv_wire.specs.Steps.{in_turn}
use Rattle.sv_wire.specs.Trees.{appended, stmt_from}
use Rattle.sv_wire.proofs.stmts.+stmts.Given as goal

abbrev pub decreases-stmt_next : goal.decreases-stmt_next
decreases-stmt_next l = 8 * l.depth

abbrev pub decreases-stmts_next : goal.decreases-stmts_next
decreases-stmts_next l = 8 * l.depth + 1

abbrev pub decreases-list_next : goal.decreases-list_next
decreases-list_next l = 8 * l.depth + 2

abbrev pub decreases-if_next : goal.decreases-if_next
decreases-if_next l = 8 * l.depth + 3

abbrev pub invariant-stmts_next-loop : goal.invariant-stmts_next-loop
invariant-stmts_next-loop l =
    record {
      few : l.reader.nodes ≤ 64;
      read : appended run_spelled l.reader.out.items (in_turn (λ n rest. stmt_from l.depth n rest) (l.count - l.counter) l.reader.nodes l.reader.rest.now) ≡ appended run_spelled l.fn.reader.out.items (in_turn (λ n rest. stmt_from l.depth n rest) l.count l.fn.reader.nodes l.fn.reader.rest.now);
    }
