-- Each call has fewer nodes before it, and the statements that are left of a block print its rest.
use Rattle.std.proofs.Common.{◌≡◌, ◌+◌, ◌-◌, ◌*◌, ◌≤◌, ◌++◌, true, length, drop, string_bytes}
use Rattle.sv_world.specs.Parts.{parts, block, is_block}
use Rattle.sv_text.specs.Canonical.{run_text}
use Rattle.sv_text.proofs.printer.+statement.Given as goal

abbrev pub decreases-put_stmt : goal.decreases-put_stmt
decreases-put_stmt l = 4 * length l.nodes.now

abbrev pub decreases-put_choice : goal.decreases-put_choice
decreases-put_choice l = 4 * length l.nodes.now + 1

abbrev pub decreases-put_block : goal.decreases-put_block
decreases-put_block l = 4 * length l.nodes.now

abbrev pub decreases-put_else : goal.decreases-put_else
decreases-put_else l = 4 * length l.nodes.now

abbrev pub decreases-put_other : goal.decreases-put_other
decreases-put_other l = 4 * length l.nodes.now + 3

abbrev pub decreases-put_stmts : goal.decreases-put_stmts
decreases-put_stmts l = 4 * length l.nodes.now + 2

abbrev pub decreases-put_run : goal.decreases-put_run
decreases-put_run l = 4 * length l.nodes.now + 1

abbrev pub invariant-put_run-loop : goal.invariant-put_run-loop
invariant-put_run-loop l =
    record {
      kind : is_block (block (l.count - l.counter) (parts l.nodes)) ≡ true;
      text : string_bytes l.out ++ run_text l.reads (block (l.count - l.counter) (parts l.nodes)) ≡ string_bytes l.fn.out ++ run_text l.reads (block l.count (parts l.fn.nodes));
      behind : drop (l.count - l.counter) (parts l.nodes) ≡ drop l.count (parts l.fn.nodes);
      shorter : length l.nodes ≤ length l.fn.nodes;
    }
