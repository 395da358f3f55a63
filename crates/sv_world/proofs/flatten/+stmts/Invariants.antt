-- The nodes of the statements so far were appended.
use Rattle.std.proofs.Common.{◌≡◌, true, map, ◌++◌, take, drop}
use Rattle.sv_world.specs.Trees.{all_true}
use Rattle.sv_world.specs.Short.{stmt_is_short}
use Rattle.sv_world.specs.Spelled.{run_spelled}
use Rattle.sv_world.proofs.flatten.+stmts.Given as goal

abbrev pub invariant-push_stmts-loop-stmt : goal.invariant-push_stmts-loop-stmt
invariant-push_stmts-loop-stmt l =
    record {
      short : all_true (map stmt_is_short (drop l.stmt-index l.body)) ≡ true;
      pushed : l.out.items ≡ l.fn.out.items ++ run_spelled (take l.stmt-index l.body);
    }
