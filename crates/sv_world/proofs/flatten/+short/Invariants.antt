-- The statements that are left have short blocks just where all do.
use Rattle.std.proofs.Common.{◌≡◌, map, drop}
use Rattle.sv_world.specs.Trees.{all_true}
use Rattle.sv_world.specs.Short.{stmt_is_short}
use Rattle.sv_world.proofs.flatten.+short.Given as goal

abbrev pub invariant-has_short_blocks-loop-stmt : goal.invariant-has_short_blocks-loop-stmt
invariant-has_short_blocks-loop-stmt l = all_true (map stmt_is_short (drop l.stmt-index l.stmts)) ≡ all_true (map stmt_is_short l.stmts)
