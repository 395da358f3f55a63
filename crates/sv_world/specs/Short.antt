-- Whether the blocks of statements are short enough for nodes.
use Rattle.std.specs.Prelude.{Bool, true, ◌&&◌, nat_le, List, length, map}
use Rattle.sv_world.specs.Trees.{all_true}
use Rattle.sv_world.specs.declared.action.Stmt.{Stmt}
use Rattle.sv_world.specs.declared.action.Stmt.TheOpen.{Stmt-F}
use Rattle.sv_world.specs.declared.action.Stmt.TheFolds.{fold-Stmt}

-- At most 255 statements, each with short blocks.
abbrev pub is_short : List Bool → Bool
is_short parts = nat_le (length parts) 255 && all_true parts

abbrev pub stmt_is_short_step : Stmt-F Bool → Bool
stmt_is_short_step (Stmt-F.Set slot attr expr) = true
stmt_is_short_step (Stmt-F.If test xs ys) = is_short xs && is_short ys

abbrev pub stmt_is_short : Stmt → Bool
stmt_is_short = fold-Stmt Bool stmt_is_short_step

abbrev pub has_short_blocks : List Stmt → Bool
has_short_blocks body = is_short (map stmt_is_short body)
