-- The actions whose canonical text is an action text.
use Rattle.std.specs.Prelude.{◌≡◌, ◌^◌, ◌<◌, ◌≤◌, true, length}
use Rattle.std.specs.List.{AllByRecursion}
use Rattle.sv_world.specs.Limits.{most_reads, most_nodes, most_depth}
use Rattle.sv_world.specs.Sets.{read_set}
use Rattle.sv_world.specs.Trees.{body_nodes, body_depth}
use Rattle.sv_world.specs.Ranges.{ObjectFits, body_fits}
use Rattle.sv_world.specs.Faults.{is_ascending, has_slots, has_origin}
use Rattle.sv_world.specs.declared.action.Action.{Action}

-- 1 to 16 ascending reads, a mask over them, a body of at most 64 nodes and 8 levels whose slots have reads, and an origin in the plane
pub record IsWithinGrammar (a : Action) : Type 0 where
  pub some_reads : 1 ≤ length a.reads
  pub few_reads : length a.reads ≤ most_reads
  pub ascending : is_ascending (read_set a) ≡ true
  pub mask : a.mask < 2 ^ length a.reads
  pub slots : has_slots a ≡ true
  pub few_nodes : body_nodes a.body ≤ most_nodes
  pub shallow : body_depth a.body ≤ most_depth
  pub origin : has_origin a ≡ true

-- The same, and each number is one of its Rust type, as it always is in an action that a program holds.
pub record IsPrintable (a : Action) : Type 0 where
  pub within : IsWithinGrammar a
  pub objects : AllByRecursion ObjectFits a.reads
  pub numbers : body_fits a.body ≡ true
