-- One of the rights that are left allows it just where one of all does.
use Rattle.std.proofs.Common.{◌≡◌, drop}
use Rattle.std.specs.List.{list_any}
use Rattle.sv_world.specs.Rights.{allows}
use Rattle.sv_world.proofs.rights.is_allowed.Given as goal

abbrev pub invariant-loop-right : goal.invariant-loop-right
invariant-loop-right l = list_any (allows l.client l.object) (drop l.right-index l.rights) ≡ list_any (allows l.client l.object) l.rights
