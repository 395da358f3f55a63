-- The limits of world files.
use Rattle.std.specs.Prelude.{ℕ, suc, ◌≤◌, ◌<◌, List, length, IfSome}
use Rattle.std.specs.List.{AllByRecursion}
use Rattle.sv_world.specs.declared.rights.NumberRange.{NumberRange}
use Rattle.sv_world.specs.declared.rights.Right.{Right}
use Rattle.sv_world.specs.Limits.{most_bound, most_reach}
use Rattle.sv_world.specs.Worlds.{IsGoodWorld}
use Rattle.sv_worldfile.specs.declared.world_file.WorldFile.{WorldFile}
use Rattle.sv_worldfile.specs.Rights.{most_rights, last_client}

-- Some numbers, all of them below a limit.
pub record IsGoodRange (limit : ℕ) (range : NumberRange) : Type 0 where
  pub some : range.first ≤ range.last
  pub below : range.last < limit

-- Of clients and objects that there are, in a world of so many objects.
pub record IsGoodRight (count : ℕ) (right : Right) : Type 0 where
  pub clients : IsGoodRange (suc last_client) right.clients
  pub objects : IsGoodRange count right.objects

-- At most so many, each of them good.
pub record AreGoodRights (count : ℕ) (rights : List Right) : Type 0 where
  pub few : length rights ≤ most_rights
  pub all : AllByRecursion (IsGoodRight count) rights

-- A world file that keeps the limits.
pub record IsGoodWorldFile (file : WorldFile) : Type 0 where
  pub world : IsGoodWorld file.world
  pub bound : file.bound ≤ most_bound
  pub reach : IfSome file.reach (λ n. n ≤ most_reach)
  pub rights : IfSome file.rights (AreGoodRights file.world.shape.objects)
