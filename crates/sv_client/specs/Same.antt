-- Whether two actions are the same, by a test.
use Rattle.std.specs.Prelude.{Bool, ◌==◌, ◌&&◌, ℤ, List}
use Rattle.std.specs.Ordering.{int_eq}
use lib.Pointwise.{pointwise}
use Rattle.sv_world.specs.declared.action.Action.{Action}
use Rattle.sv_world.specs.declared.action.Point.{Point}
use Rattle.sv_world.specs.declared.world.ObjectId.{ObjectId}
use Rattle.sv_world.specs.Same.{is_same_body}

unfoldable pub are_same_reads : List ObjectId → List ObjectId → Bool
are_same_reads xs ys = pointwise (λ (x : ObjectId) (y : ObjectId). x.0 == y.0) xs ys

unfoldable pub is_same_point : Point → Point → Bool
is_same_point a b = int_eq a.x b.x && int_eq a.y b.y

-- Two actions are the same: in reads, mask, origin and body. A law says that this is equality.
unfoldable pub is_same_action : Action → Action → Bool
is_same_action a b =
    are_same_reads a.reads b.reads && a.mask == b.mask && is_same_point a.origin b.origin && is_same_body a.body b.body

-- Two lists of values are the same: number by number.
abbrev pub are_same_values : List (List ℤ) → List (List ℤ) → Bool
are_same_values vs ws = pointwise (pointwise int_eq) vs ws
