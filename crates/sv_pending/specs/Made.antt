-- How pending actions are kept: the actions, and beside them the results.
use Rattle.std.specs.Prelude.{ℕ, suc, ℤ, ◌≡◌, ◌<◌, ◌==◌, List, [], ◌∷◌, length, All, Option, Some, None, option_map, if◌then◌else◌}
use Rattle.sv_world.specs.declared.action.Action.{Action}
use Rattle.sv_world.specs.declared.world.ObjectId.{ObjectId}
use Rattle.sv_world.specs.declared.world.Shape.{Shape}
use Rattle.sv_world.specs.Control.{is_in}
use Rattle.sv_world.specs.Sets.{write_set}
use Rattle.sv_pending.specs.Pending.{PendingAction, Overlaid, Unwritten, kept_for}
use Rattle.sv_pending.specs.declared.made.Made.{Made}

-- what contracts see of a client's pending actions
pub record PendingList : Type 0 where
  pub shape : Shape
  pub items : List PendingAction

-- each action with its result, as far as there are results
abbrev pub paired : List Made → List (Option (List (List ℤ))) → List PendingAction
paired [] ks = []
paired (m ∷ ms) [] = []
paired (m ∷ ms) (k ∷ ks) = record { seq = m.seq; action = m.action; kept = k } ∷ paired ms ks

-- what one action says of an object
abbrev pub overlay_by : PendingAction → ℕ → Overlaid
overlay_by p x = if is_in x (write_set p.action) then kept_for p p.kept x else Unwritten

-- the place of an object in a list
abbrev pub place_in : ℕ → List ℕ → Option ℕ
place_in x [] = None
place_in x (o ∷ os) = if o == x then Some 0 else option_map suc (place_in x os)

-- a result has one value for each written object
abbrev pub IsWholeResult : Action → Option (List (List ℤ)) → Type 0
IsWholeResult a None = Unit {0}
IsWholeResult a (Some values) = length values ≡ length (write_set a)

abbrev pub AreWhole : List Made → List (Option (List (List ℤ))) → Type 0
AreWhole [] ks = Unit {0}
AreWhole (m ∷ ms) [] = Unit {0}
AreWhole (m ∷ ms) (k ∷ ks) = IsWholeResult m.action k × AreWhole ms ks

-- the action reads objects of a world of so many
abbrev pub ReadsWithin : ℕ → Action → Type 0
ReadsWithin n a = All (λ (o : ObjectId). o.0 < n) a.reads
