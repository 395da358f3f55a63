-- Lists of objects in a scenario file.
use Rattle.std.specs.Prelude.{ℕ, suc, cond, nat_le, nat_lt, List, [], ◌∷◌, ◌++◌, length, Ok}
use Rattle.serde_json.specs.Data.{Data, Items, no_items, item}
use Rattle.sv_world.specs.declared.world.ObjectId.{ObjectId}
use Rattle.sv_world.specs.Limits.{most_interest, most_reads, most_shown}
use Rattle.sv_scenario.specs.declared.fault.ScenarioCause.TheVariants as causes
use Rattle.sv_scenario.specs.Faults.{Read, ◌>>=◌, refuse, at_place, each}
use Rattle.sv_scenario.specs.Numbers.{number_within, list_within}

-- An object of a world of so many.
abbrev pub known : ℕ → ℕ → Read ObjectId
known objects n = cond (nat_lt n objects) (Ok (record { 0 = n })) (refuse causes.Object)

unfoldable pub object_of : ℕ → Data → Read ObjectId
object_of objects d = number_within 0 65535 d >>= known objects

-- The objects of a show, in any order.
unfoldable pub shown_of : ℕ → Data → Read (List ObjectId)
shown_of objects d = list_within 1 most_shown d >>= each (object_of objects) []

abbrev pub not_below : ℕ → ℕ → Read ℕ
not_below least n = cond (nat_le least n) (Ok n) (refuse causes.Order)

-- An object whose number is at least so great.
unfoldable pub next_object : ℕ → ℕ → Data → Read ObjectId
next_object objects least d = do
  n ← number_within 0 65535 d
  m ← not_below least n
  known objects m

-- Objects that each have a greater number than the one before.
abbrev pub ascending_from : ℕ → ℕ → List ObjectId → Items → Read (List ObjectId)
ascending_from objects least before no_items = Ok before
ascending_from objects least before (item d ds) =
    at_place (length before) (next_object objects least d) >>= λ o. ascending_from objects (suc o.0) (before ++ o ∷ []) ds

-- The objects of an interest.
unfoldable pub interest_of : ℕ → Data → Read (List ObjectId)
interest_of objects d = list_within 0 most_interest d >>= ascending_from objects 0 []

-- The objects of an observe.
unfoldable pub observed_of : ℕ → Data → Read (List ObjectId)
observed_of objects d = list_within 1 most_reads d >>= ascending_from objects 0 []
