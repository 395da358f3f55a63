-- The rights of a world file: which clients may write which objects.
use Rattle.std.specs.Prelude.{ℕ, List, [], ◌∷◌, Option, Some, Ok, codes}
use Rattle.serde_json.specs.Data.{Data, Items, no_items, item}
use Rattle.serde_json.specs.Find.{as_array}
use Rattle.sv_world.specs.declared.rights.NumberRange.{NumberRange}
use Rattle.sv_world.specs.declared.rights.Right.{Right}
use Rattle.sv_scenario.specs.declared.fault.ScenarioCause.TheVariants as causes
use Rattle.sv_scenario.specs.Faults.{Read, ◌>>=◌, refuse, given, at_place, each}
use Rattle.sv_scenario.specs.Keys.{keys_of, value_at}
use Rattle.sv_scenario.specs.Numbers.{number_within, list_within}
use Rattle.sv_scenario.specs.Objects.{not_below, next_object}

-- The rights that a file may have.
abbrev pub most_rights : ℕ
most_rights = 65536

-- The greatest number of a client.
abbrev pub last_client : ℕ
last_client = 65535

-- A client's number that is at least so great.
unfoldable pub next_client : ℕ → Data → Read ℕ
next_client least d = number_within 0 last_client d >>= not_below least

abbrev pub two_items : Items → Read (Data × Data)
two_items no_items = refuse causes.Range
two_items (item first no_items) = refuse causes.Range
two_items (item first (item last no_items)) = Ok (first, last)
two_items (item first (item last (item d ds))) = refuse causes.Range

-- The first and the last of a list of two.
unfoldable pub pair_of : Data → Read (Data × Data)
pair_of d = given causes.Kind (as_array d) >>= two_items

-- From a first client to a last one, which is not below it.
unfoldable pub clients_of : Data → Read NumberRange
clients_of d = do
  pair ← pair_of d
  first ← at_place 0 (next_client 0 pair.0)
  last ← at_place 1 (next_client first pair.1)
  Ok (record { first = first; last = last })

-- The same of objects, in a world of so many.
unfoldable pub objects_of : ℕ → Data → Read NumberRange
objects_of objects d = do
  pair ← pair_of d
  first ← at_place 0 (next_object objects 0 pair.0)
  last ← at_place 1 (next_object objects first.0 pair.1)
  Ok (record { first = first.0; last = last.0 })

unfoldable pub right_of : ℕ → Data → Read Right
right_of objects d = do
  _ ← keys_of (codes "clients" ∷ codes "objects" ∷ []) [] d
  clients ← value_at (codes "clients") clients_of d
  written ← value_at (codes "objects") (objects_of objects) d
  Ok (record { clients = clients; objects = written })

-- The rights over a world of so many objects.
unfoldable pub rights_of : ℕ → Data → Read (Option (List Right))
rights_of objects d = do
  ds ← list_within 0 most_rights d
  rights ← each (right_of objects) [] ds
  Ok (Some rights)
