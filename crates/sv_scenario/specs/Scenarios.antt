-- The scenario that a file is, or its first fault.
use Rattle.std.specs.Prelude.{ℕ, ℤ, cond, nat_le, nat_lt, List, [], ◌∷◌, length, Option, Some, None, Ok, codes}
use Rattle.std.specs.Str.{is_utf8}
use Rattle.serde_json.specs.Data.{Data}
use Rattle.serde_json.specs.Read.{read}
use Rattle.sv_world.specs.declared.world.Shape.{Shape}
use Rattle.sv_world.specs.declared.world.World.{World}
use Rattle.sv_world.specs.Limits.{most_scenario_objects, most_attrs, most_sessions, most_bound, most_reach}
use Rattle.sv_scenario.specs.declared.fault.ScenarioCause.TheVariants as causes
use Rattle.sv_scenario.specs.declared.scenario.Plan.{Plan}
use Rattle.sv_scenario.specs.declared.scenario.Scenario.{Scenario}
use Rattle.sv_scenario.specs.Faults.{Read, ◌>>=◌, refuse, given}
use Rattle.sv_scenario.specs.Keys.{keys_of, value_at, value_if}
use Rattle.sv_scenario.specs.Numbers.{number_within, values_of}
use Rattle.sv_scenario.specs.Scripts.{plans_of}
use Rattle.sv_scenario.specs.Sessions.{sessions_in}
use Rattle.sv_scenario.specs.Turns.{turns_of}

abbrev pub world_with : ℕ → List (List ℤ) → World
world_with attrs values = record { shape = record { objects = length values; attrs = attrs }; values = values }

-- A world of at most so many objects.
unfoldable pub world_of : ℕ → Data → Read World
world_of most d = do
  attrs ← value_at (codes "attrs") (number_within 1 most_attrs) d
  values ← value_at (codes "objects") (values_of most attrs) d
  Ok (world_with attrs values)

unfoldable pub reach_of : Data → Read (Option ℕ)
reach_of d = number_within 0 most_reach d >>= λ n. Ok (Some n)

abbrev pub few_sessions : List Plan → Read (List Plan)
few_sessions plans = cond (nat_le (sessions_in plans) most_sessions) (Ok plans) (refuse causes.Range)

-- The clients, who have at most 64 sessions together.
unfoldable pub clients_of : Shape → Data → Read (List Plan)
clients_of shape d = plans_of shape d >>= few_sessions

-- The scenario that a JSON value is.
unfoldable pub scenario_in : Data → Read Scenario
scenario_in d = do
  _ ← keys_of (codes "attrs" ∷ codes "objects" ∷ codes "bound" ∷ codes "clients" ∷ []) (codes "reach" ∷ codes "schedule" ∷ []) d
  world ← world_of most_scenario_objects d
  bound ← value_at (codes "bound") (number_within 0 most_bound) d
  reach ← value_if (codes "reach") None reach_of d
  clients ← value_at (codes "clients") (clients_of world.shape) d
  schedule ← value_if (codes "schedule") [] (turns_of (length clients) (sessions_in clients)) d
  Ok (record { world = world; bound = bound; reach = reach; clients = clients; schedule = schedule })

-- The JSON value that a text is.
abbrev pub value_in : List ℕ → Read Data
value_in text = given causes.Json (read text)

-- The bytes that a file may have.
abbrev pub most_scenario_bytes : ℕ
most_scenario_bytes = 4194304

-- A file has at most so many bytes, which are the UTF-8 of a JSON text.
unfoldable pub scenario_of : List ℕ → Read Scenario
scenario_of bytes =
    cond (nat_lt most_scenario_bytes (length bytes)) (refuse causes.Size)
    (cond (is_utf8 bytes) (value_in bytes >>= scenario_in)
    (refuse causes.Json))
