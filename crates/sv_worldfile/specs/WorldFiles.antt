-- What a world file says, or its first fault.
use Rattle.std.specs.Prelude.{ℕ, cond, nat_lt, List, [], ◌∷◌, length, None, Ok, codes}
use Rattle.std.specs.Str.{bytes_eq, is_utf8}
use Rattle.serde_json.specs.Data.{Data}
use Rattle.serde_json.specs.Find.{as_str}
use Rattle.sv_world.specs.Limits.{most_objects, most_bound}
use Rattle.sv_scenario.specs.declared.fault.ScenarioCause.TheVariants as causes
use Rattle.sv_scenario.specs.Faults.{Read, ◌>>=◌, refuse, given}
use Rattle.sv_scenario.specs.Keys.{keys_of, value_at, value_if}
use Rattle.sv_scenario.specs.Numbers.{number_within}
use Rattle.sv_scenario.specs.Scenarios.{world_of, reach_of, value_in}
use Rattle.sv_worldfile.specs.declared.world_file.Results.{Results}
use Rattle.sv_worldfile.specs.declared.world_file.Results.TheVariants as results
use Rattle.sv_worldfile.specs.declared.world_file.WorldFile.{WorldFile}
use Rattle.sv_worldfile.specs.Rights.{rights_of}

abbrev pub results_by : List ℕ → Read Results
results_by word =
    cond (bytes_eq word (codes "first")) (Ok results.First)
    (cond (bytes_eq word (codes "authority")) (Ok results.Authority)
    (refuse causes.Kind))

-- One of two words.
unfoldable pub results_of : Data → Read Results
results_of d = given causes.Kind (as_str d) >>= results_by

-- What a JSON value says as a world file.
unfoldable pub world_file_in : Data → Read WorldFile
world_file_in d = do
  _ ← keys_of (codes "attrs" ∷ codes "objects" ∷ codes "bound" ∷ []) (codes "reach" ∷ codes "rights" ∷ codes "results" ∷ []) d
  world ← world_of most_objects d
  bound ← value_at (codes "bound") (number_within 0 most_bound) d
  reach ← value_if (codes "reach") None reach_of d
  rights ← value_if (codes "rights") None (rights_of world.shape.objects) d
  counts ← value_if (codes "results") results.First results_of d
  Ok (record { world = world; bound = bound; reach = reach; rights = rights; results = counts })

-- The bytes that a file may have.
abbrev pub most_bytes : ℕ
most_bytes = 16777216

-- A file has at most so many bytes, which are the UTF-8 of a JSON text.
unfoldable pub world_file_of : List ℕ → Read WorldFile
world_file_of bytes =
    cond (nat_lt most_bytes (length bytes)) (refuse causes.Size)
    (cond (is_utf8 bytes) (value_in bytes >>= world_file_in)
    (refuse causes.Json))
