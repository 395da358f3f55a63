-- The keys of an object of a scenario file.
use Rattle.std.specs.Prelude.{ℕ, Bool, cond, List, [], ◌∷◌, ◌++◌, Option, Some, None, is_some, Ok, ⊤}
use Rattle.std.specs.List.{list_any}
use Rattle.std.specs.Str.{bytes_eq}
use Rattle.serde_json.specs.Data.{Data, Members, no_members, member}
use Rattle.serde_json.specs.Find.{as_object, get}
use Rattle.sv_scenario.specs.declared.fault.ScenarioCause.TheVariants as causes
use Rattle.sv_scenario.specs.Faults.{Read, ◌>>=◌, refuse, given, at_key}

-- The first of some keys that an object lacks.
abbrev pub first_missing : List (List ℕ) → Data → Option (List ℕ)
first_missing [] d = None
first_missing (k ∷ ks) d = cond (is_some (get k d)) (first_missing ks d) (Some k)

abbrev pub is_among : List (List ℕ) → List ℕ → Bool
is_among names k = list_any (bytes_eq k) names

-- The first key of an object that is not among some names. Keys stand in the order of their bytes.
abbrev pub first_unnamed : List (List ℕ) → Members → Option (List ℕ)
first_unnamed names no_members = None
first_unnamed names (member k d ms) = cond (is_among names k) (first_unnamed names ms) (Some k)

-- A key that is missing, or that is not named, is at fault.
abbrev pub refuse_key : {A : Type 0} → List ℕ → Read A
refuse_key key = at_key key (refuse causes.Key)

abbrev pub no_key : Option (List ℕ) → Read ⊤
no_key None = Ok tt
no_key (Some key) = refuse_key key

-- An object with all of the needed keys, and no other but those of a second list.
unfoldable pub keys_of : List (List ℕ) → List (List ℕ) → Data → Read ⊤
keys_of needed others d = do
  ms ← given causes.Kind (as_object d)
  _ ← no_key (first_missing needed d)
  no_key (first_unnamed (needed ++ others) ms)

-- The value of a key that must be there.
abbrev pub found : List ℕ → Option Data → Read Data
found key (Some d) = Ok d
found key None = refuse_key key

unfoldable pub needed : List ℕ → Data → Read Data
needed key d = found key (get key d)

-- What is read of the value of such a key.
abbrev pub value_at : {A : Type 0} → List ℕ → (Data → Read A) → Data → Read A
value_at key read d = needed key d >>= λ e. at_key key (read e)

abbrev pub wanted_by : {A : Type 0} → List ℕ → A → (Data → Read A) → Option Data → Read A
wanted_by key otherwise read (Some d) = at_key key (read d)
wanted_by key otherwise read None = Ok otherwise

-- The same of a key that may be missing.
abbrev pub value_if : {A : Type 0} → List ℕ → A → (Data → Read A) → Data → Read A
value_if key otherwise read d = wanted_by key otherwise read (get key d)
