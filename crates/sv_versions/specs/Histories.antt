-- How the store keeps its values: for each object, in order, a list by position.
use Rattle.std.specs.Prelude.{ℕ, ℤ, ◌≡◌, ◌+◌, ◌-◌, ◌<◌, ◌≤◌, List, [], ◌∷◌, ◌++◌, Option, Some, None, map, flat_map, length, slice_index_or, if◌then◌else◌}
use Rattle.std.specs.Prelude.{Bool, true, ◌==◌}
use Rattle.std.specs.List.{list_any}
use Rattle.sv_world.specs.declared.world.ObjectId.{ObjectId}
use Rattle.sv_versions.specs.Held.{Held, pruned, count_up_to}
use Rattle.sv_versions.specs.declared.history.Version.{Version}

-- positions ascend, from a least one up
abbrev pub AscendsFrom : ℕ → List Version → Type 0
AscendsFrom low [] = Unit {0}
AscendsFrom low (v ∷ vs) = (low ≤ v.pos) × AscendsFrom (v.pos + 1) vs

-- a number of first versions are those at or below a position
pub record IsCountUpTo (pos : ℕ) (versions : List Version) (count : ℕ) : Type 0 where
  pub within : count ≤ length versions
  pub low : (k : ℕ) (d : Version) → k < count → (slice_index_or versions k d).pos ≤ pos
  pub high : (k : ℕ) (d : Version) → count ≤ k → k < length versions → pos < (slice_index_or versions k d).pos

-- the last of a number of first versions stands at a position
pub record EndsAt (pos : ℕ) (versions : List Version) (count : ℕ) : Type 0 where
  pub some : 0 < count
  pub same : (d : Version) → (slice_index_or versions (count - 1) d).pos ≡ pos

-- no version is among them, or the last one stands elsewhere
pub record EndsApart (pos : ℕ) (versions : List Version) (count : ℕ) : Type 0 where
  pub apart : (d : Version) → 0 < count → (slice_index_or versions (count - 1) d).pos ≡ pos → ⊥

abbrev pub as_held : ℕ → Version → Held
as_held x v = record { object = x; pos = v.pos; value = v.value }

-- the versions of one object
abbrev pub tagged : ℕ → List Version → List Held
tagged x versions = map (as_held x) versions

-- the versions of all objects from one on
abbrev pub flat_from : ℕ → List (List Version) → List Held
flat_from x [] = []
flat_from x (versions ∷ rest) = tagged x versions ++ flat_from (x + 1) rest

abbrev pub flat : List (List Version) → List Held
flat histories = flat_from 0 histories

abbrev pub is_listed : ℕ → List ObjectId → Bool
is_listed x objects = list_any (λ o. o.0 == x) objects

-- each object with more than one version is listed
pub record AreListed (crowded : List ObjectId) (histories : List (List Version)) : Type 0 where
  pub listed : (x : ℕ) → x < length histories → 1 < length (slice_index_or histories x []) → is_listed x crowded ≡ true

-- the versions of the listed objects were pruned, and those of the others stayed, or were pruned too
pub record ArePruned (commit : ℕ) (listed : List ObjectId) (old new : List (List Version)) : Type 0 where
  pub long : length new ≡ length old
  pub same : (k x : ℕ) → k < length old → pruned commit (tagged x (slice_index_or new k [])) ≡ pruned commit (tagged x (slice_index_or old k []))
  pub shorter : (k : ℕ) → k < length old → length (slice_index_or new k []) ≤ length (slice_index_or old k [])
  pub done : (k x : ℕ) → k < length old → is_listed k listed ≡ true → tagged x (slice_index_or new k []) ≡ pruned commit (tagged x (slice_index_or old k []))
  pub few : (k x : ℕ) → k < length old → is_listed k listed ≡ true → count_up_to (tagged x (slice_index_or new k [])) x commit ≤ 1

-- what stands at a position where the value before was this one, or none
abbrev pub stood : ℕ → Option (List ℤ) → List Version
stood pos None = []
stood pos (Some value) = record { pos = pos; value = value } ∷ []

-- the version at a position, if there is one, is again what stood there before
abbrev pub row_restored : ℕ → Option (List ℤ) → List Version → List Version
row_restored pos was versions = flat_map (λ v. if v.pos == pos then stood pos was else v ∷ []) versions
