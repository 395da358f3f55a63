-- Values of objects at positions: how they are read, put and pruned, on plain lists.
use Rattle.std.specs.Prelude.{ℕ, ℤ, Bool, ◌≡◌, ◌<◌, ◌==◌, ◌&&◌, ◌||◌, not, nat_lt, nat_le, List, [], ◌∷◌, ◌++◌, Option, Some, None, option_map, filter, flat_map, count_by, if◌then◌else◌}
use Rattle.std.specs.List.{list_any}
use Rattle.sv_world.specs.declared.world.Shape.{Shape}

-- a value of an object at a position
pub record Held : Type 0 where
  pub object : ℕ
  pub pos : ℕ
  pub value : List ℤ

-- a store of versions: its shape, and its values by object, and by position within each object
pub record Store : Type 0 where
  pub shape : Shape
  pub held : List Held

abbrev pub versions_of : ℕ → List Held → List Held
versions_of x held = filter (λ h. h.object == x) held

-- of a value and the one found after it, that at the greater position; the later one where these are equal
abbrev pub later_of : Held → Option Held → Held
later_of h None = h
later_of h (Some k) = if nat_lt k.pos h.pos then h else k

-- the value at the greatest position, the last one got among equals
abbrev pub newest : List Held → Option Held
newest [] = None
newest (h ∷ hs) = Some (later_of h (newest hs))

-- what a reading of an object below a position finds
abbrev pub found_below : List Held → ℕ → ℕ → Option Held
found_below held x pos = newest (filter (λ h. nat_lt h.pos pos) (versions_of x held))

-- the value of an object at the greatest position below one
abbrev pub read_below : List Held → ℕ → ℕ → Option (List ℤ)
read_below held x pos = option_map (λ h. h.value) (found_below held x pos)

-- what a reading of an object at its greatest position finds
abbrev pub found_latest : List Held → ℕ → Option Held
found_latest held x = newest (versions_of x held)

-- the value of an object at its greatest position
abbrev pub latest : List Held → ℕ → Option (List ℤ)
latest held x = option_map (λ h. h.value) (found_latest held x)

-- some value of the object stands at a greater position, which is at most the commit
abbrev pub is_outdated : ℕ → List Held → Held → Bool
is_outdated commit held h = list_any (λ k. nat_lt h.pos k.pos && nat_le k.pos commit) (versions_of h.object held)

-- of each object's values at or below the commit, only the one at the greatest position is kept
abbrev pub pruned : ℕ → List Held → List Held
pruned commit held = filter (λ h. not (is_outdated commit held h)) held

-- how many values of an object stand at or below a position
abbrev pub count_up_to : List Held → ℕ → ℕ → ℕ
count_up_to held x pos = count_by (λ h. nat_le h.pos pos) (versions_of x held)

-- by object, and by position within an object
abbrev pub comes_before : Held → Held → Bool
comes_before h k = nat_lt h.object k.object || (h.object == k.object && nat_lt h.pos k.pos)

-- one more value, at its place, and in place of the one of the same object and position
abbrev pub put_in : List Held → Held → List Held
put_in held h = filter (λ k. comes_before k h) held ++ h ∷ filter (λ k. comes_before h k) held

-- a store that stands for a longer list of values: each reading above a commit, and each of the greatest position, finds the same
pub record AnswersAbove (commit : ℕ) (kept all : List Held) : Type 0 where
  pub below : (x pos : ℕ) → commit < pos → found_below kept x pos ≡ found_below all x pos
  pub last : (x : ℕ) → found_latest kept x ≡ found_latest all x

-- what stands at an object's position where the value before was this one, or none
abbrev pub stood_at : ℕ → ℕ → Option (List ℤ) → List Held
stood_at x pos None = []
stood_at x pos (Some value) = record { object = x; pos = pos; value = value } ∷ []

-- the value of an object at a position, if there is one, is again what stood there before
abbrev pub restored : ℕ → ℕ → Option (List ℤ) → List Held → List Held
restored x pos was held = flat_map (λ h. if h.object == x && h.pos == pos then stood_at x pos was else h ∷ []) held
