-- The rule of the lock's table: one history, which the object at home or the seat that holds it has, and in which each number's entries stand with
-- just one seat. And what each step tells.
-- `holder` is the seat that holds the object, if one does, and `owner` the seat that stands for each number.
use Rattle.std.specs.Prelude.{◌≡◌, ◌⊎◌, ℕ, ◌+◌, ◌<◌, ◌==◌, true, false, MatchBool, List, [], ◌∷◌, ◌++◌, map, All, Option, Some, None, Result, MatchResult, IfOk}
use mathlib.Core.List.{IsPrefix}
use mathlib.Core.Option.{some, none}
use lib.ListN.{get_elem?}
use Rattle.atomic_table.specs.Table.{State, Me}
use Rattle.sv_lock.specs.declared.view.SeatView.{SeatView}
use Rattle.sv_lock.specs.declared.view.Stage.{Stage}
use Rattle.sv_lock.specs.declared.view.Stage.TheVariants.{Idle, Holds}
use Rattle.sv_lock.specs.Histories.{entries_of, AreJust, AreBelow, GoesOnTo}

-- The seat stands for some number.
abbrev pub IsBusy : ℕ → (ℕ → ℕ) → ℕ → Type 0
IsBusy made owner j = (n : ℕ) × (n < made) × (owner n ≡ j)

-- A seat that holds the object is the only one, stands for some number, and has seen the whole history.
abbrev pub Hand : {E : Type 0} → List E → Option ℕ → ℕ → (ℕ → ℕ) → ℕ → List E → Stage → Type 0
Hand log holder made owner j seen Idle = Unit {0}
Hand log holder made owner j seen Holds = (holder ≡ Some j) × IsBusy made owner j × (seen ≡ log)

-- The seat stands for this number, with all its entries.
abbrev pub IsOwn : {E : Type 0} → (E → ℕ) → List E → ℕ → (ℕ → ℕ) → ℕ → ℕ × List E → Type 0
IsOwn number_of log made owner j x = (owner x.0 ≡ j) × (x.0 < made) × (entries_of number_of x.0 log ≡ x.1)

-- What is true of what the seat j knows.
pub record Knows {B E : Type 0} (lawful : B → List E → Type 0) (number_of : E → ℕ) (base : B) (log : List E) (holder : Option ℕ) (keeper made : ℕ) (owner : ℕ → ℕ) (j : ℕ) (v : SeatView B E) : Type 0 where
  pub same : (b : B) → v.base ≡ Some b → b ≡ base
  pub seen : IsPrefix v.seen log
  pub told : IsPrefix v.told log
  pub legal : lawful base v.seen
  pub hand : Hand log holder made owner j v.seen v.stage
  pub own : All (IsOwn number_of log made owner j) v.lists
  pub keeps : v.keeps ≡ true → (j ≡ keeper) × (v.made ≡ made)

-- The lock is free: its word is 0, and the object is at home, with this base and history.
abbrev pub IsFree : {S B E : Type 0} → (S → B) → (S → List E) → B → List E → State S (SeatView B E) → Type 0
IsFree {S} base_of history_of base log s = (s.words ≡ 0 ∷ []) × (x : S) × (s.homes ≡ some x ∷ []) × (base_of x ≡ base) × (history_of x ≡ log)

-- The lock is taken: its word is not 0, and the object is out with the seat j.
abbrev pub IsWithSeat : {S B E : Type 0} → ℕ → State S (SeatView B E) → Type 0
IsWithSeat {S} {B} {E} j s = (word : ℕ) × (0 < word) × (s.words ≡ word ∷ []) × (s.homes ≡ none ∷ []) × (v : SeatView B E) × (get_elem? s.views j ≡ some v) × (v.stage ≡ Holds)

-- How the lock stands, by who holds the object.
abbrev pub LockStands : {S B E : Type 0} → (S → B) → (S → List E) → B → List E → Option ℕ → State S (SeatView B E) → Type 0
LockStands base_of history_of base log None s = IsFree base_of history_of base log s
LockStands base_of history_of base log (Some j) s = IsWithSeat j s

-- The rule, for an object of this base.
pub record OneHistory {S B E : Type 0} (base_of : S → B) (history_of : S → List E) (lawful : B → List E → Type 0) (number_of : E → ℕ) (base : B) (s : State S (SeatView B E)) : Type 0 where
  pub log : List E
  pub holder : Option ℕ
  pub keeper : ℕ
  pub made : ℕ
  pub owner : ℕ → ℕ
  pub start : lawful base []
  pub legal : lawful base log
  pub below : AreBelow number_of made log
  pub each_seat : (j : ℕ) (v : SeatView B E) → get_elem? s.views j ≡ some v → Knows lawful number_of base log holder keeper made owner j v
  pub stands : LockStands base_of history_of base log holder s

-- ---- Views

module _ {B E : Type 0} where
  -- The view at another stage, and with more seen.
  abbrev pub staged : SeatView B E → Stage → List E → List (ℕ × List E) → SeatView B E
  staged v stage seen lists = record { base = v.base; stage = stage; seen = seen; told = v.told; lists = lists; keeps = v.keeps; made = v.made }

  abbrev pub first_keeper : B → SeatView B E
  first_keeper base = record { base = Some base; stage = Idle; seen = []; told = []; lists = []; keeps = true; made = 0 }

  -- The keeper, with one pass more made; and that pass.
  abbrev pub one_more : SeatView B E → SeatView B E
  one_more v = record { base = v.base; stage = v.stage; seen = v.seen; told = v.told; lists = v.lists; keeps = v.keeps; made = v.made + 1 }

  abbrev pub next_pass : SeatView B E → SeatView B E
  next_pass v = record { base = v.base; stage = Idle; seen = v.seen; told = []; lists = (v.made, []) ∷ []; keeps = false; made = 0 }

  -- The keeper with what a pass had; and what is left of the pass.
  abbrev pub taken_in : SeatView B E → SeatView B E → SeatView B E
  taken_in v w = record { base = v.base; stage = v.stage; seen = v.seen; told = w.seen; lists = v.lists ++ w.lists; keeps = v.keeps; made = v.made }

  abbrev pub spent : SeatView B E
  spent = record { base = None; stage = Idle; seen = []; told = []; lists = []; keeps = false; made = 0 }

-- ---- What the steps tell

-- A seat that may take the object: it holds nothing, stands for one number, and knows the base.
pub record MayTake {S B E : Type 0} (m : Me S (SeatView B E)) : Type 0 where
  pub idle : m.0.stage ≡ Idle
  pub number : (x : ℕ × List E) × (m.0.lists ≡ x ∷ [])
  pub based : (b : B) × (m.0.base ≡ Some b)

-- The object was taken, and its history is now seen.
pub record Took {S B E : Type 0} (base_of : S → B) (history_of : S → List E) (number_of : E → ℕ) (m m' : Me S (SeatView B E)) : Type 0 where
  pub object : S
  pub seat : m' ≡ (staged m.0 Holds (history_of object) m.0.lists, (0, object) ∷ m.1)
  pub base : m.0.base ≡ Some (base_of object)
  pub seen : IsPrefix m.0.seen (history_of object)
  pub just : AreJust number_of (history_of object) m.0.lists

-- Where the lock was found free, the object was taken; else nothing changed.
abbrev pub tried : {S B E : Type 0} → (S → B) → (S → List E) → (E → ℕ) → Me S (SeatView B E) → ℕ → Me S (SeatView B E) → Type 0
tried base_of history_of number_of m found m' = MatchBool (found == 0) (Took base_of history_of number_of m m') (m' ≡ m)

-- After a step of this number the history is the same, or it has one entry more, of that number.
abbrev pub GrowsByStep : {E : Type 0} → (E → ℕ) → ℕ → List E → List E → Type 0
GrowsByStep {E} number_of n seen h = (h ≡ seen) ⊎ ((e : E) × (h ≡ seen ++ e ∷ []) × (number_of e ≡ n))

-- A seat that stands for one number holds the object after its step.
pub record MayReturn {S B E : Type 0} (base_of : S → B) (history_of : S → List E) (lawful : B → List E → Type 0) (number_of : E → ℕ) (m : Me S (SeatView B E)) : Type 0 where
  pub number : ℕ
  pub mine : List E
  pub object : S
  pub holds : m.0.stage ≡ Holds
  pub own : m.0.lists ≡ (number, mine) ∷ []
  pub based : m.0.base ≡ Some (base_of object)
  pub hand : m.1 ≡ (0, object) ∷ []
  pub legal : lawful (base_of object) (history_of object)
  pub follows : GrowsByStep number_of number m.0.seen (history_of object)

-- The numbers of the list, each with its entries in this history.
abbrev pub renewed : {E : Type 0} → (E → ℕ) → List E → List (ℕ × List E) → List (ℕ × List E)
renewed number_of log lists = map (λ x. (x.0, entries_of number_of x.0 log)) lists

-- The object in hand was given back, and its history is what is seen.
abbrev pub returned : {S B E : Type 0} → (S → List E) → (E → ℕ) → Me S (SeatView B E) → ℕ → Me S (SeatView B E) → Type 0
returned {S} history_of number_of m found m' =
    (y : S) → m.1 ≡ (0, y) ∷ [] → m' ≡ (staged m.0 Idle (history_of y) (renewed number_of (history_of y) m.0.lists), [])

-- The whole history was seen. It begins with all that was seen and told.
pub record Learned {S B E : Type 0} (lawful : B → List E → Type 0) (number_of : E → ℕ) (m m' : Me S (SeatView B E)) : Type 0 where
  pub log : List E
  pub seat : m' ≡ (staged m.0 Idle log m.0.lists, m.1)
  pub seen : IsPrefix m.0.seen log
  pub told : IsPrefix m.0.told log
  pub just : AreJust number_of log m.0.lists
  pub legal : (b : B) → m.0.base ≡ Some b → lawful b log
  pub below : m.0.keeps ≡ true → AreBelow number_of m.0.made log

abbrev pub learned : {S B E : Type 0} → (B → List E → Type 0) → (E → ℕ) → Me S (SeatView B E) → ℕ → Me S (SeatView B E) → Type 0
learned lawful number_of m found m' = Learned lawful number_of m m'

-- A call was carried through, or memory ran out. The seat has seen the whole history as it was then, and in it its number n has just what it
-- had, and after a reply the reply's entry. `mine` is what the number had before.
pub record Called {S B E R X : Type 0} (lawful : B → List E → Type 0) (number_of : E → ℕ) (n : ℕ) (mine : List E) (entry : R → E) (whole : R → List E → Type 0) (m m' : Me S (SeatView B E)) (result : Result R X) : Type 0 where
  pub log : List E
  pub seat : m' ≡ (staged m.0 Idle log (renewed number_of log m.0.lists), [])
  pub legal : (b : B) → m.0.base ≡ Some b → lawful b log
  pub seen : MatchResult result (λ r. GoesOnTo m.0.seen (entry r) log) (λ _. IsPrefix m.0.seen log)
  pub mine_now : MatchResult result (λ r. entries_of number_of n log ≡ mine ++ entry r ∷ []) (λ _. entries_of number_of n log ≡ mine)
  pub whole_now : IfOk result (λ r. whole r log)

-- The object as the table had it at the end, where no seat but the one of this view has a number.
pub record ClosesTable {S B E : Type 0} (base_of : S → B) (history_of : S → List E) (lawful : B → List E → Type 0) (number_of : E → ℕ) (v : SeatView B E) (object : S) : Type 0 where
  pub same : v.base ≡ Some (base_of object)
  pub seen : IsPrefix v.seen (history_of object)
  pub just : AreJust number_of (history_of object) v.lists
  pub below : AreBelow number_of v.made (history_of object)
  pub legal : lawful (base_of object) (history_of object)
