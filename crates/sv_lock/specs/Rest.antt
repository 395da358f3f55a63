-- The seat of a pass between two calls.
use Rattle.std.specs.Prelude.{◌≡◌, ℕ, List, [], ◌∷◌, true, Option, Some, None, IsSome}
use mathlib.Core.Bool.{false≢true}
use Rattle.atomic_table.specs.Table.{Me}
use Rattle.sv_lock.specs.declared.view.SeatView.{SeatView}
use Rattle.sv_lock.specs.declared.view.Stage.TheVariants.{Idle}
use Rattle.sv_lock.specs.Histories.{AreJust}

-- What an option has that has something.
abbrev pub the : {B : Type 0} (o : Option B) → IsSome o → B
the (Some b) there = b
the None there = absurd (false≢true there)

-- The entries of the first number.
abbrev pub first_list : {E : Type 0} → List (ℕ × List E) → List E
first_list [] = []
first_list (x ∷ xs) = x.1

-- A session's own entries; and what the keeper took in.
abbrev pub mine_in : {E : Type 0} → Option ℕ → List (ℕ × List E) → List E
mine_in None lists = []
mine_in (Some n) lists = first_list lists

abbrev pub ended_in : {E : Type 0} → Option ℕ → List (ℕ × List E) → List (ℕ × List E)
ended_in None lists = lists
ended_in (Some n) lists = []

pub record Rests {S B E : Type 0} (number_of : E → ℕ) (session : Option ℕ) (made : ℕ) (m : Me S (SeatView B E)) : Type 0 where
  pub idle : m.0.stage ≡ Idle
  pub empty : m.1 ≡ []
  pub keeper : session ≡ None → (m.0.keeps ≡ true) × (m.0.made ≡ made)
  pub just : session ≡ None → AreJust number_of m.0.seen m.0.lists
  pub own : (n : ℕ) → session ≡ Some n → m.0.lists ≡ (n, first_list m.0.lists) ∷ []
