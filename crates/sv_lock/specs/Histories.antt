-- Words on histories. A history is a list of entries, the earliest first.
use Rattle.std.specs.Prelude.{◌≡◌, ℕ, ◌<◌, ◌==◌, List, [], ◌∷◌, ◌++◌, filter, All}

module _ {E : Type 0} (number_of : E → ℕ) where
  -- The entries of a number, in their order.
  abbrev pub entries_of : ℕ → List E → List E
  entries_of n history = filter (λ e. number_of e == n) history

  -- Each number in the list stands beside its entries, all of them and no others.
  abbrev pub AreJust : List E → List (ℕ × List E) → Type 0
  AreJust history lists = All (λ x. entries_of x.0 history ≡ x.1) lists

  -- Every entry is of a number below this one.
  abbrev pub AreBelow : ℕ → List E → Type 0
  AreBelow made history = All (λ e. number_of e < made) history

-- The history begins with all of `seen`, and ends with this entry.
abbrev pub GoesOnTo : {E : Type 0} → List E → E → List E → Type 0
GoesOnTo {E} seen e history = (between : List E) × (history ≡ (seen ++ between) ++ e ∷ [])
