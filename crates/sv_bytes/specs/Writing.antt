-- What writing to a sink means. What it took is None where the sink doesn't tell it.
use Rattle.std.specs.Prelude.{◌≡◌, ℕ, ◌<◌, ◌≤◌, List, [], ◌∷◌, ◌++◌, length, take, Option, Some, None}
use Rattle.std.specs.Borrow.{Bor}
use Rattle.sv_bytes.specs.Faults.{Rose}
use Rattle.sv_bytes.specs.declared.writing.Wrote.{Wrote}
use Rattle.sv_bytes.specs.declared.writing.Wrote.TheVariants.{Took, Failed}

-- what a sink has taken after these bytes more
abbrev pub grown : Option (List ℕ) → List ℕ → Option (List ℕ)
grown None bytes = None
grown (Some old) bytes = Some (old ++ bytes)

-- the sink grew by just these bytes
abbrev pub Grew : Option (List ℕ) → Option (List ℕ) → List ℕ → Type 0
Grew old now bytes = now ≡ grown old bytes

-- the sink grew by some front part of these bytes, and by nothing else
pub record GrewByPart (old now : Option (List ℕ)) (bytes : List ℕ) : Type 0 where
  pub size : ℕ
  pub within : size ≤ length bytes
  pub grew : Grew old now (take size bytes)

-- a write of so many bytes takes at least one of them
abbrev pub TakesSome : ℕ → Wrote → Type 0
TakesSome size (Took n) = (0 < n) × (n ≤ size)
TakesSome size Failed = Unit {0}

-- what a write did: the sink grew by the front of the piece, or stays as it was
abbrev pub WritesFront : Option (List ℕ) → Option (List ℕ) → List ℕ → Wrote → Type 0
WritesFront old now piece (Took n) = Grew old now (take n piece)
WritesFront old now piece Failed = now ≡ old

-- several pieces as one text
abbrev pub joined_pieces : List (Bor (List ℕ)) → List ℕ
joined_pieces [] = []
joined_pieces (piece ∷ pieces) = piece.now ++ joined_pieces pieces

-- the sink was given a text: it grew by just that where its count did not rise, and else by a front part of it
pub record GrewOrRose (old now : Option (List ℕ)) (before after : ℕ) (text : List ℕ) : Type 0 where
  pub part : GrewByPart old now text
  pub whole : ¬ Rose before after → Grew old now text
