-- Where a line stands.
use Rattle.std.specs.Prelude.{◌≡◌, ◌⊎◌, ℕ, ◌+◌, ◌<◌, ◌≤◌, List, Option, Some, None, Contains}
use Rattle.sv_log.specs.Pictures.{Picture}
use Rattle.sv_log.specs.Names.{segment_name}
use Rattle.sv_log.specs.Chains.{NoneBetween}

-- A segment begins with the line of this number.
abbrev pub Begins : List ℕ → Option ℕ → ℕ → Type 0
Begins closed last number = Contains closed number ⊎ (last ≡ Some number)

-- The greatest number up to this one with which a segment begins, and 1 where there is none.
pub record IsFirstOf (closed : List ℕ) (last : Option ℕ) (number first : ℕ) : Type 0 where
  pub some : 1 ≤ first
  pub within : first ≤ number
  pub begins : (first ≡ 1) ⊎ Begins closed last first
  pub greatest : (other : ℕ) → Begins closed last other → other ≤ number → other ≤ first

-- The second number, where it is above the first one and not above a third; else the first one.
abbrev pub IsLaterOf : ℕ → ℕ → ℕ → ℕ → Type 0
IsLaterOf first start number later =
    ((first < start) × (start ≤ number) × (later ≡ start)) ⊎ (((start ≤ first) ⊎ (number < start)) × (later ≡ first))

-- The line of this number is that one of the segment of a number.
pub record IsPlaceIn (first number : ℕ) (file : List ℕ) (line : ℕ) : Type 0 where
  pub name : file ≡ segment_name first
  pub line_is : line + first ≡ number + 1

-- The line of this number is that one of a file: its segment is the last one that begins at or before it.
pub record StandsAt (p : Picture) (number : ℕ) (file : List ℕ) (line : ℕ) : Type 0 where
  pub first : ℕ
  pub within : first ≤ number
  pub place : IsPlaceIn first number file line
  pub there : (bytes : List ℕ) × (p file ≡ Some bytes)
  pub none : NoneBetween p (first + 1) (number + 1)
