-- What contracts see of a lock and of a pass.
use Rattle.std.specs.Prelude.{ℕ, ◌<◌, List, map, Contains, Option, unwrap_or}
use Rattle.atomic_table.specs.Seated.{TableId}

-- How many passes a lock may have.
abbrev pub most_passes : ℕ
most_passes = 64

-- Which lock it is, and for how many passes it is made.
pub record LockView : Type 0 where
  pub id : TableId
  pub passes : ℕ

-- What a caller knows. The keeper's pass has no session number.
pub record PassView (B E : Type 0) : Type 0 where
  -- the lock that it belongs to
  pub lock : TableId
  pub session : Option ℕ
  -- the base of the lock's object
  pub base : B
  -- a beginning of the object's history
  pub seen : List E
  -- its own entries, in order
  pub mine : List E
  -- how many passes the keeper made
  pub made : ℕ
  -- the number of each pass that the keeper took in, with that pass's entries
  pub ended : List (ℕ × List E)

-- The number of a pass that is not the keeper's.
abbrev pub session_number : {B E : Type 0} → PassView B E → ℕ
session_number pass = unwrap_or pass.session 0

-- Every pass that was made was taken in.
abbrev pub AllEnded : {B E : Type 0} → PassView B E → Type 0
AllEnded keeper = (n : ℕ) → n < keeper.made → Contains (map (λ x. x.0) keeper.ended) n
