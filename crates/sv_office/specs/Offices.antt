-- An office, and how its steward stands.
use Rattle.std.specs.Prelude.{◌≡◌, ℕ, true, Option, Some, None}
use Rattle.sv_core.specs.Rows.{has_entry}
use Rattle.sv_journal.specs.Laws.{AreWithinLimits}
use Rattle.sv_living.specs.World.{WorldView}
use Rattle.sv_office.specs.declared.steward.Steward.{Steward}

-- The steward's session.
abbrev pub session_of : Option Steward → Option ℕ
session_of None = None
session_of (Some steward) = steward.session

-- A session has entries.
abbrev pub HasBegun : WorldView → Option ℕ → Type 0
HasBegun v session = (s : ℕ) → session ≡ Some s → has_entry v.history s ≡ true

-- The steward's session is not that of a connection.
abbrev pub IsNotStewards : Option ℕ → Option ℕ → Type 0
IsNotStewards mine steward = (s : ℕ) → mine ≡ Some s → steward ≡ Some s → ⊥

-- What an office keeps: the rules of its world are within the limits, and its steward's session has entries.
pub record IsSound (v : WorldView) (steward : Option Steward) : Type 0 where
  pub limits : AreWithinLimits v.rules
  pub begun : HasBegun v (session_of steward)
