-- A world in which the steward's reports alone count, and its serial execution.
use Rattle.std.specs.Prelude.{◌≡◌, ℕ, true, Some}
use Rattle.sv_eval.specs.Serial.{serial_world}
use Rattle.sv_wire.specs.declared.message.Request.{Request}
use Rattle.sv_journal.specs.History.{actions_of, commit_of, committed_of}
use Rattle.sv_journal.specs.Living.{Stewardship, is_stewards, living}
use Rattle.sv_journal.specs.Serving.{LegalFor}
use Rattle.law_system.specs.Told.{GoesBySerial, ReportsSerial}
use Rattle.sv_living.specs.World.{WorldView, heeded_in}
use Rattle.sv_office.specs.Admitting.{steward_number}

-- The steward's reports alone count.
pub record IsAuthority (w : Stewardship) : Type 0 where
  pub alone : w.authority ≡ true
  pub named : w.steward ≡ Some steward_number

-- Each result that counts is that of the serial execution of the accepted actions, in their order; and so the committed world is the one of this execution.
pub record IsSerialWorld (v : WorldView) : Type 0 where
  pub results : GoesBySerial (living v.stewardship) v.rules v.history
  pub world : committed_of v.rules.world.values (heeded_in v) ≡ serial_world v.rules.world.values (actions_of v.history) (commit_of (heeded_in v))

-- Where the steward's reports alone count, a world that was serial is so still.
abbrev pub StaysSerial : WorldView → WorldView → Type 0
StaysSerial v w = IsAuthority v.stewardship → IsSerialWorld v → IsSerialWorld w

-- A session was joined as the steward.
abbrev pub WasJoinedAsSteward : WorldView → ℕ → Type 0
WasJoinedAsSteward v s = is_stewards (Some steward_number) v.history s ≡ true

-- Where a session was joined as the steward, what it asks reports the results of the serial execution, if it reports any.
abbrev pub ReportsSerially : WorldView → ℕ → Request → Type 0
ReportsSerially v s request =
    IsAuthority v.stewardship → IsSerialWorld v → WasJoinedAsSteward v s → ReportsSerial v.rules.world.values (actions_of v.history) request

-- A world's history is legal by the table of replies.
abbrev pub IsLegalWorld : WorldView → Type 0
IsLegalWorld v = LegalFor (living v.stewardship) v.rules v.history
