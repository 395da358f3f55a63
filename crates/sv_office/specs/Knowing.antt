-- What the steward was told, and whose the sessions are that were joined as the steward.
use Rattle.std.specs.Prelude.{◌≡◌, ℕ, true, false, ◌∷◌, Option, Some}
use Rattle.std.specs.Option.{ForSome}
use Rattle.sv_wire.specs.declared.message.Reply.{Reply}
use Rattle.sv_client.specs.declared.trace.Event.TheVariants as events
use Rattle.law_system.specs.Told.{GotWhatWasTold}
use Rattle.sv_living.specs.Sessions.{is_open}
use Rattle.sv_living.specs.World.{WorldView}
use Rattle.sv_keeper.specs.Views.{KeeperView}
use Rattle.sv_office.specs.Offices.{session_of}
use Rattle.sv_office.specs.Trusting.{WasJoinedAsSteward}
use Rattle.sv_office.specs.declared.steward.Steward.{Steward}

-- The steward got just what its session was told.
abbrev pub HasGotAll : WorldView → Steward → Type 0
HasGotAll v steward = GotWhatWasTold v.history steward.session steward.client.value.events

-- With this reply it has.
abbrev pub LacksOnly : WorldView → Steward → Reply → Type 0
LacksOnly v steward reply = GotWhatWasTold v.history steward.session (events.Got 0 reply ∷ steward.client.value.events)

-- It has, unless it is behind.
abbrev pub IsUpToDate : WorldView → Steward → Type 0
IsUpToDate v steward = steward.is_behind ≡ false → HasGotAll v steward

-- No session is open that was joined as the steward, but the steward's own.
abbrev pub IsAlone : WorldView → Option ℕ → Type 0
IsAlone v mine = (s : ℕ) → is_open v.history s ≡ true → WasJoinedAsSteward v s → mine ≡ Some s

module _ {F : Type 0} where
  -- So it is while the keeper keeps its world.
  abbrev pub IsAloneIn : KeeperView F → Option ℕ → Type 0
  IsAloneIn keeper mine = keeper.is_broken ≡ false → IsAlone keeper.world mine

  -- Nobody else reports as the steward, and it got what it was told.
  pub record IsTrusted (keeper : KeeperView F) (steward : Option Steward) : Type 0 where
    pub alone : IsAloneIn keeper (session_of steward)
    pub told : ForSome steward (IsUpToDate keeper.world)
