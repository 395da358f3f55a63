-- What calls for one connection leave of the others, and what is so at first.
use Rattle.std.specs.Prelude.{ℕ, [], Option}
use Rattle.sv_journal.specs.Answer.{Rules}
use Rattle.sv_journal.specs.Living.{Stewardship}
use Rattle.sv_living.specs.Sessions.{AreInOrder}
use Rattle.sv_living.specs.World.{WorldView}
use Rattle.sv_office.specs.Entering.{GrowsBy, IsReport, IsGuests}
use Rattle.sv_office.specs.Offices.{IsNotStewards}
use Rattle.sv_office.specs.Telling.{IsServedGuest}
use Rattle.sv_office.specs.Trusting.{IsSerialWorld}
use Rattle.sv_office.specs.declared.guest.Guest.{Guest}

-- A connection stands as it stood, while entries of another one and of the steward are added.
abbrev pub OthersStay : Type 0
OthersStay = (v w : WorldView) (guest : Guest) (steward mine : Option ℕ) → AreInOrder w.history → GrowsBy (IsGuests v.history steward mine) v w
    → IsNotStewards guest.session steward → IsNotStewards guest.session mine → IsServedGuest v guest → IsServedGuest w guest

-- A connection stands as it stood, while reports of the steward are added.
abbrev pub AllStay : Type 0
AllStay = (v w : WorldView) (guest : Guest) (steward : Option ℕ) → AreInOrder w.history → GrowsBy (IsReport steward) v w → IsNotStewards guest.session steward
    → IsServedGuest v guest → IsServedGuest w guest

-- A world in which nobody has asked anything is serial.
abbrev pub NewWorldsAreSerial : Type 0
NewWorldsAreSerial = (r : Rules) (w : Stewardship) → IsSerialWorld (record { rules = r; stewardship = w; history = [] })
