-- Observes that wait for news.
use Rattle.std.specs.Prelude.{◌≡◌, ◌⊎◌, ℕ, ◌<◌, ◌≤◌, Option, None, Some}
use Rattle.sv_wire.specs.declared.message.Request.{Request}
use Rattle.sv_wire.specs.declared.message.Reply.{Reply}
use Rattle.sv_living.specs.World.{WorldView}
use Rattle.sv_office.specs.Telling.{WouldShowNothing, ShowsSomething}
use Rattle.sv_office.specs.declared.guest.Guest.{Guest}
use Rattle.sv_office.specs.declared.guest.Held.{Held}
use Rattle.sv_office.specs.declared.waiting.HeldObserve.{HeldObserve}
use Rattle.sv_office.specs.declared.waiting.HeldObserve.TheVariants as waiting

-- A request may be held: what it would be answered now shows nothing.
pub record IsHeld (v : WorldView) (now : ℕ) (guest : Guest) (request : Request) (until : ℕ) : Type 0 where
  pub later : now ≤ until
  pub quiet : (reply : Reply) × WouldShowNothing v guest request reply

-- How what is held of a connection stands at a time.
abbrev pub IsWaitingFor : WorldView → ℕ → Guest → Option Held → HeldObserve → Type 0
IsWaitingFor v now guest None waiting.Nothing = Unit {0}
IsWaitingFor v now guest None waiting.Due = ⊥
IsWaitingFor v now guest None (waiting.Until time) = ⊥
IsWaitingFor v now guest (Some held) waiting.Nothing = ⊥
IsWaitingFor v now guest (Some held) waiting.Due = (held.until ≤ now) ⊎ ShowsSomething v guest held.request
IsWaitingFor v now guest (Some held) (waiting.Until time) =
    (time ≡ held.until) × (now < time) × ((reply : Reply) × WouldShowNothing v guest held.request reply)

abbrev pub IsWaiting : WorldView → ℕ → Guest → HeldObserve → Type 0
IsWaiting v now guest standing = IsWaitingFor v now guest guest.held standing
