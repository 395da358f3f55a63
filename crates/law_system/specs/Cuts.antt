-- What was seen is one cut of the serial execution: after each Seen that a client got, the objects that it asked for are known at one position,
-- and are there what the serial execution makes of them.
-- A history is the list of a journal's entries with the latest first; events stand with the latest first too.
use Rattle.std.specs.Prelude.{◌≡◌, ℕ, suc, ℤ, List, [], ◌∷◌, reverse, slice_index_or, Some, All}
use Rattle.sv_world.specs.declared.action.Action.{Action}
use Rattle.sv_world.specs.declared.world.Shape.{Shape}
use Rattle.sv_eval.specs.Serial.{serial_world}
use Rattle.sv_versions.specs.Held.{Held, read_below}
use Rattle.sv_wire.specs.declared.message.Reply.{Reply}
use Rattle.sv_wire.specs.declared.message.Reply.TheVariants as replies
use Rattle.sv_journal.specs.declared.entry.Entry.{Entry}
use Rattle.sv_journal.specs.History.{actions_of}
use Rattle.sv_client.specs.declared.trace.Event.{Event}
use Rattle.sv_client.specs.declared.trace.Event.TheVariants as events
use Rattle.sv_client.specs.declared.trace.Trace.{Trace}
use Rattle.sv_client.specs.Traces.{held_of, with_reply}
use Rattle.sv_client.specs.Taking.{Identity, observed_now}
use Rattle.sv_client.specs.Proper.{identity_of}

-- Each of the objects is read just behind a position as it is in the serial world there.
abbrev pub IsCut : List (List ℤ) → List Action → List Held → ℕ → List ℕ → Type 0
IsCut opening A held last xs = All (λ x. read_below held x (suc last) ≡ Some (slice_index_or (serial_world opening A last) x [])) xs

-- So is each of the objects that a Seen was asked for, with what is held after it.
abbrev pub IsSeenWhole : List (List ℤ) → List Action → Identity → List Event → Reply → Type 0
IsSeenWhole opening A who t (replies.Seen last commit head items) =
    IsCut opening A (with_reply (held_of t) (replies.Seen last commit head items)) last (observed_now who t)
IsSeenWhole opening A who t _ = Unit {0}

-- Each Seen that was got.
abbrev pub AreCuts : List (List ℤ) → List Action → Identity → List Event → Type 0
AreCuts opening A who [] = Unit {0}
AreCuts opening A who (events.Got s reply ∷ t) = IsSeenWhole opening A who t reply × AreCuts opening A who t
AreCuts opening A who (_ ∷ t) = AreCuts opening A who t

abbrev pub SeenAreCuts : Shape → List (List ℤ) → List Entry → List Trace → Type 0
SeenAreCuts shape opening h Ls = All (λ (L : Trace). AreCuts opening (actions_of h) (identity_of shape L) (reverse L.events)) Ls
