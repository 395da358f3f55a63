-- What is said of the values that a server has and sends, where those clients are honest by whose reports it goes.
-- A history is the list of a journal's entries with the latest first.
use Rattle.std.specs.Prelude.{◌≡◌, ℕ, ◌<◌, ◌≤◌, true, List, length, reverse, slice_get, All, Some, None}
use Rattle.sv_world.specs.declared.world.Shape.{Shape}
use Rattle.sv_world.specs.Limits.{most_positions}
use Rattle.sv_eval.specs.Serial.{serial_world}
use Rattle.sv_wire.specs.declared.message.Reply.{Reply}
use Rattle.sv_journal.specs.declared.entry.Entry.{Entry}
use Rattle.sv_journal.specs.History.{accepted, actions_of, commit_of, committed_of}
use Rattle.sv_journal.specs.Answer.{Rules}
use Rattle.sv_journal.specs.Laws.{AreWithinLimits}
use Rattle.sv_journal.specs.Serving.{Keeping, LegalFor, IsKeeping}
use Rattle.sv_journal.specs.Living.{Stewardship, living}
use Rattle.sv_client.specs.declared.trace.Trace.{Trace}
use Rattle.sv_client.specs.Traces.{current_session, held_of, got}
use Rattle.sv_client.specs.Taking.{first_fault_of_reply}
use Rattle.sv_client.specs.Proper.{identity_of}
use Rattle.law_system.specs.Cuts.{AreCuts}
use Rattle.law_system.specs.Fits.{replies_in, FitsOne, Fits}
use Rattle.law_system.specs.Served.{OwnsSessions, FitsButValues}
use Rattle.law_system.specs.Journals.{ResultsAreSerial}
use Rattle.law_system.specs.Serial.{AreSerial, AreSufficient, reply_held}
use Rattle.law_system.specs.Within.{KeepsLimits}

-- A client has no fault to find with the next reply of the session that it began last, while it keeps the limits of the rules and a position is left.
abbrev pub FindsNoFault : Rules → List Entry → Trace → Type 0
FindsNoFault r h L = AreWithinLimits r → r.positions ≤ most_positions → length (accepted h) < r.positions → OwnsSessions h L → (s : ℕ) (reply : Reply) →
    current_session (reverse L.events) ≡ Some s → KeepsLimits r h L s → slice_get (replies_in (accepted h) h s) (length (got (reverse L.events) s)) ≡ Some reply →
    first_fault_of_reply (identity_of r.world.shape L) (reverse L.events) reply ≡ None

-- The results that a server goes by are those of the serial execution; so are its committed world, and each value that it sends as committed. And
-- a client whose trace fits the journal, but for the values that it reports, holds serial values alone, got what its items read, saw the objects
-- that it observed as they were at one position, and is not refused.
pub record ServesSerialValues (k : Keeping) (r : Rules) (h : List Entry) : Type 0 where
  pub results : ResultsAreSerial r.world.values (actions_of h) (k.kept h)
  pub world : committed_of r.world.values (k.kept h) ≡ serial_world r.world.values (actions_of h) (commit_of (k.kept h))
  pub sent : All (λ (e : Entry). AreSerial r.world.values (actions_of h) (reply_held e.reply)) h
  pub held : (L : Trace) → FitsButValues r.world.shape h L → AreSerial r.world.values (actions_of h) (held_of (reverse L.events))
  pub relays : (L : Trace) → FitsButValues r.world.shape h L → AreSufficient (actions_of h) (reverse L.events)
  pub seen : (L : Trace) → FitsButValues r.world.shape h L → AreCuts r.world.values (actions_of h) (identity_of r.world.shape L) (reverse L.events)
  pub faults : (L : Trace) → FitsButValues r.world.shape h L → FindsNoFault r h L

-- So it is where all clients are honest, whatever results the server keeps.
abbrev pub HonestClientsAreEnough : Type 0
HonestClientsAreEnough = (k : Keeping) (r : Rules) (h : List Entry) (Ls : List Trace) → IsKeeping k → length r.world.values ≡ r.world.shape.objects →
    LegalFor k r h → Fits r.world.shape h Ls → ServesSerialValues k r h

-- The steward's reports alone count, and it is honest: its trace fits the journal, and each session that was joined as the steward is the trace's
-- own. Of the other clients nothing is asked: they may join any other session, with any life, and ask and report whatever they like there.
pub record HasHonestSteward (w : Stewardship) (shape : Shape) (h : List Entry) (L : Trace) : Type 0 where
  pub alone : w.authority ≡ true
  pub steward : w.steward ≡ Some L.client.0
  pub fits : FitsOne shape h L
  pub owns : OwnsSessions h L

-- And so it is where the steward is honest, in a living world in which its reports alone count.
abbrev pub HonestStewardIsEnough : Type 0
HonestStewardIsEnough = (w : Stewardship) (r : Rules) (h : List Entry) (L : Trace) → length r.world.values ≡ r.world.shape.objects → LegalFor (living w) r h →
    HasHonestSteward w r.world.shape h L → ServesSerialValues (living w) r h
