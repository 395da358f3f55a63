-- What is said of the requests that honest clients ask.
use Rattle.std.specs.Prelude.{◌≡◌, ℕ, ◌*◌, ◌^◌, ◌<◌, ◌≤◌, List, [], ◌∷◌, length, reverse, slice_get, Some, All}
use Rattle.sv_world.specs.Limits.{most_positions}
use Rattle.sv_wire.specs.Ranges.{ValueFits, ActionFits, RequestFits}
use Rattle.sv_wire.specs.Laws.{IsRequest, IsReply}
use Rattle.sv_journal.specs.declared.entry.Entry.{Entry}
use Rattle.sv_journal.specs.History.{accepted, actions_of, full_reply}
use Rattle.sv_journal.specs.Answer.{Rules, Legal}
use Rattle.sv_journal.specs.Serving.{Keeping, LegalFor, IsKeeping}
use Rattle.sv_journal.specs.Laws.{AreWithinLimits}
use Rattle.sv_client.specs.declared.trace.Event.{Event}
use Rattle.sv_client.specs.declared.trace.Event.TheVariants as events
use Rattle.sv_client.specs.declared.trace.Trace.{Trace}
use Rattle.sv_client.specs.Traces.{joins, makes, held_of, requests_of}
use Rattle.law_system.specs.Fits.{Fits}
use Rattle.law_system.specs.Served.{FitsButValues}
use Rattle.law_system.specs.Serial.{AreSerial}

-- The numbers of an action that is made, and the time that an observing client would wait, are those of their types.
abbrev pub EventFits : Event → Type 0
EventFits (events.Make action) = ActionFits action
EventFits (events.Observe objects wait) = wait < 2 ^ 16
EventFits _ = Unit {0}

-- There are numbers for a client's lives, and for its actions.
pub record CountsFit (L : Trace) : Type 0 where
  pub lives : joins (reverse L.events) < 2 ^ 32
  pub actions : makes (reverse L.events) < 2 ^ 32

-- What a run is given has numbers of their types: its objects, the values of its opening world, and the actions that clients made and what they
-- would wait. And there are numbers for the positions of the accepted actions, and for each client's lives and actions.
pub record HasNumbers (r : Rules) (h : List Entry) (Ls : List Trace) : Type 0 where
  pub objects : r.world.shape.objects ≤ 2 ^ 16
  pub opening : All ValueFits r.world.values
  pub made : All (λ (L : Trace). All EventFits L.events) Ls
  pub counts : All CountsFit Ls
  pub positions : length (accepted h) < 2 ^ 32

-- Each request that an honest client asks in a session is a message, with numbers of its types.
abbrev pub RequestsAreMessages : Type 0
RequestsAreMessages = (r : Rules) (h : List Entry) (Ls : List Trace) (i : ℕ) (L : Trace) (s : ℕ) → AreWithinLimits r → HasNumbers r h Ls →
    Legal r h → Fits r.world.shape h Ls → slice_get Ls i ≡ Some L → All IsRequest (requests_of L s)

-- Where each session may make so many requests, a journal of so many sessions accepts at most so many actions.
abbrev pub AcceptedAreFew : Type 0
AcceptedAreFew = (r : Rules) (h : List Entry) (sessions most : ℕ) → r.requests ≡ Some most → Legal r h → All (λ (e : Entry). e.session < sessions) h →
    length (accepted h) ≤ most * sessions

-- Each reply of a legal journal is a message, with numbers of its types, where the opening world and the requests have numbers of theirs,
-- whatever the clients ask, and however long the journal is. The rules have no more positions than there are numbers.
abbrev pub RepliesAreMessages : Type 0
RepliesAreMessages = (r : Rules) (h : List Entry) → AreWithinLimits r → r.positions ≤ most_positions → r.world.shape.objects ≤ 2 ^ 16 → All ValueFits r.world.values →
    All (λ (e : Entry). RequestFits e.request) h → Legal r h → All (λ (e : Entry). IsReply (full_reply (accepted h) e.reply)) h

-- ---- Any keeping

-- Each request of a client whose trace fits the journal but for the values that it reports, and who holds serial values, is a message, with numbers
-- of its types. Nothing is asked of the other clients, but that the actions that they made have numbers of their types.
abbrev pub ServedRequestsFit : Type 0
ServedRequestsFit = (k : Keeping) (r : Rules) (h : List Entry) (L : Trace) (s : ℕ) → IsKeeping k → AreWithinLimits r → HasNumbers r h (L ∷ []) →
    All ActionFits (actions_of h) → LegalFor k r h → FitsButValues r.world.shape h L → AreSerial r.world.values (actions_of h) (held_of (reverse L.events)) →
    All IsRequest (requests_of L s)

abbrev pub ServedAcceptedAreFew : Type 0
ServedAcceptedAreFew = (k : Keeping) (r : Rules) (h : List Entry) (sessions most : ℕ) → IsKeeping k → r.requests ≡ Some most → LegalFor k r h →
    All (λ (e : Entry). e.session < sessions) h → length (accepted h) ≤ most * sessions

abbrev pub ServedRepliesFit : Type 0
ServedRepliesFit = (k : Keeping) (r : Rules) (h : List Entry) → IsKeeping k → AreWithinLimits r → r.positions ≤ most_positions → r.world.shape.objects ≤ 2 ^ 16 →
    All ValueFits r.world.values → All (λ (e : Entry). RequestFits e.request) h → LegalFor k r h → All (λ (e : Entry). IsReply (full_reply (accepted h) e.reply)) h
