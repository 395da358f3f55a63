-- What holds of each entry of a journal, and of each reply that a client took.
-- A history is the list of a journal's entries with the latest first, and events stand here so too.
use Rattle.std.specs.Prelude.{List, [], ◌∷◌}
use Rattle.sv_wire.specs.declared.message.Request.{Request}
use Rattle.sv_wire.specs.declared.message.Reply.{Reply}
use Rattle.sv_journal.specs.declared.entry.Entry.{Entry}
use Rattle.sv_journal.specs.Answer.{Rules, Legal}
use Rattle.sv_journal.specs.Serving.{Keeping, LegalFor, IsKeeping}
use Rattle.sv_client.specs.declared.trace.Event.{Event}
use Rattle.sv_client.specs.declared.trace.Event.TheVariants as events
use Rattle.sv_client.specs.Taking.{Identity, outstanding}

-- ---- Journals

-- P holds of each entry, with the entries before it.
abbrev pub EachEntry : (List Entry → Entry → Type 0) → List Entry → Type 0
EachEntry P [] = Unit {0}
EachEntry P (e ∷ h) = P h e × EachEntry P h

-- P holds so in every legal journal, whatever the clients ask.
abbrev pub HoldsInLegal : (List Entry → Entry → Type 0) → Type 0
HoldsInLegal P = (r : Rules) (h : List Entry) → Legal r h → EachEntry P h

-- The same of every server with a keeping, which goes by some of the results that it is told.
abbrev pub HoldsInServed : (Keeping → List Entry → Entry → Type 0) → Type 0
HoldsInServed P = (k : Keeping) (r : Rules) (h : List Entry) → IsKeeping k → LegalFor k r h → EachEntry (P k) h

-- ---- Traces

-- P holds of a reply and of the first of the requests that wait for one.
abbrev pub ForOldest : (Request → Reply → Type 0) → List Request → Reply → Type 0
ForOldest P [] reply = ⊥
ForOldest P (request ∷ later) reply = P request reply

-- P holds of each reply that a client took, with the request that it answered.
abbrev pub EachTaken : (Request → Reply → Type 0) → Identity → List Event → Type 0
EachTaken P who [] = Unit {0}
EachTaken P who (events.Got s reply ∷ t) = ForOldest P (outstanding who t) reply × EachTaken P who t
EachTaken P who (_ ∷ t) = EachTaken P who t
