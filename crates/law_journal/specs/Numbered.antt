-- What is said of the numbers that relays tell.
use Rattle.std.specs.Prelude.{◌≡◌, ◌↔◌, ℕ, ◌≤◌, List, ◌∷◌}
use Rattle.sv_wire.specs.declared.message.Request.{Request}
use Rattle.sv_wire.specs.declared.message.Request.TheVariants as requests
use Rattle.sv_wire.specs.declared.message.Reply.{Reply}
use Rattle.sv_wire.specs.declared.message.Reply.TheVariants as replies
use Rattle.sv_journal.specs.declared.entry.Entry.{Entry}
use Rattle.sv_journal.specs.History.{accepted, full_reply}
use Rattle.sv_client.specs.declared.trace.Event.{Event}
use Rattle.sv_client.specs.Taking.{Identity}
use Rattle.law_system.specs.Clients.{AreClientEvents}
use Rattle.law_journal.specs.Entries.{HoldsInLegal, HoldsInServed, EachTaken}

-- The number that a relay tells is that of the Submit that it answers, which is not 0, or 0 where it answers a Poll. Nothing else is answered by
-- a relay.
abbrev pub IsNumberFor : Request → ℕ → Type 0
IsNumberFor (requests.Submit seq action) n = (n ≡ seq) × (1 ≤ n)
IsNumberFor requests.Poll n = n ≡ 0
IsNumberFor _ n = ⊥

abbrev pub TellsNumber : Request → Reply → Type 0
TellsNumber request (replies.Relay seq commit head items) = IsNumberFor request seq
TellsNumber request _ = Unit {0}

-- A relay tells 0 just where it answers a Poll.
abbrev pub IsZeroForPolls : Request → Reply → Type 0
IsZeroForPolls request (replies.Relay seq commit head items) = (seq ≡ 0) ↔ (request ≡ requests.Poll)
IsZeroForPolls request _ = Unit {0}

-- This holds of an entry's request and reply, as the reply was sent.
abbrev pub OfEntry : (Request → Reply → Type 0) → List Entry → Entry → Type 0
OfEntry P h e = P e.request (full_reply (accepted (e ∷ h)) e.reply)

abbrev pub LegalRelaysOfZeroAnswerPolls : Type 0
LegalRelaysOfZeroAnswerPolls = HoldsInLegal (OfEntry IsZeroForPolls)

abbrev pub ServedRelaysOfZeroAnswerPolls : Type 0
ServedRelaysOfZeroAnswerPolls = HoldsInServed (λ k. OfEntry IsZeroForPolls)

abbrev pub ServedRelaysTellTheirNumbers : Type 0
ServedRelaysTellTheirNumbers = HoldsInServed (λ k. OfEntry TellsNumber)

-- The same of each reply that a client took, whoever sent it.
abbrev pub TakenRelaysOfZeroAnswerPolls : Type 0
TakenRelaysOfZeroAnswerPolls = (who : Identity) (t : List Event) → AreClientEvents who t → EachTaken IsZeroForPolls who t
