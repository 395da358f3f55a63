-- The sequencer as an object that callers share: what a step of it adds, when one may be made, and which reply is whole.
use Rattle.std.specs.Prelude.{◌≡◌, ℕ, true, false, List, [], ◌∷◌, reverse, All}
use Rattle.sv_wire.specs.declared.message.Reply.{Reply}
use Rattle.sv_wire.specs.declared.message.Request.{Request}
use Rattle.sv_journal.specs.declared.entry.Entry.{Entry}
use Rattle.sv_journal.specs.History.{accepted, full_reply}
use Rattle.sv_journal.specs.Sessions.{is_end}
use Rattle.sv_journal.specs.Answer.{Rules, MayBeSession}

-- The reply is, in full, that of the last entry of a history, which has the latest first.
abbrev pub IsFullReply : Reply → List Entry → Type 0
IsFullReply reply [] = ⊥
IsFullReply reply (e ∷ h) = reply ≡ full_reply (accepted (e ∷ h)) e.reply

-- The same for entries in their order.
abbrev pub IsFullInOrder : Reply → List Entry → Type 0
IsFullInOrder reply entries = IsFullReply reply (reverse entries)

-- A request of a session may be answered: there is such a session; and an End is its first, where `mine` are its entries so far.
pub record MayAsk (rules : Rules) (s : ℕ) (request : Request) (mine : List Entry) : Type 0 where
  pub session : MayBeSession rules.sessions s
  pub first : is_end request ≡ true → All (λ (e : Entry). is_end e.request ≡ false) mine
