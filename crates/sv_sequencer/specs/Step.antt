-- A sequencer as its callers see it, and one step of it.
use Rattle.std.specs.Prelude.{◌≡◌, ℕ, List, [], ◌∷◌, ◌++◌, reverse}
use Rattle.sv_wire.specs.declared.message.Reply.{Reply}
use Rattle.sv_wire.specs.declared.message.Request.{Request}
use Rattle.sv_journal.specs.declared.entry.Entry.{Entry}
use Rattle.sv_journal.specs.History.{accepted, entry_of, full_reply}
use Rattle.sv_journal.specs.View.{JournalView}
use Rattle.sv_journal.specs.Answer.{Rules, reply_to}

-- What it was opened with, and its journal.
pub record SequencerView : Type 0 where
  pub rules : Rules
  pub journal : JournalView

-- The entries of its journal, the latest first.
abbrev pub history : SequencerView → List Entry
history v = reverse v.journal.entries

-- The journal grew by just an entry.
pub record GrewByEntry (old new : SequencerView) (e : Entry) : Type 0 where
  pub rules : new.rules ≡ old.rules
  pub entries : new.journal.entries ≡ old.journal.entries ++ e ∷ []

-- A step answered a request by the reply that the journal's history gives, in full.
pub record StepAnswered (old new : SequencerView) (s : ℕ) (request : Request) (reply : Reply) : Type 0 where
  pub grew : GrewByEntry old new (entry_of s request (reply_to old.rules (history old) s request))
  pub whole : reply ≡ full_reply (accepted (history new)) (reply_to old.rules (history old) s request)

-- Nothing changed but the room for more entries.
pub record Stayed (old new : SequencerView) : Type 0 where
  pub rules : new.rules ≡ old.rules
  pub entries : new.journal.entries ≡ old.journal.entries
