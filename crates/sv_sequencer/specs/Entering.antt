-- A core and a journal, and what entering a request with its reply makes of both.
-- A history is the list of entries with the latest first. The journal's may be another than the one that the core keeps: where the core takes
-- of a request less than was asked, its history has the request as it was taken.
use Rattle.std.specs.Prelude.{◌≡◌, ℕ, ◌≤◌, List, [], ◌∷◌, ◌++◌}
use Rattle.sv_wire.specs.declared.message.Reply.{Reply}
use Rattle.sv_wire.specs.declared.message.Request.{Request}
use Rattle.sv_journal.specs.declared.entry.Entry.{Entry}
use Rattle.sv_journal.specs.History.{accepted, full_reply}
use Rattle.sv_journal.specs.View.{JournalView}
use Rattle.sv_core.specs.declared.decision.Decision.{Decision}
use Rattle.sv_core.specs.declared.server_core.Core.{Core}
use Rattle.sv_core.specs.Cores.{core_rules, session_at, owed_by, Keeps, Remained, decided_entry}
use Rattle.sv_core.specs.Decisions.{reply_by}
use Rattle.sv_journal.specs.History.{entry_of}

-- The journal has room for the Ends that are to come.
abbrev pub HasRoomForEnds : Core → JournalView → Type 0
HasRoomForEnds core journal = owed_by core ≤ journal.spare

-- The core stands where a history leads once it has the entry `taken`, and the journal grew by just the entry `asked`.
pub record TookEntry (old new : Core) (before after : JournalView) (h : List Entry) (taken asked : Entry) : Type 0 where
  pub rules : core_rules new ≡ core_rules old
  pub seats : (slot : ℕ) → session_at new slot ≡ session_at old slot
  pub keeps : Keeps new (taken ∷ h)
  pub entries : after.entries ≡ before.entries ++ asked ∷ []
  pub room : HasRoomForEnds new after

-- What was decided on a request as it was taken is done, the request as it was asked is entered with the reply that the decision stands for, and
-- this is given in full.
pub record EnteredReply (old new : Core) (before after : JournalView) (h : List Entry) (s : ℕ) (asked taken : Request) (decision : Decision) (reply : Reply) : Type 0 where
  pub entered : TookEntry old new before after h (decided_entry old h s taken decision) (entry_of s asked (reply_by (core_rules old) h s taken decision))
  pub whole : reply ≡ full_reply (accepted (decided_entry old h s taken decision ∷ h)) (reply_by (core_rules old) h s taken decision)

-- Nothing changed but the room for more entries.
pub record NothingEntered (old new : Core) (before after : JournalView) (h : List Entry) : Type 0 where
  pub core : Remained old new h
  pub entries : after.entries ≡ before.entries
  pub room : before.spare ≤ after.spare
