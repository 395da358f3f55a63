-- What a witnessing server keeps beside its journal, and what answering a request makes of it.
-- A history is the list of a journal's entries with the latest first.
use Rattle.std.specs.Prelude.{◌≡◌, ℕ, Bool, true, false, List, [], ◌∷◌, ◌++◌}
use Rattle.sv_wire.specs.declared.message.Reply.{Reply}
use Rattle.sv_wire.specs.declared.message.Request.{Request}
use Rattle.sv_wire.specs.declared.message.Request.TheVariants as requests
use Rattle.sv_journal.specs.declared.entry.Entry.{Entry}
use Rattle.sv_journal.specs.History.{accepted, full_reply}
use Rattle.sv_journal.specs.Answer.{Rules}
use Rattle.sv_journal.specs.Serving.{is_poll}
use Rattle.sv_journal.specs.View.{JournalView}
use Rattle.sv_core.specs.declared.decision.Decision.{Decision}
use Rattle.sv_core.specs.declared.decision.Decision.TheVariants as decisions
use Rattle.sv_core.specs.declared.server_core.Core.{Core}
use Rattle.sv_core.specs.Cores.{core_rules, Keeps, SitByNumber}
use Rattle.sv_sequencer.specs.Entering.{HasRoomForEnds}
use Rattle.sv_journal.specs.History.{entry_of}
use Rattle.sv_witness.specs.declared.report.Dispute.{Dispute}
use Rattle.sv_witness.specs.Reports.{agreed_history}
use Rattle.sv_witness.specs.Kept.{RowView, KeepsBeside}
use Rattle.sv_witness.specs.Witnessed.{witnessed_reply}

-- ---- What is decided otherwise than the core decides

-- A Done without its results; any other request as it is. The history of what was agreed has just that of a request that is not noted.
abbrev pub emptied : Request → Request
emptied (requests.Done results) = requests.Done []
emptied q = q

-- The core decided how a Poll is answered that is not refused.
abbrev pub answers_poll : Request → Decision → Bool
answers_poll q decisions.Idle = true
answers_poll q (decisions.Relay seq pos) = is_poll q
answers_poll q _ = false

-- A Poll is sent the first of the positions that are due.
abbrev pub first_relay : List ℕ → Decision
first_relay [] = decisions.Idle
first_relay (p ∷ ps) = decisions.Relay 0 p

-- ---- What is kept

-- Of a journal with these entries the core stands where the history of what was agreed leads, with each session at its own slot, and all that is
-- kept beside it stands.
pub record Standing (core : Core) (rows : List RowView) (disputes : List Dispute) (h : List Entry) : Type 0 where
  pub keeps : Keeps core (agreed_history h)
  pub seats : SitByNumber core
  pub stands : KeepsBeside (core_rules core) rows disputes h

-- The entry of a request, with the witnessed reply.
abbrev pub witnessed_entry : Rules → List Entry → ℕ → Request → Entry
witnessed_entry r h s request = entry_of s request (witnessed_reply r h s request)

-- A request was answered by the witnessed reply, in full, and all that is kept stands by its entry, which the journal has.
pub record Replied (old new : Core) (before after : JournalView) (rows : List RowView) (disputes : List Dispute) (h : List Entry) (s : ℕ) (request : Request) (reply : Reply) : Type 0 where
  pub rules : core_rules new ≡ core_rules old
  pub standing : Standing new rows disputes (witnessed_entry (core_rules old) h s request ∷ h)
  pub entries : after.entries ≡ before.entries ++ witnessed_entry (core_rules old) h s request ∷ []
  pub room : HasRoomForEnds new after
  pub whole : reply ≡ full_reply (accepted (witnessed_entry (core_rules old) h s request ∷ h)) (witnessed_reply (core_rules old) h s request)
