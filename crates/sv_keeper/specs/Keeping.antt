-- A kept world: its entries stand in its log, and nothing is sent before it is durable.
use Rattle.std.specs.Prelude.{◌≡◌, ◌⊎◌, ℕ, ◌≤◌, true, false, List, [], ◌++◌, length}
use Rattle.sv_wire.specs.declared.message.Request.{Request}
use Rattle.sv_wire.specs.declared.message.Reply.{Reply}
use Rattle.sv_journal.specs.History.{accepted, full_reply}
use Rattle.sv_journal.specs.History.{entry_of}
use Rattle.sv_living.specs.Sessions.{may_ask}
use Rattle.sv_living.specs.World.{WorldView, after, reply_in, IsStepFault}
use Rattle.sv_living.specs.declared.fault.StepFault.TheVariants as causes
use Rattle.sv_log.specs.Pictures.{Disk}
use Rattle.sv_log.specs.Texts.{IsText}
use Rattle.sv_log.specs.Logs.{HasSizes}
use Rattle.sv_log.specs.OpenLogs.{IsOpenLog, log_text, log_synced}
use Rattle.sv_keeper.specs.Histories.{last_line, history_text, first_entries}
use Rattle.sv_keeper.specs.Views.{KeeperView}
use Rattle.sv_keeper.specs.declared.fault.KeepFault.{KeepFault}
use Rattle.sv_keeper.specs.declared.fault.KeepFault.TheVariants as faults

-- The text of all entries.
abbrev pub text_of : WorldView → List ℕ
text_of v = history_text v.rules.world.shape v.history

-- The line of a request that a session makes next, by the answer table.
abbrev pub next_line : WorldView → ℕ → Request → List ℕ
next_line v s request = last_line v.rules.world.shape (entry_of s request (reply_in v s request)) v.history

-- How many entries there may be: the next one has a number then.
abbrev pub most_entries : ℕ
most_entries = 18446744073709551614

module _ {F : Type 0} where
  -- A request was stepped: the world has one entry more, the reply is the one in full, its line is put into the group, and the log is as it was.
  pub record Stepped (old new : KeeperView F) (s : ℕ) (request : Request) (reply : Reply) : Type 0 where
    pub asks : may_ask old.world.history s ≡ true
    pub world : new.world ≡ after old.world s request
    pub whole : reply ≡ full_reply (accepted new.world.history) (reply_in old.world s request)
    pub group : new.group ≡ old.group ++ next_line old.world s request
    pub log : new.log ≡ old.log
    pub synced : new.synced ≡ old.synced
    pub sound : new.is_broken ≡ false

  -- A request was stepped, and its line had no memory.
  pub record IsStuck (old new : KeeperView F) (s : ℕ) (request : Request) : Type 0 where
    pub world : new.world ≡ after old.world s request
    pub log : new.log ≡ old.log
    pub broken : new.is_broken ≡ true

  -- Why a request was not stepped. Nothing changed, unless its line had no memory.
  abbrev pub WasNotStepped : KeeperView F → KeeperView F → ℕ → Request → KeepFault → Type 0
  WasNotStepped old new s request faults.NotOpen = (new ≡ old) × IsStepFault old.world.history s causes.NotOpen
  WasNotStepped old new s request faults.NoRoom = (new ≡ old) × IsStepFault old.world.history s causes.NoRoom
  WasNotStepped old new s request faults.Memory = (new ≡ old) × IsStepFault old.world.history s causes.Memory
  WasNotStepped old new s request faults.Broken =
      ((old.is_broken ≡ true) × (new ≡ old)) ⊎ (((length old.world.history ≡ most_entries) × (new ≡ old)) ⊎ IsStuck old new s request)

module _ {F : Type 0} (disk : F → Disk) (is_honest : F → Type 0) where
  -- What is so of a keeper that is not broken: its log has the lines of all entries but those of the group, and these are the group's. Those of
  -- the first `synced` entries are on the disk.
  pub record IsKeptWorld (keeper : KeeperView F) : Type 0 where
    pub sizes : HasSizes keeper.log.segment
    pub lines : IsText keeper.group
    pub part : keeper.synced ≤ length keeper.world.history
    pub durable : keeper.group ≡ [] → keeper.synced ≡ length keeper.world.history
    pub opened : is_honest keeper.log.segment.folder → IsOpenLog disk keeper.log
    pub text : is_honest keeper.log.segment.folder → log_text disk keeper.log ++ keeper.group ≡ text_of keeper.world
    pub on_disk : is_honest keeper.log.segment.folder
        → log_synced disk keeper.log ≡ history_text keeper.world.rules.world.shape (first_entries keeper.synced keeper.world.history)

  -- All lines are on the disk.
  pub record AreDurable (keeper : KeeperView F) : Type 0 where
    pub sound : keeper.is_broken ≡ false
    pub none : keeper.group ≡ []
    pub all : keeper.synced ≡ length keeper.world.history
    pub on_disk : is_honest keeper.log.segment.folder → log_synced disk keeper.log ≡ text_of keeper.world
