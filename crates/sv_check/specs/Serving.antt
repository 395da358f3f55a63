-- The server that a report's journal tells of, as it is read. A history is the list of a journal's entries with the latest first.
use Rattle.std.specs.Prelude.{◌≡◌, ℕ, ◌<◌, ◌≤◌, true, List, map, reverse, All}
use Rattle.sv_wire.specs.declared.message.Reply.{Reply}
use Rattle.sv_journal.specs.declared.entry.Entry.{Entry}
use Rattle.sv_journal.specs.History.{accepted, full_reply}
use Rattle.sv_journal.specs.Sessions.{is_ended}
use Rattle.sv_sequencer.specs.Step.{history}
use Rattle.sv_scenario.specs.declared.scenario.Scenario.{Scenario}
use Rattle.sv_scenario.specs.Sessions.{session_count}
use Rattle.law_system.specs.Records.{rules_of, ends_in}
use Rattle.sv_check.specs.declared.journal.Served.{Served}
use Rattle.sv_check.specs.Parts.{AreEntries}

-- The whole replies of entries, in order.
abbrev pub full_replies : List Entry → List Reply
full_replies entries = map (λ (e : Entry). full_reply (accepted (reverse entries)) e.reply) entries

abbrev pub entries_of : Served → List Entry
entries_of served = served.sequencer.journal.entries

abbrev pub HasReplies : Served → Type 0
HasReplies served = served.replies.items ≡ full_replies (entries_of served)

-- It is the scenario's server, which answered requests that can be told, of the scenario's sessions, with at most one End for each.
pub record IsServed (scenario : Scenario) (served : Served) : Type 0 where
  pub rules : served.sequencer.rules ≡ rules_of scenario
  pub sessions : All (λ (e : Entry). e.session < session_count scenario) (history served.sequencer)
  pub once : (s : ℕ) → ends_in (history served.sequencer) s ≤ 1
  pub entries : AreEntries scenario (history served.sequencer)
  pub replies : HasReplies served

-- Each session had its End.
abbrev pub AreEnded : Scenario → List Entry → Type 0
AreEnded scenario h = (s : ℕ) → s < session_count scenario → is_ended h s ≡ true
