-- Servers that keep a legal journal, as a client meets them.
use Rattle.std.specs.Prelude.{◌≡◌, ℕ, ◌+◌, ◌<◌, List, length, map, Some, slice_get, All}
use mathlib.Core.List.{IsPrefix}
use Rattle.sv_world.specs.Limits.{most_positions}
use Rattle.sv_wire.specs.Ranges.{RequestFits}
use Rattle.sv_journal.specs.declared.entry.Entry.{Entry}
use Rattle.sv_journal.specs.History.{accepted}
use Rattle.sv_journal.specs.Answer.{Legal}
use Rattle.sv_client.specs.declared.trace.Trace.{Trace}
use Rattle.sv_client.specs.Seen.{raised}
use Rattle.sv_scenario.specs.declared.scenario.Scenario.{Scenario}
use Rattle.law_system.specs.Fits.{Fits, replies_in}
use Rattle.law_system.specs.Records.{rules_of}
use Rattle.law_traffic.specs.Traffic.{reply_frames}
use Rattle.sv_door.specs.Doors.{Passage}

-- The same trace, where its first session, now 0, has another number.
abbrev pub numbered_from : ℕ → Trace → Trace
numbered_from first trace = record trace { first = first; events = map (raised first) trace.events }

-- The client's peer is a legal server of the scenario: it keeps a legal journal, that fits traces of which the client's is one but for its
-- session numbers; and what the client's ends received is, session by session, a front part of the frames of the journal's full replies. The
-- journal has the latest entry first.
pub record IsLegalServer (scenario : Scenario) (trace : Trace) (passages : List Passage) : Type 0 where
  pub journal : List Entry
  pub traces : List Trace
  pub legal : Legal (rules_of scenario) journal
  pub fits : Fits scenario.world.shape journal traces
  -- no other request can come as a message
  pub requests : All (λ (e : Entry). RequestFits e.request) journal
  -- a position is left
  pub room : length (accepted journal) < most_positions
  pub first : ℕ
  pub place : ℕ
  pub member : slice_get traces place ≡ Some (numbered_from first trace)
  pub received : (s : ℕ) (p : Passage) → slice_get passages s ≡ Some p → IsPrefix p.received (reply_frames (replies_in (accepted journal) journal (s + first)))
