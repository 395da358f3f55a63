-- The laws of whole runs that the laws of other crates rest on.
-- A history is the list of a journal's entries with the latest first.
use Rattle.std.specs.Prelude.{◌≡◌, ◌<◌, ◌≤◌, ℕ, ℤ, List, All, length, reverse, slice_get, Option, None, Some}
use Rattle.sv_world.specs.declared.world.World.{World}
use Rattle.sv_world.specs.Limits.{most_bound, most_positions, most_requests}
use Rattle.sv_wire.specs.declared.message.Reply.{Reply}
use Rattle.sv_journal.specs.declared.entry.Entry.{Entry}
use Rattle.sv_journal.specs.History.{accepted}
use Rattle.sv_journal.specs.Answer.{Rules, scenario_rules, Legal}
use Rattle.sv_client.specs.declared.trace.Trace.{Trace}
use Rattle.sv_client.specs.Traces.{current_session, requests_of, got}
use Rattle.sv_client.specs.Taking.{first_fault_of_reply}
use Rattle.sv_client.specs.Proper.{Proper, identity_of}
use Rattle.law_system.specs.Fits.{replies_in, Fits}
use Rattle.law_system.specs.Serial.{ValuesAreSerial}
use Rattle.law_system.specs.Within.{KeepsLimits}

-- Where a journal is legal and clients' traces fit it, each value that a client holds, and each that the journal prints at a position, is that of the
-- serial execution.
abbrev pub ReplicasAreSerial : Type 0
ReplicasAreSerial = (r : Rules) (h : List Entry) (Ls : List Trace) → length r.world.values ≡ r.world.shape.objects → Legal r h →
    Fits r.world.shape h Ls → ValuesAreSerial r.world.values h Ls

-- The next reply of the session that an honest client began last has no fault, where the client keeps the limits that the rules have for it, and
-- a position is left.
abbrev pub NeverRefused : Type 0
NeverRefused = (r : Rules) (h : List Entry) (Ls : List Trace) (i : ℕ) (L : Trace) (s : ℕ) (reply : Reply) →
    length r.world.values ≡ r.world.shape.objects → All (λ (v : List ℤ). length v ≡ r.world.shape.attrs) r.world.values → r.bound ≤ most_bound →
    r.positions ≤ most_positions → length (accepted h) < r.positions → Legal r h → Fits r.world.shape h Ls → slice_get Ls i ≡ Some L →
    current_session (reverse L.events) ≡ Some s →
    KeepsLimits r h L s → slice_get (replies_in (accepted h) h s) (length (got (reverse L.events) s)) ≡ Some reply →
    first_fault_of_reply (identity_of r.world.shape L) (reverse L.events) reply ≡ None

-- So it is of a client of a scenario, which asks at most so many requests in the session.
abbrev pub NeverRefusedInScenarios : Type 0
NeverRefusedInScenarios = (world : World) (bound : ℕ) (reach : Option ℕ) (sessions : ℕ) (h : List Entry) (Ls : List Trace) (i : ℕ) (L : Trace) (s : ℕ) (reply : Reply) →
    length world.values ≡ world.shape.objects → All (λ (v : List ℤ). length v ≡ world.shape.attrs) world.values → bound ≤ most_bound →
    length (accepted h) < most_positions → Legal (scenario_rules world bound reach sessions) h → Fits world.shape h Ls → slice_get Ls i ≡ Some L →
    Proper world.shape L → current_session (reverse L.events) ≡ Some s → length (requests_of L s) ≤ most_requests →
    slice_get (replies_in (accepted h) h s) (length (got (reverse L.events) s)) ≡ Some reply →
    first_fault_of_reply (identity_of world.shape L) (reverse L.events) reply ≡ None
