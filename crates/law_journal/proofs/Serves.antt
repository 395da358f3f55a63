-- Where the results that a server goes by are those of the serial execution, it serves serial values.
use Rattle.std.proofs.Common.{◌≡◌, ℕ, ◌<◌, ◌≤◌, ℤ, List, length, reverse, All, Some, None}
use Rattle.std.specs.Prelude.{slice_get}
use Rattle.sv_world.specs.Limits.{most_bound, most_positions}
use Rattle.sv_eval.specs.Serial.{serial_world}
use Rattle.sv_wire.specs.declared.message.Reply.{Reply}
use Rattle.sv_journal.specs.declared.entry.Entry.{Entry}
use Rattle.sv_journal.specs.History.{accepted, actions_of, commit_of, committed_of}
use Rattle.sv_journal.specs.Answer.{Rules}
use Rattle.sv_journal.specs.Serving.{Keeping, IsKeeping, LegalFor}
use Rattle.sv_client.specs.declared.trace.Trace.{Trace}
use Rattle.sv_client.specs.Traces.{current_session, held_of, got}
use Rattle.sv_client.specs.Taking.{first_fault_of_reply}
use Rattle.sv_client.specs.Proper.{identity_of}
use Rattle.law_system.specs.Cuts.{AreCuts}
use Rattle.law_system.specs.Fits.{replies_in}
use Rattle.law_system.specs.Served.{OwnsSessions, FitsButValues}
use Rattle.law_system.specs.Journals.{ResultsAreSerial}
use Rattle.law_system.specs.Serial.{AreSerial, AreSufficient, reply_held}
use Rattle.law_system.specs.Within.{KeepsLimits}
use Rattle.law_journal.specs.Stewarded.{ServesSerialValues}

-- The laws of law_system on which this rests.
pub record Laws : Type 0 where
  pub world : (k : Keeping) (r : Rules) (h : List Entry) → IsKeeping k → length r.world.values ≡ r.world.shape.objects → LegalFor k r h →
      ResultsAreSerial r.world.values (actions_of h) (k.kept h) →
      committed_of r.world.values (k.kept h) ≡ serial_world r.world.values (actions_of h) (commit_of (k.kept h))
  pub heads : (k : Keeping) (r : Rules) (h : List Entry) → IsKeeping k → length r.world.values ≡ r.world.shape.objects → LegalFor k r h →
      ResultsAreSerial r.world.values (actions_of h) (k.kept h) → All (λ (e : Entry). AreSerial r.world.values (actions_of h) (reply_held e.reply)) h
  pub held : (k : Keeping) (r : Rules) (h : List Entry) (L : Trace) → IsKeeping k → length r.world.values ≡ r.world.shape.objects → LegalFor k r h →
      ResultsAreSerial r.world.values (actions_of h) (k.kept h) → FitsButValues r.world.shape h L →
      AreSerial r.world.values (actions_of h) (held_of (reverse L.events))
  pub relays : (k : Keeping) (r : Rules) (h : List Entry) (L : Trace) → IsKeeping k → length r.world.values ≡ r.world.shape.objects → LegalFor k r h →
      ResultsAreSerial r.world.values (actions_of h) (k.kept h) → FitsButValues r.world.shape h L → AreSufficient (actions_of h) (reverse L.events)
  pub seen : (k : Keeping) (r : Rules) (h : List Entry) (L : Trace) → IsKeeping k → length r.world.values ≡ r.world.shape.objects → LegalFor k r h →
      ResultsAreSerial r.world.values (actions_of h) (k.kept h) → FitsButValues r.world.shape h L →
      AreCuts r.world.values (actions_of h) (identity_of r.world.shape L) (reverse L.events)
  pub faults : (k : Keeping) (r : Rules) (h : List Entry) (L : Trace) (s : ℕ) (reply : Reply) → IsKeeping k →
      length r.world.values ≡ r.world.shape.objects → All (λ (v : List ℤ). length v ≡ r.world.shape.attrs) r.world.values → r.bound ≤ most_bound →
      r.positions ≤ most_positions → length (accepted h) < r.positions → LegalFor k r h → ResultsAreSerial r.world.values (actions_of h) (k.kept h) →
      FitsButValues r.world.shape h L → OwnsSessions h L → current_session (reverse L.events) ≡ Some s → KeepsLimits r h L s →
      slice_get (replies_in (accepted h) h s) (length (got (reverse L.events) s)) ≡ Some reply →
      first_fault_of_reply (identity_of r.world.shape L) (reverse L.events) reply ≡ None

pub serves : Laws → (k : Keeping) (r : Rules) (h : List Entry) → IsKeeping k → length r.world.values ≡ r.world.shape.objects → LegalFor k r h →
    ResultsAreSerial r.world.values (actions_of h) (k.kept h) → ServesSerialValues k r h
serves laws k r h keeps count legal serial = record {
  results = serial;
  world = laws.world k r h keeps count legal serial;
  sent = laws.heads k r h keeps count legal serial;
  held = λ L fits. laws.held k r h L keeps count legal serial fits;
  relays = λ L fits. laws.relays k r h L keeps count legal serial fits;
  seen = λ L fits. laws.seen k r h L keeps count legal serial fits;
  faults = λ L fits limits end left owns s reply current keeps_limits next.
      laws.faults k r h L s reply keeps count limits.attrs limits.bound end left legal serial fits owns current keeps_limits next;
}
