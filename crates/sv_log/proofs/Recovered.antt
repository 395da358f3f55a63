-- A log that a crash left, opened.
use Rattle.std.proofs.Common.{◌≡◌, ℕ, List, refl, sym, ◌∙◌, ap, subst}
use Rattle.sv_log.specs.Pictures.{Picture, Disk, seen}
use Rattle.sv_log.specs.Crashes.{LeavesOnly}
use Rattle.sv_log.specs.Texts.{IsFront}
use Rattle.sv_log.specs.Rests.{IsAtRest}
use Rattle.sv_log.specs.Chains.{StateFile, HasLog, KeepsLog}
use Rattle.sv_log.specs.OpenLogs.{IsOpenLog, newest, log_text, log_synced}
use Rattle.sv_log.specs.Readings.{read_state, Reads}
use Rattle.sv_log.specs.Refusals.{IsWhy, HasNoLog}
use Rattle.sv_log.specs.Recoveries.{Recovers, HasFailed}
use Rattle.sv_log.specs.declared.reading.Reading.{Reading}
use Rattle.sv_log.specs.declared.reading.LogRefusal.{LogRefusal}
use Rattle.sv_log.specs.declared.log.Log.{Log}
use Rattle.sv_log.proofs.Moments.{weaker_only}
use Rattle.sv_log.proofs.Opened.{rest_only}
use Rattle.sv_log.proofs.Refused.{reads_kept, no_log_keeps}
use Rattle.sv_log.proofs.Walked.{map_why}

-- what holds the text that was read keeps what was kept
kept_again : (world : List ℕ) (p : Picture) (r : Reading) (state : StateFile) (low high : List ℕ) → Reads world p r → KeepsLog world state low high p
    → (c : Picture) → HasLog world (read_state r) r.text.items c → KeepsLog world state low high c
kept_again world p r state low high reads keeps c holds =
    let is = reads_kept world p r state low high reads keeps in
    (r.text.items, subst (λ (s : StateFile). HasLog world s r.text.items c) is.0 holds, is.1, is.2)

module _ (world : List ℕ) (left : Disk) (r : Reading) (state : StateFile) (low high : List ℕ) (reads : Reads world (seen left) r) (keeps : KeepsLog world state low high (seen left)) where
  pub opening_keeps : (now : Disk) → LeavesOnly left now (HasLog world (read_state r) r.text.items) → LeavesOnly left now (KeepsLog world state low high)
  opening_keeps now only = weaker_only left now (HasLog world (read_state r) r.text.items) (KeepsLog world state low high) (kept_again world (seen left) r state low high reads keeps) only

  pub recovers : {F : Type 0} (disk : F → Disk) (log : Log F) → IsOpenLog disk log → newest disk log ≡ read_state r → log_text disk log ≡ r.text.items → log_synced disk log ≡ r.text.items
      → LeavesOnly left (disk log.segment.folder) (HasLog world (read_state r) r.text.items) → Recovers disk left log world state low high
  recovers disk log opened same_state text synced only =
      let is = reads_kept world (seen left) r state low high reads keeps in record {
        opened = opened;
        after = same_state ∙ is.0;
        begins = subst (λ (t : List ℕ). IsFront low t) (sym text) is.1;
        ends = subst (λ (t : List ℕ). IsFront t high) (sym text) is.2;
        synced = synced ∙ sym text;
        crash = opening_keeps (disk log.segment.folder) only;
      }

  pub opening_failed : (now : Disk) (e : LogRefusal) → IsWhy ⊥ e.cause → LeavesOnly left now (HasLog world (read_state r) r.text.items) → HasFailed left now e world state low high
  opening_failed now e why only = record { why = why; crash = opening_keeps now only }

-- a folder at rest keeps its log
pub rest_keeps : (left : Disk) (world : List ℕ) (state : StateFile) (low high : List ℕ) → IsAtRest left → KeepsLog world state low high (seen left) → LeavesOnly left left (KeepsLog world state low high)
rest_keeps left world state low high rest keeps =
    weaker_only left left (HasLog world state keeps.0) (KeepsLog world state low high) (λ c holds. (keeps.0, holds, keeps.2, keeps.3)) (rest_only left world state keeps.0 rest keeps.1)

pub reading_failed : (left now : Disk) (e : LogRefusal) (world : List ℕ) (state : StateFile) (low high : List ℕ) → now ≡ left → IsAtRest left → KeepsLog world state low high (seen left)
    → IsWhy (HasNoLog world (seen left)) e.cause → HasFailed left now e world state low high
reading_failed left now e world state low high same rest keeps why = record {
  why = map_why e.cause (λ no. no_log_keeps world (seen left) no state low high keeps) why;
  crash = subst (λ (d : Disk). LeavesOnly left d (KeepsLog world state low high)) (sym same) (rest_keeps left world state low high rest keeps);
}
