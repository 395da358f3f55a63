-- The results that a client reports of a relay's items are those of the serial execution.
use Rattle.std.proofs.Common.{◌≡◌, ℕ, zero, suc, ◌<◌, true, List, [], ◌∷◌, ◌++◌, map, length, ℤ, ap, ◌∙◌, arith}
use Rattle.std.specs.Prelude.{unwrap_or}
use Rattle.std.specs.List.{AllByRecursion}
use Rattle.sv_world.specs.Control.{action_at, last_writer}
use Rattle.sv_world.specs.Faults.{is_ascending}
use Rattle.sv_world.specs.Sets.{read_set}
use Rattle.sv_world.specs.declared.action.Action.{Action}
use Rattle.sv_world.proofs.Ascending.{ascending-tail}
use Rattle.sv_eval.specs.Evaluation.{effect_of}
use Rattle.sv_versions.specs.Held.{Held, read_below}
use Rattle.sv_journal.specs.History.{Authored, item_at}
use Rattle.sv_client.specs.Traces.{item_result, item_held, results_of}
use Rattle.law_system.specs.Serial.{IsSerial, AreSerial, is_covered}
use Rattle.law_system.specs.Journals.{serial_result, IsSerialResult}
use Rattle.law_system.proofs.Every.{each-append, each-member}
use Rattle.law_system.proofs.Items.{actions_in, item-action, IsPlain, AreWaiting, reads-serial, first-covered, rest-waiting, item-serial}

module _ (objects : ℕ) (opening : List (List ℤ)) (count : length opening ≡ objects) (A : List Authored) (plain : (k : ℕ) → IsPlain objects (action_at (actions_in A) k)) where
  result-at : (held : List Held) (k : ℕ) → AreSerial opening (actions_in A) held →
      AllByRecursion (λ x. is_covered x (last_writer (actions_in A) x k) k held ≡ true) (read_set (action_at (actions_in A) k)) → 0 < k →
      (effect_of (action_at (actions_in A) k) (map (λ x. unwrap_or (read_below held x k) []) (read_set (action_at (actions_in A) k)))).writes ≡ serial_result opening (actions_in A) k
  result-at held zero serial covered low = absurd (omega arith)
  result-at held (suc n) serial covered low =
      ap (λ (vs : List (List ℤ)). (effect_of (action_at (actions_in A) (suc n)) vs).writes)
      (reads-serial objects opening count A plain held n (read_set (action_at (actions_in A) (suc n))) serial covered)

  item-reported : (held : List Held) (k : ℕ) → AreSerial opening (actions_in A) held →
      AllByRecursion (λ x. is_covered x (last_writer (actions_in A) x k) k held ≡ true) (read_set (action_at (actions_in A) k)) →
      IsSerialResult opening (actions_in A) (record { pos = k; values = item_result held (item_at A k) })
  item-reported held k serial covered low =
      ap (λ (a : Action). (effect_of a (map (λ x. unwrap_or (read_below held x k) []) (read_set a))).writes) (item-action A k) ∙ result-at held k serial covered low

  pub items-reported : (ks : List ℕ) (held : List Held) → is_ascending ks ≡ true → AreSerial opening (actions_in A) held → AreWaiting (actions_in A) held ks →
      AllByRecursion (IsSerialResult opening (actions_in A)) (results_of held (map (item_at A) ks))
  items-reported [] held asc serial waiting = tt
  items-reported (k ∷ ks) held asc serial waiting =
      let acts = actions_in A in
      let covered = each-member (λ x. is_covered x (last_writer acts x k) k held ≡ true) (read_set (action_at acts k)) (first-covered objects opening count A plain held k ks asc waiting) in
      let here = item-serial objects opening count A plain held k serial covered in
      let more = item_held held (item_at A k) in (
        item-reported held k serial covered,
        items-reported ks (held ++ more) (ascending-tail k ks asc)
            (each-append (IsSerial opening acts) held more serial here.1) (rest-waiting objects opening count A plain held k ks asc waiting),
      )
