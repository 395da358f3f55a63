-- The head of a reply is of objects of the world, each with a number for each attribute.
use Rattle.std.proofs.Common.{◌≡◌, ℕ, ◌<◌, true, false, not, ◌||◌, ◌==◌, nat_le, List, [], ◌∷◌, length, ℤ, refl, ap, ◌∙◌, arith, eq-eqb}
use Rattle.std.specs.Prelude.{All, slice_index_or}
use Rattle.std.proofs.lemmas.Bool.{or_from, not_from_true, lt-leb}
use Rattle.sv_world.specs.Control.{is_in}
use Rattle.sv_world.proofs.Members.{is_in-head, is_in-tail}
use Rattle.sv_eval.specs.Serial.{serial_world}
use Rattle.sv_eval.proofs.Serials.{serial_length}
use Rattle.sv_journal.specs.declared.entry.Entry.{Entry}
use Rattle.sv_journal.specs.History.{actions_of, commit_of, committed_of}
use Rattle.sv_journal.specs.Answer.{Rules, committed_held}
use Rattle.sv_journal.specs.Serving.{Keeping, LegalFor, IsKeeping}
use Rattle.sv_client.specs.Taking.{is_bad_head}
use Rattle.law_system.specs.Journals.{ResultsAreSerial}
use Rattle.law_system.proofs.Histories.{IsEarlier}
use Rattle.law_system.proofs.Induction.{committed-serial}

module _ (K : Keeping) (keeps : IsKeeping K) (r : Rules) (H : List Entry) (count : length r.world.values ≡ r.world.shape.objects) (legal : LegalFor K r H)
    (serial : ResultsAreSerial r.world.values (actions_of H) (K.kept H)) (shaped : (p : ℕ) → All (λ (v : List ℤ). length v ≡ r.world.shape.attrs) (serial_world r.world.values (actions_of H) p)) where
  committed-long : (h : List Entry) → IsEarlier h H → (x : ℕ) → x < r.world.shape.objects → length (slice_index_or (committed_of r.world.values (K.kept h)) x []) ≡ r.world.shape.attrs
  committed-long h b x l =
      let world = serial_world r.world.values (actions_of H) (commit_of (K.kept h)) in
      let size : length world ≡ r.world.shape.objects = serial_length r.world.values (actions_of H) (commit_of (K.kept h)) ∙ count in
      ap (λ (w : List (List ℤ)). length (slice_index_or w x [])) (committed-serial K keeps r H count legal serial h b) ∙ shaped (commit_of (K.kept h)) x [] (omega arith)

  -- A head of objects of the world is not bad.
  pub good-head : (h : List Entry) → IsEarlier h H → (xs : List ℕ) → ((x : ℕ) → is_in x xs ≡ true → x < r.world.shape.objects) → is_bad_head r.world.shape (committed_held r (K.kept h) xs) ≡ false
  good-head h b [] f = refl
  good-head h b (x ∷ xs) f =
      let value = slice_index_or (committed_of r.world.values (K.kept h)) x [] in
      let low = f x (is_in-head x xs) in
      or_from (nat_le r.world.shape.objects x || not (length value == r.world.shape.attrs)) (is_bad_head r.world.shape (committed_held r (K.kept h) xs))
      (or_from (nat_le r.world.shape.objects x) (not (length value == r.world.shape.attrs)) (lt-leb r.world.shape.objects x low)
      (not_from_true (length value == r.world.shape.attrs) (eq-eqb (length value) r.world.shape.attrs (committed-long h b x low))))
      (good-head h b xs (λ y m. f y (is_in-tail y x xs m)))
