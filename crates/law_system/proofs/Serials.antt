-- Serial worlds: each position's actions change only what they write, so a value stays from its last writer on.
use Rattle.std.proofs.Common.{◌≡◌, ℕ, zero, suc, ◌<◌, ◌≤◌, true, false, inl, inr, List, [], ◌∷◌, length, ℤ, slice_get, slice_index_or, slice_set, refl, sym, ap, ◌∙◌, subst, arith}
use Rattle.std.specs.List.{AllByRecursion}
use Rattle.std.proofs.lemmas.Bool.{cases_eq, false_from_ne_true}
use Rattle.std.proofs.lemmas.List.{get_or-set_same, length-set}
use Rattle.sv_world.specs.Control.{is_in, blank, action_at, last_writer}
use Rattle.sv_world.specs.Faults.{is_ascending}
use Rattle.sv_world.specs.Sets.{read_set, write_set}
use Rattle.sv_world.specs.declared.action.Action.{Action}
use Rattle.sv_world.proofs.Ascending.{ascending-tail, ascending-head}
use Rattle.sv_world.proofs.Writers.{last_writer-unwritten}
use Rattle.sv_eval.specs.Evaluation.{effect_of}
use Rattle.sv_eval.specs.Serial.{values_at, put_all, world_after, world_after_some, serial_world}
use Rattle.sv_eval.proofs.Serials.{put_all_elsewhere}
use Rattle.sv_client.specs.Traces.{held_at}
use Rattle.law_system.specs.Serial.{AreSerial}

pub after_at : (world : List (List ℤ)) (A : List Action) (p : ℕ) → world_after_some world (slice_get A p) ≡ world_after world (slice_index_or A p blank)
after_at world [] p = refl
after_at world (a ∷ A) zero = refl
after_at world (a ∷ A) (suc p) = after_at world A p

module _ (opening : List (List ℤ)) (A : List Action) where
  -- Each position's world is the one before it, after the action at the position.
  pub serial-step : (p : ℕ) → serial_world opening A (suc p) ≡ world_after (serial_world opening A p) (action_at A (suc p))
  serial-step p = after_at (serial_world opening A p) A p

  serial-unwritten : (p x : ℕ) → is_in x (write_set (action_at A (suc p))) ≡ false →
      slice_index_or (serial_world opening A (suc p)) x [] ≡ slice_index_or (serial_world opening A p) x []
  serial-unwritten p x e =
      let a = action_at A (suc p) in
      let world = serial_world opening A p in
      ap (λ (w : List (List ℤ)). slice_index_or w x []) (serial-step p)
      ∙ put_all_elsewhere world (write_set a) (effect_of a (values_at world (read_set a))).writes x e

  serial-stays : (x low p : ℕ) → low ≤ p → ((k : ℕ) → low < k → k ≤ p → is_in x (write_set (action_at A k)) ≡ false) →
      slice_index_or (serial_world opening A p) x [] ≡ slice_index_or (serial_world opening A low) x []
  serial-stays x low zero l none = ap (λ (n : ℕ). slice_index_or (serial_world opening A n) x []) (let e : zero ≡ low = omega arith in e)
  serial-stays x low (suc p) l none =
      let less = serial-stays x low p in
      elim (cases_eq low (suc p)) [
        | inl e ↦ ap (λ (n : ℕ). slice_index_or (serial_world opening A n) x []) (sym e)
        | inr e ↦ serial-unwritten p x (none (suc p) (omega arith) (omega arith)) ∙ less (omega arith) (λ k a b. none k a (omega arith))
      ]

  -- From its last writer below a position on, a value is the one that the position's action finds.
  pub serial-since : (x n q : ℕ) → last_writer A x (suc n) ≤ q → q ≤ n →
      slice_index_or (serial_world opening A n) x [] ≡ slice_index_or (serial_world opening A q) x []
  serial-since x n q l u = serial-stays x q n u (λ k a b. last_writer-unwritten A x (suc n) k (omega arith) (omega arith))

  -- The values that are put on objects at a position are those of the serial world there.
  pub put-serial : (pos : ℕ) (world : List (List ℤ)) (xs : List ℕ) (vs : List (List ℤ)) → serial_world opening A pos ≡ put_all world xs vs →
      is_ascending xs ≡ true → AllByRecursion (λ x. x < length world) xs → AreSerial opening A (held_at pos xs vs)
  put-serial pos world [] vs e a b = tt
  put-serial pos world (x ∷ xs) [] e a b = tt
  put-serial pos world (x ∷ xs) (v ∷ vs) e a b =
      let rest : AreSerial opening A (held_at pos xs vs) =
      put-serial pos (slice_set world x v) xs vs e (ascending-tail x xs a)
      (subst (λ (n : ℕ). AllByRecursion (λ (y : ℕ). y < n) xs) (sym (length-set world x v)) b.1) in
      let none : is_in x xs ≡ false = false_from_ne_true (is_in x xs) (λ m. let l : x < x = ascending-head x xs a x m in absurd (omega arith)) in (
        sym (ap (λ (w : List (List ℤ)). slice_index_or w x []) e
            ∙ put_all_elsewhere (slice_set world x v) xs vs x none
            ∙ get_or-set_same world x v [] b.0),
        rest,
      )
