-- Lists whose elements are related to those of an earlier list, place by place.
use Rattle.std.proofs.Common.{◌≡◌, ◌≢◌, ◌⊎◌, inl, inr, ℕ, zero, suc, ◌<◌, true, false, eqb, List, [], ◌∷◌, length, slice_get, slice_set, Some, refl, sym, ap, subst, ◌∙◌, arith}
use Rattle.std.specs.List.{AllByRecursion}
use Rattle.std.proofs.lemmas.Bool.Decides.{eqb_tells}
use Rattle.std.proofs.lemmas.List.{length-set}
use Rattle.std.proofs.lemmas.Option.{same_Some, slice_get_within}
use Rattle.sv_player.specs.Ends.{AreKept}

set_there : {X : Type 0} (xs : List X) (k : ℕ) (v : X) → k < length xs → slice_get (slice_set xs k v) k ≡ Some v
set_there [] k v l = absurd (omega arith)
set_there (x ∷ xs) zero v l = refl
set_there (x ∷ xs) (suc k) v l = set_there xs k v (omega arith)

set_elsewhere : {X : Type 0} (xs : List X) (k n : ℕ) (v : X) → n ≢ k → slice_get (slice_set xs k v) n ≡ slice_get xs n
set_elsewhere [] k n v ne = refl
set_elsewhere (x ∷ xs) zero zero v ne = absurd (ne refl)
set_elsewhere (x ∷ xs) zero (suc n) v ne = refl
set_elsewhere (x ∷ xs) (suc k) zero v ne = refl
set_elsewhere (x ∷ xs) (suc k) (suc n) v ne = set_elsewhere xs k n v (λ e. ne (ap suc e))

-- There is one at each place below the length.
pub there : {X : Type 0} (xs : List X) (k : ℕ) → k < length xs → (x : X) × (slice_get xs k ≡ Some x)
there [] k l = absurd (omega arith)
there (x ∷ xs) zero l = (x, refl)
there (x ∷ xs) (suc k) l = there xs k (omega arith)

pub all_there : {X : Type 0} (P : X → Type 0) (xs : List X) (k : ℕ) (x : X) → AllByRecursion P xs → slice_get xs k ≡ Some x → P x
all_there P [] k x all e = cc
all_there P (y ∷ ys) zero x all e = subst P (same_Some y x e) all.0
all_there P (y ∷ ys) (suc k) x all e = all_there P ys k x all.1 e

module _ {E : Type 0} (R : ℕ → E → E → Type 0) (old new : List E) (kept : AreKept R old new) where
  pub after : (n : ℕ) (a : E) → slice_get old n ≡ Some a → (b : E) × (slice_get new n ≡ Some b)
  after n a was = there new n (omega (arith, slice_get_within old n a was, kept.count))

  pub before : (n : ℕ) (b : E) → slice_get new n ≡ Some b → (a : E) × (slice_get old n ≡ Some a)
  before n b is = there old n (omega (arith, slice_get_within new n b is, kept.count))

-- One element is replaced.
module _ {E : Type 0} (R S : ℕ → E → E → Type 0) (old new : List E) (k : ℕ) (x v : E) (kept : AreKept R old new) (at_k : slice_get new k ≡ Some x)
    (others : (n : ℕ) (a b : E) → n ≢ k → R n a b → S n a b) (this : (a : E) → slice_get old k ≡ Some a → R k a x → S k a v) where
  at_place : (a b : E) → slice_get old k ≡ Some a → slice_get (slice_set new k v) k ≡ Some b → S k a b
  at_place a b was is =
      subst (S k a) (same_Some v b (sym (set_there new k v (slice_get_within new k x at_k)) ∙ is)) (this a was (kept.each k a x was at_k))

  at_each : (n : ℕ) (a b : E) → ((eqb n k ≡ true) × (n ≡ k)) ⊎ ((eqb n k ≡ false) × (n ≢ k)) → slice_get old n ≡ Some a → slice_get (slice_set new k v) n ≡ Some b → S n a b
  at_each n a b (inl y) was is =
      subst (λ (m : ℕ). S m a b) (sym y.1)
      (at_place a b (subst (λ (m : ℕ). slice_get old m ≡ Some a) y.1 was) (subst (λ (m : ℕ). slice_get (slice_set new k v) m ≡ Some b) y.1 is))
  at_each n a b (inr m) was is = others n a b m.1 (kept.each n a b was (sym (set_elsewhere new k n v m.1) ∙ is))

  pub kept_set : AreKept S old (slice_set new k v)
  kept_set = record { count = length-set new k v ∙ kept.count; each = λ n a b. at_each n a b (eqb_tells n k) }

  pub set_is : slice_get (slice_set new k v) k ≡ Some v
  set_is = set_there new k v (slice_get_within new k x at_k)
