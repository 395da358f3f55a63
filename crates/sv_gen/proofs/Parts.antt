-- Facts on the lists that the definitions make.
use Rattle.std.proofs.Common.{◌≡◌, ◌≢◌, ℕ, zero, suc, ◌+◌, ◌*◌, ◌<◌, ◌≤◌, List, [], ◌∷◌, ◌++◌, length, map, refl, sym, ap, ◌∙◌, subst, arith, append_assoc, length-append}
use Rattle.std.proofs.lemmas.List.{append-nil, map-append}
use Rattle.std.proofs.lemmas.Grind.{flat_map-append}
use Rattle.std.specs.List.{AllByRecursion, flat_map}
use Rattle.sv_world.specs.Control.{below}

module _ {A : Type 0} (P : A → Type 0) where
  pub all_append : (xs ys : List A) → AllByRecursion P xs → AllByRecursion P ys → AllByRecursion P (xs ++ ys)
  all_append [] ys all more = more
  all_append (x ∷ xs) ys all more = (all.0, all_append xs ys all.1 more)

  pub all_below : (f : ℕ → A) (n : ℕ) → ((k : ℕ) → k < n → P (f k)) → AllByRecursion P (map f (below n))
  all_below f zero each = tt
  all_below f (suc n) each =
      subst (AllByRecursion P) (sym (map-append f (below n) (n ∷ [])))
      (all_append (map f (below n)) (f n ∷ []) (all_below f n (λ k l. each k (omega (arith, l)))) (each n (omega arith), tt))

  pub all_flat : (f : ℕ → List A) (n : ℕ) → ((k : ℕ) → k < n → AllByRecursion P (f k)) → AllByRecursion P (flat_map f (below n))
  all_flat f zero each = tt
  all_flat f (suc n) each =
      subst (AllByRecursion P) (sym (flat_map-append f (below n) (n ∷ [])))
      (all_append (flat_map f (below n)) (f n ++ []) (all_flat f n (λ k l. each k (omega (arith, l)))) (subst (AllByRecursion P) (sym (append-nil (f n))) (each n (omega arith))))

module _ {A : Type 0} (P Q : A → Type 0) (leads : (x : A) → P x → Q x) where
  pub all_lead : (xs : List A) → AllByRecursion P xs → AllByRecursion Q xs
  all_lead [] all = tt
  all_lead (x ∷ xs) all = (leads x all.0, all_lead xs all.1)

pub length-below : (n : ℕ) → length (below n) ≡ n
length-below zero = refl
length-below (suc n) = length-append (below n) (n ∷ []) ∙ omega (arith, length-below n)

-- lists of 17 elements, one after the other
pub length-flat : {A : Type 0} (f : ℕ → List A) (n : ℕ) → ((k : ℕ) → length (f k) ≡ 17) → length (flat_map f (below n)) ≡ 17 * n
length-flat f zero each = refl
length-flat f (suc n) each =
    ap length (flat_map-append f (below n) (n ∷ [])) ∙ length-append (flat_map f (below n)) (f n ++ []) ∙ omega (arith, length-flat f n each, ap length (append-nil (f n)), each n)
