-- That each pass was taken in, for those who close a lock.
use Rattle.std.proofs.Common.{◌≡◌, ℕ, zero, suc, ◌<◌, ◌≤◌, ◌+◌, List, [], ◌∷◌, ◌++◌, map, Contains, length, slice_index_or, sym, refl, ap, ◌∙◌, subst, arith}
use mathlib.Core.List.{map-append}
use mathlib.Core.Logic.{dite}
use native.Mathlib.Decide.{ℕ_discrete}
use Rattle.std.proofs.lemmas.List.Elements.{Contains-push, Contains-append_left}

-- where the passes were taken in in the order of their numbers
pub ended_in_order : (made : ℕ) (numbers : List ℕ) → length numbers ≡ made → ((n : ℕ) → n < made → slice_index_or numbers n n ≡ n) → (n : ℕ) → n < made → Contains numbers n
ended_in_order made numbers all each n lt = (n, omega arith, each n lt)

pub one_ended : (numbers : List ℕ) → numbers ≡ 0 ∷ [] → (n : ℕ) → n < 1 → Contains numbers n
one_ended numbers are n lt = subst (λ l. Contains l n) (sym are) (here n lt)
  where
    here : (n : ℕ) → n < 1 → Contains (0 ∷ []) n
    here zero lt = (0, lt, refl)
    here (suc n) lt = absurd (omega arith)

pub two_ended : (numbers : List ℕ) → numbers ≡ 0 ∷ 1 ∷ [] → (n : ℕ) → n < 2 → Contains numbers n
two_ended numbers are n lt = subst (λ l. Contains l n) (sym are) (here n lt)
  where
    here : (n : ℕ) → n < 2 → Contains (0 ∷ 1 ∷ []) n
    here zero lt = (0, omega arith, refl)
    here (suc zero) lt = (1, omega arith, refl)
    here (suc (suc n)) lt = absurd (omega arith)

-- the one that is taken in last is the first of those that were made
pub one_more_ended : {A : Type 0} (first made made' : ℕ) (ended ended' : List (ℕ × A)) (x : A) → ended' ≡ ended ++ (first, x) ∷ [] → made' ≡ made
    → ((n : ℕ) → first + 1 ≤ n → n < made → Contains (map (λ (y : ℕ × A). y.0) ended) n) → (n : ℕ) → first ≤ n → n < made' → Contains (map (λ (y : ℕ × A). y.0) ended') n
one_more_ended {A} first made made' ended ended' x is same rest n le lt =
    let numbers : List ℕ = map (λ (y : ℕ × A). y.0) ended in
    subst (λ l. Contains l n) (sym (ap (map (λ (y : ℕ × A). y.0)) is ∙ map-append (λ (y : ℕ × A). y.0) ended ((first, x) ∷ [])))
    (dite (ℕ_discrete n first)
    (λ e. subst (Contains (numbers ++ first ∷ [])) (sym e) (Contains-push numbers first))
    (λ ne. Contains-append_left numbers (first ∷ []) n (rest n (omega arith) (omega arith))))
