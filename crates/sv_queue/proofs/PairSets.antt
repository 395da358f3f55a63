-- What is in a set of pairs of an object and a slot.
use Rattle.std.proofs.Common.{◌≡◌, ℕ, zero, suc, ◌<◌, ◌≤◌, Bool, true, false, ◌&&◌, ◌||◌, nat_eq, List, [], ◌∷◌, ◌++◌, map, ◌⊎◌, inl, inr, refl, ◌∙◌, arith}
use Rattle.std.proofs.lemmas.Bool.{cases_eq, eq-eqb, ne_eqb}
use Rattle.sv_world.specs.Control.{is_in}
use Rattle.sv_queue.specs.Slots.{slots_where}
use Rattle.sv_queue.specs.Pairs.{is_pair, pairs_where}
use Rattle.sv_queue.proofs.SlotSets.{in_slots, out_of_slots, slots_where-ext, slots_where-none}

or-false : (b : Bool) → (b || false) ≡ b
or-false true = refl
or-false false = refl

is_pair-append : (x s : ℕ) (ps qs : List (ℕ × ℕ)) → is_pair x s (ps ++ qs) ≡ (is_pair x s ps || is_pair x s qs)
is_pair-append x s [] qs = refl
is_pair-append x s (p ∷ ps) qs = go (nat_eq x p.0 && nat_eq s p.1) (is_pair-append x s ps qs)
  where
    go : (b : Bool) → is_pair x s (ps ++ qs) ≡ (is_pair x s ps || is_pair x s qs) → (b || is_pair x s (ps ++ qs)) ≡ ((b || is_pair x s ps) || is_pair x s qs)
    go true h = refl
    go false h = h

is_pair-row : (x s n : ℕ) (ss : List ℕ) → is_pair x s (map (λ t. (n, t)) ss) ≡ (nat_eq x n && is_in s ss)
is_pair-row x s n [] = go (nat_eq x n)
  where
    go : (b : Bool) → false ≡ (b && false)
    go true = refl
    go false = refl
is_pair-row x s n (t ∷ ts) = go (nat_eq x n) (nat_eq s t) (is_pair-row x s n ts)
  where
    go : (b e : Bool) → is_pair x s (map (λ u. (n, u)) ts) ≡ (b && is_in s ts) → ((b && e) || is_pair x s (map (λ u. (n, u)) ts)) ≡ (b && (e || is_in s ts))
    go true true h = refl
    go true false h = h
    go false e h = h

is_pair-above : (p : ℕ → ℕ → Bool) (x s n : ℕ) → n ≤ x → is_pair x s (pairs_where n p) ≡ false
unfolding pairs_where
is_pair-above p x s zero high = refl
is_pair-above p x s (suc n) high = rw (
  is_pair-append x s (pairs_where n p) (map (λ t. (n, t)) (slots_where (p n))),
  is_pair-above p x s n (omega arith),
  is_pair-row x s n (slots_where (p n)),
  ne_eqb x n (λ e. omega arith),
) refl

pair_at : (p : ℕ → ℕ → Bool) (x s n : ℕ) → x < n → is_pair x s (pairs_where n p) ≡ is_in s (slots_where (p x))
unfolding pairs_where
pair_at p x s zero low = absurd (omega arith)
pair_at p x s (suc n) low =
    is_pair-append x s (pairs_where n p) (map (λ t. (n, t)) (slots_where (p n)))
    ∙ rw (is_pair-row x s n (slots_where (p n))) (go (cases_eq x n) (pair_at p x s n))
  where
    go : (x ≡ n) ⊎ (x ≡ n → ⊥) → (x < n → is_pair x s (pairs_where n p) ≡ is_in s (slots_where (p x))) →
        (is_pair x s (pairs_where n p) || (nat_eq x n && is_in s (slots_where (p n)))) ≡ is_in s (slots_where (p x))
    go (inl e) h = rw (is_pair-above p x s n (omega arith), eq-eqb x n e, e) refl
    go (inr ne) h = rw (ne_eqb x n ne, h (omega arith)) (or-false (is_in s (slots_where (p x))))

pub is_pair-where : (p : ℕ → ℕ → Bool) (x s n : ℕ) → x < n → s < 1024 → is_pair x s (pairs_where n p) ≡ p x s
is_pair-where p x s n low small = pair_at p x s n low ∙ in_slots (p x) s small

pub out_of_pairs : (p : ℕ → ℕ → Bool) (x s n : ℕ) → x < n → 1024 ≤ s → is_pair x s (pairs_where n p) ≡ false
out_of_pairs p x s n low high = pair_at p x s n low ∙ out_of_slots (p x) s high

pub pairs_where-ext : (p q : ℕ → ℕ → Bool) (n : ℕ) → ((x s : ℕ) → x < n → s < 1024 → p x s ≡ q x s) → pairs_where n p ≡ pairs_where n q
unfolding pairs_where
pairs_where-ext p q zero h = refl
pairs_where-ext p q (suc n) h =
    rw (pairs_where-ext p q n (λ x s low small. h x s (omega arith) small), slots_where-ext (p n) (q n) (λ s small. h n s (omega arith) small)) refl

pub pairs_where-none : (n : ℕ) → pairs_where n (λ _ _. false) ≡ []
unfolding pairs_where
pairs_where-none zero = refl
pairs_where-none (suc n) = rw (pairs_where-none n, slots_where-none) refl
