-- Sets of objects by their bits.
use Rattle.std.proofs.Common.{true, ◌&&◌, not, bit_and, refl}
use Rattle.std.proofs.lemmas.Nat.Bits.{bit_at_clear_same, bit_at_clear_other}
use Rattle.std.specs.Int.{bit_not}
use Rattle.std.proofs.Common.{◌≡◌, ℕ, ◌*◌, ◌/◌, ◌%◌, ◌^◌, ◌<◌, inl, inr, Bool, false, ◌||◌, List, length, replicate, slice_index_or, slice_set, bit_or, sym, ◌∙◌, ap, nat_eq, arith, eq-eqb, ne_eqb, get_or-set_same, get_or-set_other}
use Rattle.std.proofs.lemmas.Bool.{cases_eq, cases_lt}
use Rattle.std.proofs.lemmas.List.{get_or-replicate, get_or_past}
use Rattle.std.proofs.lemmas.Nat.Bits.{bit_at-zero, bit_at_set_same, bit_at_set_other}
use Rattle.std.specs.Int.{bit_at, w64}
use Rattle.sv_influence.specs.Objects.{has_object}

pub has_object-none : (x : ℕ) → has_object (replicate 1024 0) x ≡ false
has_object-none x =
    let none : slice_index_or (replicate 1024 0) (x / 64) 0 ≡ 0 =
    elim (cases_lt (x / 64) 1024) [
      | inl l ↦ get_or-replicate 1024 (x / 64) 0 0 l
      | inr l ↦ get_or_past (replicate 1024 0) (x / 64) 0 l
    ] in
    ap (λ (w : ℕ). nat_eq (bit_at w (x % 64)) 1) none ∙ ap (λ (b : ℕ). nat_eq b 1) (bit_at-zero (x % 64))

pub has_object-add : (words : List ℕ) (o x : ℕ) → length words ≡ 1024 → o < 65535 →
    has_object (slice_set words (o / 64) (bit_or (slice_index_or words (o / 64) 0) (1 * 2 ^ (o % 64) % 2 ^ 64))) x ≡ (nat_eq x o || has_object words x)
has_object-add words o x len low =
    let place : o / 64 < length words = omega arith in
    let small : o % 64 < 64 = omega arith in
    let word = slice_index_or words (o / 64) 0 in
    let new' = bit_or word (1 * 2 ^ (o % 64) % 2 ^ 64) in
    elim (cases_eq (x / 64) (o / 64)) [
      | inl e ↦
          (let here : slice_index_or (slice_set words (o / 64) new') (x / 64) 0 ≡ new' =
          ap (λ (k : ℕ). slice_index_or (slice_set words (o / 64) new') k 0) e ∙ get_or-set_same words (o / 64) new' 0 place in
          ap (λ (w : ℕ). nat_eq (bit_at w (x % 64)) 1) here
          ∙ elim (cases_eq x o) [
            | inl s ↦
                (let bit : bit_at new' (x % 64) ≡ 1 = ap (λ (k : ℕ). bit_at new' (k % 64)) s ∙ bit_at_set_same w64 word (o % 64) small in
                eq-eqb (bit_at new' (x % 64)) 1 bit ∙ sym (ap (λ (b : Bool). b || has_object words x) (eq-eqb x o s)))
            | inr ne ↦
                (let apart : (x % 64) ≡ (o % 64) → ⊥ = λ f. ne (omega arith) in
                ap (λ (b : ℕ). nat_eq b 1) (bit_at_set_other w64 word (o % 64) small (x % 64) apart)
                ∙ ap (λ (k : ℕ). nat_eq (bit_at (slice_index_or words k 0) (x % 64)) 1) (sym e)
                ∙ sym (ap (λ (b : Bool). b || has_object words x) (ne_eqb x o ne)))
          ])
      | inr ne ↦
          (let apart : x ≡ o → ⊥ = λ s. ne (ap (λ (k : ℕ). k / 64) s) in
          ap (λ (w : ℕ). nat_eq (bit_at w (x % 64)) 1) (get_or-set_other words (o / 64) (x / 64) new' 0 ne)
          ∙ sym (ap (λ (b : Bool). b || has_object words x) (ne_eqb x o apart)))
    ]

pub has_object-remove : (words : List ℕ) (o x : ℕ) → length words ≡ 1024 → o < 65535 →
    has_object (slice_set words (o / 64) (bit_and (slice_index_or words (o / 64) 0) (bit_not w64 (1 * 2 ^ (o % 64) % 2 ^ 64)))) x ≡ (has_object words x && not (nat_eq x o))
has_object-remove words o x len low =
    let place : o / 64 < length words = omega arith in
    let small : o % 64 < 64 = omega arith in
    let small' : x % 64 < 64 = omega arith in
    let word = slice_index_or words (o / 64) 0 in
    let new' = bit_and word (bit_not w64 (1 * 2 ^ (o % 64) % 2 ^ 64)) in
    let kept : (x ≡ o → ⊥) → has_object words x ≡ (has_object words x && not (nat_eq x o)) =
    λ ne. sym (and_true (has_object words x)) ∙ ap (λ (b : Bool). has_object words x && not b) (sym (ne_eqb x o ne)) in
    elim (cases_eq (x / 64) (o / 64)) [
      | inl e ↦
          (let here : slice_index_or (slice_set words (o / 64) new') (x / 64) 0 ≡ new' =
          ap (λ (k : ℕ). slice_index_or (slice_set words (o / 64) new') k 0) e ∙ get_or-set_same words (o / 64) new' 0 place in
          ap (λ (w : ℕ). nat_eq (bit_at w (x % 64)) 1) here
          ∙ elim (cases_eq x o) [
            | inl s ↦
                (let bit : bit_at new' (x % 64) ≡ 0 = ap (λ (k : ℕ). bit_at new' (k % 64)) s ∙ bit_at_clear_same w64 word (o % 64) small in
                ap (λ (b : ℕ). nat_eq b 1) bit ∙ sym (and_false (has_object words x)) ∙ ap (λ (b : Bool). has_object words x && not b) (sym (eq-eqb x o s)))
            | inr ne ↦
                (let apart : (x % 64) ≡ (o % 64) → ⊥ = λ f. ne (omega arith) in
                ap (λ (b : ℕ). nat_eq b 1) (bit_at_clear_other w64 word (o % 64) small (x % 64) small' apart)
                ∙ ap (λ (k : ℕ). nat_eq (bit_at (slice_index_or words k 0) (x % 64)) 1) (sym e)
                ∙ kept ne)
          ])
      | inr ne ↦
          (let apart : x ≡ o → ⊥ = λ s. ne (ap (λ (k : ℕ). k / 64) s) in
          ap (λ (w : ℕ). nat_eq (bit_at w (x % 64)) 1) (get_or-set_other words (o / 64) (x / 64) new' 0 ne) ∙ kept apart)
    ]
  where
    and_true : (b : Bool) → (b && true) ≡ b
    and_true true = refl
    and_true false = refl

    and_false : (b : Bool) → (b && false) ≡ false
    and_false true = refl
    and_false false = refl
