-- Sets of slots by their bits.
use Rattle.std.proofs.Common.{◌≡◌, ℕ, zero, suc, ◌+◌, ◌-◌, ◌*◌, ◌/◌, ◌%◌, ◌^◌, ◌<◌, ◌≤◌, inl, inr, Bool, true, false, ◌&&◌, ◌||◌, not, nat_eq, max, cond, filter, List, [], ◌∷◌, ◌++◌, length, take, replicate, slice_index, slice_index_or, slice_set, bit_and, bit_or, IsTrue, IsFalse, refl, sym, ◌∙◌, ap, ap₂, arith, eq-eqb, ne_eqb, get_or-set_same, get_or-set_other}
use Rattle.std.proofs.lemmas.Bool.{cases_eq, cases_lt, eqb-true}
use Rattle.std.proofs.lemmas.List.{take_at, get_or_past, get_or_append_left, get_or-append_right}
use Rattle.std.proofs.lemmas.Nat.{and_le_l}
use Rattle.std.proofs.lemmas.Nat.Bits.{bit_at-zero, bit_at-lt, bit_at_and, bit_at_or, bit_at-trailing_zeros, bit_at_set_same, bit_at_set_other, bit_at_clear_same, bit_at_clear_other}
use Rattle.std.specs.Int.{bit_at, bit_not, trailing_zeros, w64}
use Rattle.std.specs.List.{list_any, refill}
use Rattle.sv_world.specs.Control.{is_in, below}
use Rattle.sv_world.proofs.Members.{any_from, any_parts}
use Rattle.sv_queue.specs.Slots.{has_bit, set_of, slots_where, with_slot, with_slots, all_but}
use Rattle.sv_queue.proofs.SlotSets.{in_slots, out_of_slots, slots_where-ext}

pub refilled : {X : Type 0} (xs ws : List X) → length ws ≡ length xs → refill (length xs) xs ws ≡ ws
refilled xs ws e = take_at ws _ (length xs) (omega (arith, e))

-- A word that is not there has no bit.
pub has_bit-past : (words : List ℕ) (s : ℕ) → length words ≤ s / 64 → has_bit words s ≡ false
has_bit-past words s past = ap (λ (w : ℕ). nat_eq (bit_at w (s % 64)) 1) (get_or_past words (s / 64) 0 past) ∙ ap (λ (b : ℕ). nat_eq b 1) (bit_at-zero (s % 64))

-- The set has a slot as its bit says.
pub has_bit_is : (words : List ℕ) (s : ℕ) → 64 * length words ≤ 1024 → has_bit words s ≡ is_in s (slots_where (has_bit words))
has_bit_is words s low = elim (cases_lt s 1024) [
  | inl l ↦ sym (in_slots (has_bit words) s l)
  | inr l ↦ has_bit-past words s (omega (arith, low)) ∙ sym (out_of_slots (has_bit words) s l)
]

true_not_false : true ≡ false → ⊥
true_not_false e = cc

pub has_bit_within : (words : List ℕ) (s : ℕ) → has_bit words s ≡ true → s < 64 * length words
has_bit_within words s h = elim (cases_lt (s / 64) (length words)) [
  | inl l ↦ omega arith
  | inr l ↦ absurd (true_not_false (sym h ∙ has_bit-past words s l))
]

pub has_bit-none : (s : ℕ) → has_bit (0 ∷ []) s ≡ false
has_bit-none s = elim (cases_lt (s / 64) 1) [
  | inl l ↦ (let first : s / 64 ≡ 0 = omega arith in
      ap (λ (k : ℕ). nat_eq (bit_at (slice_index (0 ∷ []) k) (s % 64)) 1) first ∙ ap (λ (b : ℕ). nat_eq b 1) (bit_at-zero (s % 64)))
  | inr l ↦ has_bit-past (0 ∷ []) s l
]

abbrev one_zero : List ℕ
one_zero = 0 ∷ []

zero_at : (n : ℕ) → slice_index_or one_zero n 0 ≡ 0
zero_at zero = refl
zero_at (suc n) = refl

zero_among : (n m k : ℕ) → slice_index_or (take n (replicate m zero)) k zero ≡ zero
zero_among zero m k = refl
zero_among (suc n) zero k = refl
zero_among (suc n) (suc m) zero = refl
zero_among (suc n) (suc m) (suc k) = zero_among n m k

-- Words without a bit.
pub has_bit-zeros : (n m s : ℕ) → has_bit (take n (replicate m zero)) s ≡ false
has_bit-zeros n m s = ap (λ (w : ℕ). nat_eq (bit_at w (s % 64)) 1) (zero_among n m (s / 64)) ∙ ap (λ (b : ℕ). nat_eq b 1) (bit_at-zero (s % 64))

-- One more word without a bit.
pub has_bit-grown : (words : List ℕ) (s : ℕ) → has_bit (words ++ 0 ∷ []) s ≡ has_bit words s
has_bit-grown words s = ap (λ (w : ℕ). nat_eq (bit_at w (s % 64)) 1) (word (s / 64))
  where
    word : (k : ℕ) → slice_index_or (words ++ 0 ∷ []) k 0 ≡ slice_index_or words k 0
    word k = elim (cases_lt k (length words)) [
      | inl l ↦ get_or_append_left words (0 ∷ []) 0 k l
      | inr l ↦ get_or-append_right words (0 ∷ []) (length words) k 0 refl l ∙ zero_at (k - length words) ∙ sym (get_or_past words k 0 l)
    ]

pub has_bit-set : (words : List ℕ) (o x : ℕ) → o / 64 < length words →
    has_bit (slice_set words (o / 64) (bit_or (slice_index_or words (o / 64) 0) (1 * 2 ^ (o % 64) % 2 ^ 64))) x ≡ (nat_eq x o || has_bit words x)
has_bit-set words o x place =
    let small : o % 64 < 64 = omega arith in
    let word = slice_index_or words (o / 64) 0 in
    let new' = bit_or word (1 * 2 ^ (o % 64) % 2 ^ 64) in
    elim (cases_eq (x / 64) (o / 64)) [
      | inl e ↦
          (let here : slice_index_or (slice_set words (o / 64) new') (x / 64) 0 ≡ new' =
          ap (λ (k : ℕ). slice_index_or (slice_set words (o / 64) new') k 0) e ∙ get_or-set_same words (o / 64) new' 0 place in
          ap (λ (w : ℕ). nat_eq (bit_at w (x % 64)) 1) here
          ∙ elim (cases_eq x o) [
            | inl s ↦
                (let bit : bit_at new' (x % 64) ≡ 1 = ap (λ (k : ℕ). bit_at new' (k % 64)) s ∙ bit_at_set_same w64 word (o % 64) small in
                eq-eqb (bit_at new' (x % 64)) 1 bit ∙ sym (ap (λ (b : Bool). b || has_bit words x) (eq-eqb x o s)))
            | inr ne ↦
                (let apart : (x % 64) ≡ (o % 64) → ⊥ = λ f. ne (omega arith) in
                ap (λ (b : ℕ). nat_eq b 1) (bit_at_set_other w64 word (o % 64) small (x % 64) apart)
                ∙ ap (λ (k : ℕ). nat_eq (bit_at (slice_index_or words k 0) (x % 64)) 1) (sym e)
                ∙ sym (ap (λ (b : Bool). b || has_bit words x) (ne_eqb x o ne)))
          ])
      | inr ne ↦
          (let apart : x ≡ o → ⊥ = λ s. ne (ap (λ (k : ℕ). k / 64) s) in
          ap (λ (w : ℕ). nat_eq (bit_at w (x % 64)) 1) (get_or-set_other words (o / 64) (x / 64) new' 0 ne)
          ∙ sym (ap (λ (b : Bool). b || has_bit words x) (ne_eqb x o apart)))
    ]

and_true : (b : Bool) → (b && true) ≡ b
and_true true = refl
and_true false = refl

and_false : (b : Bool) → (b && false) ≡ false
and_false true = refl
and_false false = refl

pub has_bit-clear : (words : List ℕ) (o x : ℕ) → o / 64 < length words →
    has_bit (slice_set words (o / 64) (bit_and (slice_index_or words (o / 64) 0) (bit_not w64 (1 * 2 ^ (o % 64) % 2 ^ 64)))) x ≡ (has_bit words x && not (nat_eq x o))
has_bit-clear words o x place =
    let small : o % 64 < 64 = omega arith in
    let small' : x % 64 < 64 = omega arith in
    let word = slice_index_or words (o / 64) 0 in
    let new' = bit_and word (bit_not w64 (1 * 2 ^ (o % 64) % 2 ^ 64)) in
    let kept : (x ≡ o → ⊥) → has_bit words x ≡ (has_bit words x && not (nat_eq x o)) =
    λ ne. sym (and_true (has_bit words x)) ∙ ap (λ (b : Bool). has_bit words x && not b) (sym (ne_eqb x o ne)) in
    elim (cases_eq (x / 64) (o / 64)) [
      | inl e ↦
          (let here : slice_index_or (slice_set words (o / 64) new') (x / 64) 0 ≡ new' =
          ap (λ (k : ℕ). slice_index_or (slice_set words (o / 64) new') k 0) e ∙ get_or-set_same words (o / 64) new' 0 place in
          ap (λ (w : ℕ). nat_eq (bit_at w (x % 64)) 1) here
          ∙ elim (cases_eq x o) [
            | inl s ↦
                (let bit : bit_at new' (x % 64) ≡ 0 = ap (λ (k : ℕ). bit_at new' (k % 64)) s ∙ bit_at_clear_same w64 word (o % 64) small in
                ap (λ (b : ℕ). nat_eq b 1) bit ∙ sym (and_false (has_bit words x)) ∙ ap (λ (b : Bool). has_bit words x && not b) (sym (eq-eqb x o s)))
            | inr ne ↦
                (let apart : (x % 64) ≡ (o % 64) → ⊥ = λ f. ne (omega arith) in
                ap (λ (b : ℕ). nat_eq b 1) (bit_at_clear_other w64 word (o % 64) small (x % 64) small' apart)
                ∙ ap (λ (k : ℕ). nat_eq (bit_at (slice_index_or words k 0) (x % 64)) 1) (sym e)
                ∙ kept ne)
          ])
      | inr ne ↦
          (let apart : x ≡ o → ⊥ = λ s. ne (ap (λ (k : ℕ). k / 64) s) in
          ap (λ (w : ℕ). nat_eq (bit_at w (x % 64)) 1) (get_or-set_other words (o / 64) (x / 64) new' 0 ne) ∙ kept apart)
    ]

-- A slot past the words is in no set of them.
pub has_bit-gone : (words : List ℕ) (o x : ℕ) → length words ≤ o / 64 → has_bit words x ≡ (has_bit words x && not (nat_eq x o))
has_bit-gone words o x past = elim (cases_eq x o) [
  | inl e ↦ (let none : has_bit words x ≡ false = ap (has_bit words) e ∙ has_bit-past words o past in none ∙ sym (ap (λ b. b && not (nat_eq x o)) none))
  | inr ne ↦ sym (and_true (has_bit words x)) ∙ ap (λ (b : Bool). has_bit words x && not b) (sym (ne_eqb x o ne))
]

-- The sets that the words are.
pub slots-add : (old new' : List ℕ) (o : ℕ) → ((s : ℕ) → has_bit new' s ≡ (nat_eq s o || has_bit old s)) →
    slots_where (has_bit new') ≡ with_slot o (slots_where (has_bit old))
slots-add old new' o h = slots_where-ext _ _ (λ s low. h s ∙ ap (λ (b : Bool). nat_eq s o || b) (sym (in_slots (has_bit old) s low)))

filter-twice : (p q : ℕ → Bool) (xs : List ℕ) → filter q (filter p xs) ≡ filter (λ s. p s && q s) xs
filter-twice p q [] = refl
filter-twice p q (x ∷ xs) = go (p x) (q x) refl (filter-twice p q xs)
  where
    kept : (c : Bool) → filter q (filter p xs) ≡ filter (λ s. p s && q s) xs →
        cond c (x ∷ filter q (filter p xs)) (filter q (filter p xs)) ≡ cond c (x ∷ filter (λ s. p s && q s) xs) (filter (λ s. p s && q s) xs)
    kept true h = ap (λ ys. x ∷ ys) h
    kept false h = h

    go : (b c : Bool) → q x ≡ c → filter q (filter p xs) ≡ filter (λ s. p s && q s) xs →
        filter q (cond b (x ∷ filter p xs) (filter p xs)) ≡ cond (b && c) (x ∷ filter (λ s. p s && q s) xs) (filter (λ s. p s && q s) xs)
    go true c e h = ap (λ b. cond b (x ∷ filter q (filter p xs)) (filter q (filter p xs))) e ∙ kept c h
    go false c e h = h

pub all_but-where : (p : ℕ → Bool) (o : ℕ) → all_but o (slots_where p) ≡ slots_where (λ s. p s && not (nat_eq s o))
unfolding slots_where
all_but-where p o = filter-twice p (λ s. not (nat_eq s o)) (below 1024)

pub slots-remove : (old new' : List ℕ) (o : ℕ) → ((s : ℕ) → has_bit new' s ≡ (has_bit old s && not (nat_eq s o))) →
    slots_where (has_bit new') ≡ all_but o (slots_where (has_bit old))
slots-remove old new' o h = slots_where-ext _ _ (λ s low. h s) ∙ sym (all_but-where (has_bit old) o)

-- The same words as another set has them, as far as there is room; and what the other set has is within.
pub slots-copied : (new' others : List ℕ) → ((i : ℕ) → i < length new' → slice_index new' i ≡ slice_index others i) →
    ((s : ℕ) → is_in s (slots_where (has_bit others)) ≡ true → s < 64 * length new') → slots_where (has_bit new') ≡ slots_where (has_bit others)
slots-copied new' others same within = slots_where-ext _ _ go
  where
    gone : (s : ℕ) → s < 1024 → length new' ≤ s / 64 → (b : Bool) → has_bit others s ≡ b → has_bit others s ≡ false
    gone s low past true h = (let l : s < 64 * length new' = within s (in_slots (has_bit others) s low ∙ h) in absurd (omega arith))
    gone s low past false h = h

    go : (s : ℕ) → s < 1024 → has_bit new' s ≡ has_bit others s
    go s low = elim (cases_lt (s / 64) (length new')) [
      | inl l ↦ ap (λ (w : ℕ). nat_eq (bit_at w (s % 64)) 1) (same (s / 64) l)
      | inr l ↦ has_bit-past new' s l ∙ sym (gone s low l (has_bit others s) refl)
    ]

-- The words of two sets joined, and what the other set has is within.
bit_joined : (p q : ℕ) → p < 2 → q < 2 → nat_eq (max p q) 1 ≡ (nat_eq p 1 || nat_eq q 1)
bit_joined zero zero a b = refl
bit_joined zero (suc zero) a b = refl
bit_joined zero (suc (suc q)) a b = absurd (omega arith)
bit_joined (suc zero) zero a b = refl
bit_joined (suc zero) (suc zero) a b = refl
bit_joined (suc zero) (suc (suc q)) a b = absurd (omega arith)
bit_joined (suc (suc p)) q a b = absurd (omega arith)

pub slots-joined : (new' old others : List ℕ) → length new' ≡ length old →
    ((i : ℕ) → i < length old → slice_index new' i ≡ bit_or (slice_index old i) (slice_index others i)) →
    ((s : ℕ) → is_in s (slots_where (has_bit others)) ≡ true → s < 64 * length old) →
    slots_where (has_bit new') ≡ with_slots (slots_where (has_bit others)) (slots_where (has_bit old))
slots-joined new' old others count joined within = slots_where-ext _ _ (λ s low.
    bits s low ∙ ap₂ (λ (b c : Bool). b || c) (sym (in_slots (has_bit old) s low)) (sym (in_slots (has_bit others) s low)))
  where
    gone : (s : ℕ) → s < 1024 → length old ≤ s / 64 → (b : Bool) → has_bit others s ≡ b → has_bit others s ≡ false
    gone s low past true h = (let l : s < 64 * length old = within s (in_slots (has_bit others) s low ∙ h) in absurd (omega arith))
    gone s low past false h = h

    bits : (s : ℕ) → s < 1024 → has_bit new' s ≡ (has_bit old s || has_bit others s)
    bits s low = elim (cases_lt (s / 64) (length old)) [
      | inl l ↦
          (let a = slice_index old (s / 64) in
          let b = slice_index others (s / 64) in
          ap (λ (w : ℕ). nat_eq (bit_at w (s % 64)) 1) (joined (s / 64) l)
          ∙ ap (λ (n : ℕ). nat_eq n 1) (bit_at_or a b (s % 64))
          ∙ bit_joined (bit_at a (s % 64)) (bit_at b (s % 64)) (bit_at-lt a (s % 64)) (bit_at-lt b (s % 64)))
      | inr l ↦ has_bit-past new' s (omega (arith, l, count))
          ∙ sym (ap₂ (λ (b c : Bool). b || c) (has_bit-past old s l) (gone s low l (has_bit others s) refl))
    ]

-- The slots and the room are the set.
pub set_is : (words : List ℕ) {slots : List ℕ} → slots_where (has_bit words) ≡ slots → set_of words ≡ record { slots = slots; room = 64 * length words }
set_is words e = ap (λ (ss : List ℕ). record { slots = ss; room = 64 * length words }) e

pub same_room : (old new' slots : List ℕ) → length new' ≡ length old → slots_where (has_bit new') ≡ slots → set_of new' ≡ record (set_of old) { slots = slots }
same_room old new' slots count e = ap₂ (λ (ss : List ℕ) (n : ℕ). record { slots = ss; room = 64 * n }) e count

-- Two words that have a bit in common, and two that have none.
pub common_bit : (words others : List ℕ) (i : ℕ) → slice_index words i < 2 ^ 64 →
    (bit_and (slice_index words i) (slice_index others i) ≡ 0 → ⊥) → (s : ℕ) × (has_bit words s ≡ true) × (has_bit others s ≡ true)
common_bit words others i fits some =
    let both = bit_and (slice_index words i) (slice_index others i) in
    let t = trailing_zeros w64 both in
    let found = bit_at-trailing_zeros w64 both (omega (arith, some)) (omega (arith, fits, and_le_l (slice_index words i) (slice_index others i))) in
    let high : t < 64 = found.0 in
    let s = 64 * i + t in
    let word : s / 64 ≡ i = omega arith in
    let bit : s % 64 ≡ t = omega arith in
    let meet = bit_at_and (slice_index words i) (slice_index others i) t in
    (s, at words i t s word bit (omega (arith, meet, found.1, bit_low (slice_index words i) t)), at others i t s word bit (omega (arith, meet, found.1, bit_low (slice_index others i) t)))
  where
    bit_low : (n k : ℕ) → bit_at n k < 2
    bit_low n k = omega arith

    at : (ws : List ℕ) (i t s : ℕ) → s / 64 ≡ i → s % 64 ≡ t → bit_at (slice_index ws i) t ≡ 1 → has_bit ws s ≡ true
    at ws i t s word bit one = eq-eqb _ 1 (ap (λ (k : ℕ). bit_at (slice_index ws k) (s % 64)) word ∙ ap (bit_at (slice_index ws i)) bit ∙ one)

pub no_common_bit : (words others : List ℕ) → ((i : ℕ) → i < length words → bit_and (slice_index words i) (slice_index others i) ≡ 0) →
    (s : ℕ) → has_bit words s ≡ true → has_bit others s ≡ false
no_common_bit words others h s has =
    let w = slice_index words (s / 64) in
    let o = slice_index others (s / 64) in
    let within = has_bit_within words s has in
    let low : s / 64 < length words = omega arith in
    let one : bit_at w (s % 64) ≡ 1 = eqb-true _ 1 has in
    let none : bit_at (bit_and w o) (s % 64) ≡ 0 = ap (λ n. bit_at n (s % 64)) (h (s / 64) low) ∙ bit_at-zero (s % 64) in
    ne_eqb (bit_at o (s % 64)) 1 (λ e. omega (arith, bit_at_and w o (s % 64), one, none, e))

-- Whether two sets meet is told by their words.
pub meet_is : (words others : List ℕ) (b : Bool) → 64 * length words ≤ 1024 →
    (IsTrue b → (s : ℕ) × (has_bit words s ≡ true) × (has_bit others s ≡ true)) →
    (IsFalse b → (s : ℕ) → has_bit words s ≡ true → has_bit others s ≡ false) →
    b ≡ list_any (λ s. is_in s (slots_where (has_bit others))) (slots_where (has_bit words))
meet_is words others true low some none =
    let found = some refl in
    let within = has_bit_within words found.0 found.1 in
    let small : found.0 < 1024 = omega (arith, low, within) in
    sym (any_from (λ s. is_in s (slots_where (has_bit others))) found.0 (slots_where (has_bit words)) (in_slots (has_bit words) found.0 small ∙ found.1) (in_slots (has_bit others) found.0 small ∙ found.2))
meet_is words others false low some none = go (list_any (λ s. is_in s (slots_where (has_bit others))) (slots_where (has_bit words))) refl
  where
    in_words : (ws : List ℕ) (s : ℕ) → is_in s (slots_where (has_bit ws)) ≡ true → (s < 1024) × (has_bit ws s ≡ true)
    in_words ws s h = elim (cases_lt s 1024) [
      | inl l ↦ (l, sym (in_slots (has_bit ws) s l) ∙ h)
      | inr l ↦ absurd (true_not_false (sym h ∙ out_of_slots (has_bit ws) s l))
    ]

    go : (b : Bool) → list_any (λ s. is_in s (slots_where (has_bit others))) (slots_where (has_bit words)) ≡ b → false ≡ b
    go false e = refl
    go true e =
        let parts = any_parts (λ s. is_in s (slots_where (has_bit others))) (slots_where (has_bit words)) e in
        let one = in_words words parts.0 parts.1.0 in
        let other = in_words others parts.0 parts.1.1 in
        absurd (true_not_false (sym other.1 ∙ none refl parts.0 one.1))
