-- Repetition, the places of a list, and tests of its elements.
use Rattle.std.proofs.Common.{◌≡◌, ℕ, zero, suc, ◌+◌, ◌≤◌, Bool, true, false, ◌||◌, inl, inr, List, [], ◌∷◌, map, length, Option, Some, None, slice_get, refl, sym, ap, ◌∙◌, arith, true≢false}
use Rattle.std.specs.Prelude.{if◌then◌else◌}
use Rattle.std.specs.List.{list_any, flat_map}
use Rattle.std.proofs.lemmas.Bool.{or_cases, or_left, or_right}
use Rattle.std.proofs.lemmas.List.{length-append}
use Rattle.std.proofs.lemmas.List.Concat.{flat_map-cons}
use Rattle.std.proofs.lemmas.Option.{none-some, same_Some}
use Rattle.law_system.proofs.Places.{map_at}
use Rattle.law_schedule.specs.Players.{Player, at_player, repeated}

-- ---- Repetition

pub repeated-sum : {A : Type 0} (m n : ℕ) (f : A → A) (x : A) → repeated (m + n) f x ≡ repeated n f (repeated m f x)
repeated-sum zero n f x = ap (λ (k : ℕ). repeated k f x) (let e : 0 + n ≡ n = omega arith in e)
repeated-sum (suc m) n f x = ap (λ (k : ℕ). repeated k f x) (let e : suc m + n ≡ suc (m + n) = omega arith in e) ∙ repeated-sum m n f (f x)

pub repeated-still : {A : Type 0} (n : ℕ) (f : A → A) (x : A) → f x ≡ x → repeated n f x ≡ x
repeated-still zero f x e = refl
repeated-still (suc n) f x e = ap (repeated n f) e ∙ repeated-still n f x e

-- What each turn keeps is kept by many.
pub repeated-keeps : {A : Type 0} (P : A → Type 0) (f : A → A) → ((x : A) → P x → P (f x)) → (n : ℕ) (x : A) → P x → P (repeated n f x)
repeated-keeps P f keep zero x h = h
repeated-keeps P f keep (suc n) x h = repeated-keeps P f keep n (f x) (keep x h)

-- ---- Places

pub at-here : (ps : List Player) (k : ℕ) (f : Player → Player) (p : Player) → slice_get ps k ≡ Some p → slice_get (at_player ps k f) k ≡ Some (f p)
at-here [] k f p e = absurd (none-some p e)
at-here (q ∷ ps) zero f p e = ap (λ z. Some (f z)) (same_Some q p e)
at-here (q ∷ ps) (suc k) f p e = at-here ps k f p e

-- ---- Tests

pub any-found : {A : Type 0} (t : A → Bool) (xs : List A) → list_any t xs ≡ true → (k : ℕ) × ((x : A) × ((slice_get xs k ≡ Some x) × (t x ≡ true)))
any-found t [] h = absurd (true≢false (sym h))
any-found t (x ∷ xs) h =
    let later = any-found t xs in
    elim (or_cases (t x) (list_any t xs) h) [
      | inl e ↦ (0, (x, (refl, e)))
      | inr e ↦ (let f = later e in (suc f.0, f.1))
    ]

pub any-there : {A : Type 0} (t : A → Bool) (xs : List A) (k : ℕ) (x : A) → slice_get xs k ≡ Some x → t x ≡ true → list_any t xs ≡ true
any-there t [] k x e h = absurd (none-some x e)
any-there t (y ∷ ys) zero x e h = or_left (t y) (list_any t ys) (ap t (same_Some y x e) ∙ h)
any-there t (y ∷ ys) (suc k) x e h = or_right (t y) (list_any t ys) (any-there t ys k x e h)

-- A test that one of a list passes is passed after each was changed, or one of them, where a change keeps the test.
pub any-mapped : {A B : Type 0} (t : A → Bool) (u : B → Bool) (f : A → B) (xs : List A) → ((k : ℕ) (x : A) → slice_get xs k ≡ Some x → t x ≡ true → u (f x) ≡ true) →
    list_any t xs ≡ true → list_any u (map f xs) ≡ true
any-mapped t u f xs keep h =
    let g = any-found t xs h in
    any-there u (map f xs) g.0 (f g.1.0) (map_at f xs g.0 g.1.0 g.1.1.0) (keep g.0 g.1.0 g.1.1.0 g.1.1.1)

pub any-at : (t : Player → Bool) (f : Player → Player) (ps : List Player) (k : ℕ) → ((p : Player) → slice_get ps k ≡ Some p → t p ≡ true → t (f p) ≡ true) →
    list_any t ps ≡ true → list_any t (at_player ps k f) ≡ true
any-at t f [] k keep h = h
any-at t f (p ∷ ps) zero keep h =
    elim (or_cases (t p) (list_any t ps) h) [
      | inl e ↦ or_left (t (f p)) (list_any t ps) (keep p refl e)
      | inr e ↦ or_right (t (f p)) (list_any t ps) e
    ]
any-at t f (p ∷ ps) (suc k) keep h =
    let later = any-at t f ps k keep in
    elim (or_cases (t p) (list_any t ps) h) [
      | inl e ↦ or_left (t p) (list_any t (at_player ps k f)) e
      | inr e ↦ or_right (t p) (list_any t (at_player ps k f)) (later e)
    ]

-- ---- Pieces

pub piece-shorter : {A B : Type 0} (f : A → List B) (xs : List A) (k : ℕ) (x : A) → slice_get xs k ≡ Some x → length (f x) ≤ length (flat_map f xs)
piece-shorter f [] k x e = absurd (none-some x e)
piece-shorter f (y ∷ ys) zero x e =
    let whole = ap length (flat_map-cons f y ys) ∙ length-append (f y) (flat_map f ys) in
    let same = ap (λ z. length (f z)) (same_Some y x e) in
    omega (arith, whole, same)
piece-shorter f (y ∷ ys) (suc k) x e =
    let whole = ap length (flat_map-cons f y ys) ∙ length-append (f y) (flat_map f ys) in
    let less = piece-shorter f ys k x e in
    omega (arith, whole, less)

-- What stands behind two tests stands where both fail.
pub open-by : (a b : Bool) (o : Option ℕ) (s : ℕ) → (if a || b then None else o) ≡ Some s → (a ≡ false) × ((b ≡ false) × (o ≡ Some s))
open-by true b o s e = absurd (none-some s e)
open-by false true o s e = absurd (none-some s e)
open-by false false o s e = (refl, (refl, e))
