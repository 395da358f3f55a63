-- The value of digits, from the left.
use Rattle.std.proofs.Common.{◌≡◌, ℕ, suc, ◌+◌, ◌-◌, ◌*◌, ◌<◌, ◌≤◌, min, inl, inr, Bool, true, false, cond, List, [], ◌∷◌, length, drop, get_or, get_or-drop, refl, sym, ap, subst, ◌∙◌, arith}
use Rattle.std.specs.List.{take_while}
use Rattle.std.specs.Char.{is_ascii_digit}
use Rattle.std.proofs.Math.Seq.{drop-cons}
use Rattle.std.proofs.lemmas.Bool.{cases_lt}
use Rattle.std.proofs.lemmas.List.Sums.{take_while-cons}
use Rattle.sv_text.specs.Tokens.{digits_at, value_after}
use Rattle.sv_text.proofs.Lexing.{digit_stands}

-- a digit and those behind it
pub digits_go_on : (bs : List ℕ) (at : ℕ) → is_ascii_digit (get_or bs at 0) ≡ true → (at < length bs) × (digits_at at bs ≡ get_or bs at 0 ∷ digits_at (at + 1) bs)
digits_go_on bs at digit =
    let stands = digit_stands bs at digit in
    let one : at + 1 ≡ suc at = omega arith in
    (stands, rw (drop-cons bs at 0 stands, one) (take_while-cons is_ascii_digit (get_or bs at 0) (drop (suc at) bs) ∙ ap (λ (b : Bool). cond b (get_or bs at 0 ∷ take_while is_ascii_digit (drop (suc at) bs)) []) digit))

no_digits : (l : List ℕ) → is_ascii_digit (get_or l 0 0) ≡ false → take_while is_ascii_digit l ≡ []
no_digits [] none = refl
no_digits (b ∷ bs) none = take_while-cons is_ascii_digit b bs ∙ ap (λ (t : Bool). cond t (b ∷ take_while is_ascii_digit bs) []) none

pub digits_end : (bs : List ℕ) (at : ℕ) → is_ascii_digit (get_or bs at 0) ≡ false → digits_at at bs ≡ []
digits_end bs at none = no_digits (drop at bs) (subst (λ (c : ℕ). is_ascii_digit c ≡ false) (sym (get_or-drop at bs 0 0 ∙ (let e : at + 0 ≡ at = omega arith in ap (λ (k : ℕ). get_or bs k 0) e))) none)

grows : (n : ℕ) (ds : List ℕ) → n ≤ value_after n ds
grows n [] = omega arith
grows n (d ∷ ds) = omega (arith, grows (10 * n + (d - 48)) ds)

-- More digits behind a number that was cut to 64 bits give the same, cut to 64 bits.
pub value_goes_on : (n : ℕ) (ds : List ℕ) → min (value_after (min n 18446744073709551615) ds) 18446744073709551615 ≡ min (value_after n ds) 18446744073709551615
value_goes_on n ds = elim (cases_lt n 18446744073709551616) [
  | inl few ↦ (let e : min n 18446744073709551615 ≡ n = omega arith in ap (λ (k : ℕ). min (value_after k ds) 18446744073709551615) e)
  | inr more ↦ (let a = grows n ds in let b = grows (min n 18446744073709551615) ds in omega arith)
]
