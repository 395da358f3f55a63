-- The number that a text writes.
use Rattle.std.proofs.Common.{arith, ◌≡◌, ◌⊎◌, inl, inr, ℕ, zero, suc, ◌<◌, ◌≤◌, ◌^◌, length, Bool, true, false, List, Some, None, sym, ap, refl}
use Rattle.std.specs.Prelude.{Result, Ok, Err, nat_le}
use lib.ListN.{get_or}
use Rattle.std.specs.Fmt.{decimal}
use Rattle.std.specs.Result.{OkIff}
use Rattle.std.specs.Str.{bytes_eq}
use Rattle.std.specs.Str.Parse.{digits_value, AllDigits, IsNumeral, ParsesUnsigned}
use Rattle.std.proofs.lemmas.Slice.Eq.{bytes_eq-Decides}
use Rattle.std.proofs.lemmas.Bool.{le-leb, leb-true}
use Rattle.std.proofs.lemmas.Fmt.{decimal_is_IsNumeral, decimal_digit, first_decimal, decimal-digits_value}
use Rattle.std.proofs.lemmas.Str.Parse.{IsNumeralModel, numerals_by_value, tells_digits, digit_at, parse_plain}
use Rattle.sv_ending.specs.Numbers.{number_if, number_between, IsPlain}

own : IsNumeralModel (AllDigits 10) (digits_value 10)
own = numerals_by_value (AllDigits 10) tells_digits

decimal_is_plain : (n : ℕ) → n < 2 ^ 64 → IsPlain (decimal n)
decimal_is_plain zero fits = inl (decimal_digit 0 (omega arith))
decimal_is_plain (suc n) fits =
    let numeral = decimal_is_IsNumeral (suc n) fits in
    let range = digit_at (decimal (suc n)) 0 numeral.0.1 numeral.0.0 in
    let first = first_decimal (suc n) (omega arith) fits in
    inr (omega (arith, first), omega (arith, range))

-- No sign stands first, and a 0 that stands first stands alone.
unsigned : (text : List ℕ) → IsPlain text → get_or text 0 0 ≡ 43 → ⊥
unsigned text (inl zero_is) e = absurd (omega (arith, sym e, ap (λ (t : List ℕ). get_or t 0 0) zero_is))
unsigned text (inr digit) e = omega (arith, e, digit.0)

alone : (text : List ℕ) → IsPlain text → get_or text 0 0 ≡ 48 → length text ≡ 1
alone text (inl zero_is) e = rw zero_is refl
alone text (inr digit) e = absurd (omega (arith, e, digit.0))

module _ (least most : ℕ) (fits : most < 2 ^ 32) (text : List ℕ) where
  -- Where the text is not the decimal of a number within the bounds, it writes none.
  none_if : (n : ℕ) → (least ≤ n → n ≤ most → text ≡ decimal n → ⊥) → number_if least most n text ≡ None
  none_if n never = go (nat_le least n) (nat_le n most) (bytes_eq text (decimal n)) refl refl refl
    where
      go : (a b e : Bool) → nat_le least n ≡ a → nat_le n most ≡ b → bytes_eq text (decimal n) ≡ e → number_if least most n text ≡ None
      go true true true p q r = absurd (never (leb-true least n p) (leb-true n most q) ((bytes_eq-Decides text (decimal n)).0 r))
      go false b e p q r = rw p refl
      go true false e p q r = rw p (rw q refl)
      go true true false p q r = rw p (rw q (rw r refl))

  some_if : (n : ℕ) → least ≤ n → n ≤ most → text ≡ decimal n → number_if least most n text ≡ Some n
  some_if n low high e = rw (le-leb least n low) (rw (le-leb n most high) (rw ((bytes_eq-Decides text (decimal n)).1 e) refl))

  plain_of : (n : ℕ) → n ≤ most → text ≡ decimal n → IsPlain text
  plain_of n high e = rw e (decimal_is_plain n (omega (arith, high, fits)))

  pub not_plain : (IsPlain text → ⊥) → None ≡ number_between least most text
  not_plain never = sym (none_if (digits_value 10 text) (λ few many e. never (plain_of (digits_value 10 text) many e)))

  module _ {E : Type 0} (is_plain : IsPlain text) (r : Result ℕ E) (parses : ParsesUnsigned 32 10 text r) where
    plain : OkIff r (AllDigits 10 text × (0 < length text) × (digits_value 10 text < 2 ^ 32)) (digits_value 10 text)
    plain = parse_plain own 32 text r parses (unsigned text is_plain)

    pub parsed : (n : ℕ) → r ≡ Ok n → least ≤ n → n ≤ most → Some n ≡ number_between least most text
    parsed n is few many = go (rw is at plain)
      where
        go : (AllDigits 10 text × (0 < length text) × (digits_value 10 text < 2 ^ 32)) × (n ≡ digits_value 10 text) → Some n ≡ number_between least most text
        go f =
            let small : digits_value 10 text < 2 ^ 64 = omega (arith, f.0.2) in
            let decimal_is : decimal (digits_value 10 text) ≡ text = decimal-digits_value own text f.0.0 f.0.1 (alone text is_plain) small in
            rw f.1 (sym (some_if (digits_value 10 text) (omega (arith, f.1, few)) (omega (arith, f.1, many)) (sym decimal_is)))

    pub outside : (n : ℕ) → r ≡ Ok n → (n < least) ⊎ (most < n) → None ≡ number_between least most text
    outside n is out = go (rw is at plain)
      where
        never : n ≡ digits_value 10 text → (n < least) ⊎ (most < n) → least ≤ digits_value 10 text → digits_value 10 text ≤ most → ⊥
        never same (inl l) few many = omega (arith, same, l, few)
        never same (inr l) few many = omega (arith, same, l, many)

        go : (AllDigits 10 text × (0 < length text) × (digits_value 10 text < 2 ^ 32)) × (n ≡ digits_value 10 text) → None ≡ number_between least most text
        go f = sym (none_if (digits_value 10 text) (λ few many e. never f.1 out few many))

    pub unparsed : (e : E) → r ≡ Err e → None ≡ number_between least most text
    unparsed e is = sym (none_if (digits_value 10 text) never)
      where
        never : least ≤ digits_value 10 text → digits_value 10 text ≤ most → text ≡ decimal (digits_value 10 text) → ⊥
        never few many same =
            let numeral : IsNumeral 10 text = rw same (decimal_is_IsNumeral (digits_value 10 text) (omega (arith, many, fits))).0 in
            (rw is at plain) (numeral.1, numeral.0, omega (arith, many, fits))
