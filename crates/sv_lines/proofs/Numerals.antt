-- What the readers of numbers answer, and that each number is read.
use Rattle.std.proofs.Common.{◌≡◌, ℕ, zero, suc, ◌+◌, ◌^◌, ◌<◌, ◌≤◌, ltb, eqb, Bool, true, false, ◌&&◌, cond, ℤ, pos, negsuc, List, [], ◌∷◌, ◌++◌, length, take, drop, get_or, Some, None, Result, Ok, Err, refl, sym, ap, subst, ◌∙◌, arith, true≢false, decimal, drop_at}
use Rattle.std.specs.Borrow.{Bor}
use Rattle.std.specs.Prelude.{neg_ℤ, FitsSigned, Option, MatchOption}
use Rattle.std.specs.Fmt.{signed_decimal}
use Rattle.std.specs.Int.{w64}
use Rattle.std.specs.Char.{is_ascii_digit}
use Rattle.std.specs.List.{prefix_len, AllByRecursion}
use Rattle.std.specs.Result.{OkIff}
use Rattle.std.specs.Str.{IsUtf8, all_ascii_digits}
use Rattle.std.specs.Str.Parse.{IsNumeral, without_leading_sign, signed_digits_value, digits_value, ParsesUnsigned, ParsesSigned}
use Rattle.std.proofs.Math.Seq.{take-append_seam}
use Rattle.std.proofs.lemmas.Bool.{and_parts, lt-ltb, ltb-true, eq-eqb, ne_eqb, eqb-true}
use Rattle.std.proofs.lemmas.Bool.Decides.{nat_tests}
use Rattle.std.proofs.lemmas.Fmt.{decimal_nonempty, digits_value-decimal}
use Rattle.std.proofs.lemmas.List.Elements.{All-from_recursion}
use Rattle.std.proofs.lemmas.Str.{IsUtf8-from_ascii}
use Rattle.std.proofs.lemmas.Str.Ascii.{IsAscii-from_all}
use Rattle.std.proofs.lemmas.Str.Parse.{IsNumeralModel, numerals_by_value, tells_all_ascii_digits, parse_plain, parse_signed_minus, parse_signed_plain}
use Rattle.sv_text.proofs.Spelled.{decimal_digits}
use Rattle.sv_lines.specs.Reading.{is_numeric, numeral, behind_numeral, behind_front, is_number, natural, integer, number_read, signed_read}
use Rattle.sv_lines.proofs.Splitting.{all_pass, decimal_passes, Ends}
use Rattle.sv_lines.proofs.Telling.{IsI64, signed_passes, digit_numeric}

-- ---- Known bytes

pub front_there : (p rest : List ℕ) → behind_front p (p ++ rest) ≡ Some rest
unfolding behind_front
front_there [] rest = refl
front_there (b ∷ bs) rest = rw (eq-eqb b b refl) (front_there bs rest)

pub front_missing : (p s : List ℕ) → ((rest : List ℕ) → s ≡ p ++ rest → ⊥) → behind_front p s ≡ None
unfolding behind_front
front_missing [] s n = absurd (n s refl)
front_missing (b ∷ bs) [] n = refl
front_missing (b ∷ bs) (c ∷ cs) n = go (eqb b c) refl (front_missing bs cs)
  where
    go : (t : Bool) → eqb b c ≡ t → (((rest : List ℕ) → cs ≡ bs ++ rest → ⊥) → behind_front bs cs ≡ None) → cond t (behind_front bs cs) None ≡ None
    go true i more =
        let same : b ≡ c = eqb-true b c i in
        more (λ rest e. n rest (ap (λ (l : List ℕ). c ∷ l) e ∙ ap (λ (d : ℕ). d ∷ (bs ++ rest)) (sym same)))
    go false i more = refl

pub front_found : (s p : List ℕ) (r : Option (Bor (List ℕ))) → MatchOption r ((rest : List ℕ) → s ≡ p ++ rest → ⊥) (λ x. s ≡ p ++ x.now) →
    MatchOption r (behind_front p s ≡ None) (λ x. behind_front p s ≡ Some x.now)
front_found s p (Some x) h = ap (behind_front p) h ∙ front_there p x.now
front_found s p None h = front_missing p s h

-- ---- The first bytes of a class

low_front : (p : ℕ → Bool) → ((c : ℕ) → p c ≡ true → c < 128) → (text : List ℕ) (k : ℕ) → k ≤ prefix_len p text → AllByRecursion (λ (b : ℕ). b < 128) (take k text)
low_front p low [] zero h = tt
low_front p low [] (suc k) h = tt
low_front p low (c ∷ cs) zero h = tt
low_front p low (c ∷ cs) (suc k) h = go (p c) refl h (low_front p low cs k)
  where
    go : (b : Bool) → p c ≡ b → suc k ≤ cond b (1 + prefix_len p cs) 0 → (k ≤ prefix_len p cs → AllByRecursion (λ (b : ℕ). b < 128) (take k cs)) → (c < 128) × AllByRecursion (λ (b : ℕ). b < 128) (take k cs)
    go true i g more = (low c i, more (omega (arith, g)))
    go false i g more = absurd (omega (arith, g))

-- The first bytes of a class of ASCII are a text.
pub front_is_text : (p : ℕ → Bool) → ((c : ℕ) → p c ≡ true → c < 128) → (text : List ℕ) (k : ℕ) → k ≤ prefix_len p text → IsUtf8 (take k text)
front_is_text p low text k h = IsUtf8-from_ascii (take k text) (IsAscii-from_all (take k text) (All-from_recursion (λ (b : ℕ). b < 128) (take k text) (low_front p low text k h)))

numeric_low : (c : ℕ) → is_numeric c ≡ true → c < 128
numeric_low c h = grind (arith, nat_tests)

pub numeral_is_text : (text : List ℕ) → IsUtf8 (numeral text)
numeral_is_text text = front_is_text is_numeric numeric_low text (prefix_len is_numeric text) (omega arith)

pub front_stops : (p : ℕ → Bool) (s rest : List ℕ) → all_pass p s ≡ true → Ends p rest → prefix_len p (s ++ rest) ≡ length s
front_stops p [] [] f stop = refl
front_stops p [] (c ∷ rest) f stop = rw stop refl
front_stops p (c ∷ s) rest f stop =
    let parts = and_parts (p c) (all_pass p s) f in
    rw parts.0 (omega (arith, front_stops p s rest parts.1 stop))

pub numeral_of : (s rest : List ℕ) → all_pass is_numeric s ≡ true → Ends is_numeric rest → numeral (s ++ rest) ≡ s
numeral_of s rest f stop = ap (λ (n : ℕ). take n (s ++ rest)) (front_stops is_numeric s rest f stop) ∙ take-append_seam s rest

pub behind_of : (s rest : List ℕ) → all_pass is_numeric s ≡ true → Ends is_numeric rest → behind_numeral (s ++ rest) ≡ rest
behind_of s rest f stop = ap (λ (n : ℕ). drop n (s ++ rest)) (front_stops is_numeric s rest f stop) ∙ drop_at s rest (length s) refl

-- ---- What `parse` answers

own : IsNumeralModel (λ ds. all_ascii_digits ds ≡ true) (digits_value 10)
own = numerals_by_value (λ ds. all_ascii_digits ds ≡ true) tells_all_ascii_digits

abbrev Digits : ℕ → List ℕ → Type 0
Digits bound ds = (all_ascii_digits ds ≡ true) × (0 < length ds) × (digits_value 10 ds < bound)

number_true : (bound : ℕ) (ds : List ℕ) → Digits bound ds → is_number bound ds ≡ true
number_true bound ds f = rw (f.0, lt-ltb 0 (length ds) f.1, lt-ltb (digits_value 10 ds) bound f.2) refl

number_told : (bound : ℕ) (ds : List ℕ) → is_number bound ds ≡ true → Digits bound ds
number_told bound ds h =
    let one = and_parts (all_ascii_digits ds) (ltb 0 (length ds) && ltb (digits_value 10 ds) bound) h in
    let two = and_parts (ltb 0 (length ds)) (ltb (digits_value 10 ds) bound) one.1 in
    (one.0, ltb-true 0 (length ds) two.0, ltb-true (digits_value 10 ds) bound two.1)

-- An answer that is Ok exactly at a number, by the test of it.
module _ {T E : Type 0} (bound : ℕ) (ds : List ℕ) (value : T) where
  told_ok : (r : Result T E) (x : T) → OkIff r (Digits bound ds) value → r ≡ Ok x → cond (is_number bound ds) (Some value) None ≡ Some x
  told_ok r x iff is = go (subst (λ (q : Result T E). OkIff q (Digits bound ds) value) is iff)
    where
      go : Digits bound ds × (x ≡ value) → cond (is_number bound ds) (Some value) None ≡ Some x
      go h = rw (number_true bound ds h.0) (ap Some (sym h.1))

  told_err : (r : Result T E) (e : E) → OkIff r (Digits bound ds) value → r ≡ Err e → cond (is_number bound ds) (Some value) None ≡ None
  told_err r e iff is = go (is_number bound ds) refl
    where
      go : (b : Bool) → is_number bound ds ≡ b → cond b (Some value) None ≡ None
      go true i = absurd ((subst (λ (q : Result T E). OkIff q (Digits bound ds) value) is iff) (number_told bound ds i))
      go false i = refl

-- Where a numeral stands first there is no plus.
no_plus : (text : List ℕ) → get_or (numeral text) 0 0 ≡ 43 → ⊥
no_plus [] e = omega (arith, e)
no_plus (c ∷ cs) e = go (is_numeric c) refl e
  where
    first : (n : ℕ) → get_or (take (1 + n) (c ∷ cs)) 0 0 ≡ c
    first n = (let one : 1 + n ≡ suc n = omega arith in rw one refl)

    go : (b : Bool) → is_numeric c ≡ b → get_or (take (cond b (1 + prefix_len is_numeric cs) 0) (c ∷ cs)) 0 0 ≡ 43 → ⊥
    go true i g = true≢false (sym i ∙ ap is_numeric (sym (first (prefix_len is_numeric cs)) ∙ g))
    go false i g = omega (arith, g)

module _ (text ds rest : List ℕ) (front : ds ≡ numeral text) (behind : rest ≡ behind_numeral text) where
  plus_free : get_or ds 0 0 ≡ 43 → ⊥
  plus_free e = no_plus text (ap (λ (l : List ℕ). get_or l 0 0) (sym front) ∙ e)

  module _ {E : Type 0} (k : ℕ) (r : Result ℕ E) (parses : ParsesUnsigned k 10 ds r) where
    iff : OkIff r (Digits (2 ^ k) ds) (digits_value 10 ds)
    iff = parse_plain own k ds r parses plus_free

    pub number_ok : (n : ℕ) → r ≡ Ok n → Some (n, rest) ≡ number_read (2 ^ k) text
    unfolding number_read natural
    number_ok n is = rw (← front, ← behind, told_ok (2 ^ k) ds (digits_value 10 ds) r n iff is) refl

    pub number_err : (e : E) → r ≡ Err e → None ≡ number_read (2 ^ k) text
    unfolding number_read natural
    number_err e is = rw (← front, told_err (2 ^ k) ds (digits_value 10 ds) r e iff is) refl

  module _ {E : Type 0} (r : Result ℤ E) (parses : ParsesSigned w64 10 ds r) where
    lower : (q : Result ℤ E) (xs : List ℕ) (value : ℤ) → OkIff q ((all_ascii_digits xs ≡ true) × (0 < length xs) × (digits_value 10 xs ≤ 2 ^ 63)) value → OkIff q (Digits (2 ^ 63 + 1) xs) value
    lower (Ok x) xs value h = ((h.0.0, h.0.1, omega (arith, h.0.2)), h.1)
    lower (Err e) xs value h = λ d. h (d.0, d.1, omega (arith, d.2))

    minus : get_or ds 0 0 ≡ 45 → OkIff r (Digits (2 ^ 63 + 1) (drop 1 ds)) (neg_ℤ (pos (digits_value 10 (drop 1 ds))))
    minus e = lower r (drop 1 ds) _ (parse_signed_minus own w64 ds r parses e)

    plain : (get_or ds 0 0 ≡ 45 → ⊥) → OkIff r (Digits (2 ^ 63) ds) (pos (digits_value 10 ds))
    plain n = parse_signed_plain own w64 ds r parses plus_free n

    integer_ok : (z : ℤ) → r ≡ Ok z → (b : Bool) → eqb (get_or ds 0 0) 45 ≡ b → integer ds ≡ Some z
    unfolding integer
    integer_ok z is true i = rw i (told_ok (2 ^ 63 + 1) (drop 1 ds) (neg_ℤ (pos (digits_value 10 (drop 1 ds)))) r z (minus (eqb-true (get_or ds 0 0) 45 i)) is)
    integer_ok z is false i = rw i (told_ok (2 ^ 63) ds (pos (digits_value 10 ds)) r z (plain (λ e. true≢false (sym (eq-eqb (get_or ds 0 0) 45 e) ∙ i))) is)

    integer_err : (f : E) → r ≡ Err f → (b : Bool) → eqb (get_or ds 0 0) 45 ≡ b → integer ds ≡ None
    unfolding integer
    integer_err f is true i = rw i (told_err (2 ^ 63 + 1) (drop 1 ds) (neg_ℤ (pos (digits_value 10 (drop 1 ds)))) r f (minus (eqb-true (get_or ds 0 0) 45 i)) is)
    integer_err f is false i = rw i (told_err (2 ^ 63) ds (pos (digits_value 10 ds)) r f (plain (λ e. true≢false (sym (eq-eqb (get_or ds 0 0) 45 e) ∙ i))) is)

    pub signed_long : (z : ℤ) → r ≡ Ok z → FitsSigned w64 z
    signed_long z is = go (subst (λ (q : Result ℤ E). ParsesSigned w64 10 ds q) is parses)
      where
        go : (IsNumeral 10 (without_leading_sign ds) × FitsSigned w64 (signed_digits_value 10 ds)) × (z ≡ signed_digits_value 10 ds) → FitsSigned w64 z
        go h = subst (FitsSigned w64) (sym h.1) h.0.1

    pub signed_ok : (z : ℤ) → r ≡ Ok z → Some (z, rest) ≡ signed_read text
    unfolding signed_read
    signed_ok z is = rw (← front, ← behind, integer_ok z is (eqb (get_or ds 0 0) 45) refl) refl

    pub signed_err : (f : E) → r ≡ Err f → None ≡ signed_read text
    unfolding signed_read
    signed_err f is = rw (← front, integer_err f is (eqb (get_or ds 0 0) 45) refl) refl

-- ---- Each number is read

-- A thing is read where its text stands, whatever comes behind it that does not go on with it.
abbrev pub IsRead : {A : Type 0} → (A → Type 0) → (A → List ℕ) → (List ℕ → Type 0) → (List ℕ → Option (A × List ℕ)) → Type 0
IsRead {A} P text LineStop reader = (a : A) (rest : List ℕ) → P a → LineStop rest → reader (text a ++ rest) ≡ Some (a, rest)

abbrev pub NoNumber : List ℕ → Type 0
NoNumber rest = Ends is_numeric rest

natural_is : (bound n : ℕ) → bound ≤ 2 ^ 64 → n < bound → Digits bound (decimal n)
natural_is bound n wide low =
    let small : n < 2 ^ 64 = omega (arith, wide, low) in
    (decimal_digits n small, decimal_nonempty n small, omega (arith, digits_value-decimal own n small, low))

pub number_is_read : (bound : ℕ) → bound ≤ 2 ^ 64 → IsRead (λ n. n < bound) decimal NoNumber (number_read bound)
unfolding number_read natural
number_is_read bound wide n rest low stop =
    let small : n < 2 ^ 64 = omega (arith, wide, low) in
    let passes = decimal_passes is_numeric digit_numeric n small in
    rw (numeral_of (decimal n) rest passes stop, behind_of (decimal n) rest passes stop, number_true bound (decimal n) (natural_is bound n wide low), digits_value-decimal own n small) refl

first_digit : (ds : List ℕ) → all_ascii_digits ds ≡ true → get_or ds 0 0 ≡ 45 → ⊥
first_digit [] f e = omega (arith, e)
first_digit (c ∷ cs) f e = true≢false (sym (and_parts (is_ascii_digit c) (all_ascii_digits cs) f).0 ∙ ap is_ascii_digit e)

integer_of : (z : ℤ) → IsI64 z → integer (signed_decimal z) ≡ Some z
unfolding integer
integer_of (pos n) f =
    let small : n < 2 ^ 64 = omega (arith, f) in
    rw (ne_eqb (get_or (decimal n) 0 0) 45 (first_digit (decimal n) (decimal_digits n small)), number_true (2 ^ 63) (decimal n) (natural_is (2 ^ 63) n (omega arith) f), digits_value-decimal own n small) refl
integer_of (negsuc n) f =
    let small : suc n < 2 ^ 64 = omega (arith, f) in
    rw (number_true (2 ^ 63 + 1) (decimal (suc n)) (natural_is (2 ^ 63 + 1) (suc n) (omega arith) (omega (arith, f))), digits_value-decimal own (suc n) small) refl

pub signed_is_read : IsRead IsI64 signed_decimal NoNumber signed_read
unfolding signed_read
signed_is_read z rest f stop =
    let passes = signed_passes z f in
    rw (numeral_of (signed_decimal z) rest passes stop, behind_of (signed_decimal z) rest passes stop, integer_of z f) refl
