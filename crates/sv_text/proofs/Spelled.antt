-- A word, sign, number or ref of a canonical text is the token that it should be.
use Rattle.std.proofs.Common.{◌≡◌, ℕ, suc, ◌+◌, ◌-◌, ◌^◌, ◌<◌, inl, inr, Bool, true, false, cond, eqb, ℤ, pos, negsuc, int_le, List, [], ◌∷◌, ◌++◌, length, length-append, drop, get_or, refl, sym, ap, subst, ◌∙◌, arith, append_assoc, drop_at, decimal, rules}
use Rattle.std.specs.Prelude.{codes}
use Rattle.std.specs.Fmt.{signed_decimal}
use Rattle.std.specs.List.{take_while}
use Rattle.std.specs.Char.{is_ascii_digit, is_ascii_lowercase}
use Rattle.std.specs.Str.{all_ascii_digits}
use Rattle.std.proofs.lemmas.Bool.{and_parts, cases_lt, lt-ltb, leb-true, ne_eqb}
use Rattle.std.proofs.lemmas.Bool.Decides.{nat_tests}
use Rattle.std.proofs.lemmas.List.{get_or-append_right}
use Rattle.std.proofs.lemmas.List.Sums.{take_while-cons}
use Rattle.std.proofs.lemmas.Fmt.{decimal_nonempty, first_decimal, decimal_digit, digits_decimal, digits_value-decimal}
use Rattle.std.proofs.lemmas.Str.Parse.{IsNumeralModel, numerals_by_fold, tells_all_ascii_digits}
use Rattle.sv_text.specs.declared.token.Mark.{Mark}
use Rattle.sv_text.specs.declared.token.Mark.TheVariants as marks
use Rattle.sv_text.specs.declared.token.Token.{Token}
use Rattle.sv_text.specs.declared.token.Token.TheVariants as tokens
use Rattle.sv_text.specs.declared.token.Lexeme.{Lexeme}
use Rattle.sv_text.specs.Tokens.{is_blank, digits_at, value_after, value_of, has_leading_zero, number_of, word_of, sign_of, sign_at, ref_of, ref_at, word_at, positive_at, negative_at, token_at, is_joint, tokens_from}
use Rattle.sv_world.specs.Ranges.{is_i64}
use Rattle.sv_text.proofs.Lexing.{first, token_front}

-- the tokens of what is left of a text
abbrev pub toks : ℕ → Bool → List ℕ → List Lexeme
toks place glued bytes = tokens_from 0 place glued bytes

abbrev pub lexeme : ℕ → Bool → Token → Lexeme
lexeme place glued token = record { place = place; glued = glued; token = token }

-- what may follow a number
abbrev pub Stops : List ℕ → Type 0
Stops rest = is_ascii_digit (get_or rest 0 0) ≡ false

-- one token and what follows it
pub token_stands : (t rest : List ℕ) (token : Token) (b : ℕ) (more : List ℕ) → t ≡ b ∷ more → is_blank b ≡ false → token_at (t ++ rest) ≡ (token, length t)
    → (place : ℕ) (glued : Bool) → toks place glued (t ++ rest) ≡ lexeme place glued token ∷ toks (place + length t) (is_joint token) rest
token_stands t rest token b more is solid e place glued =
    let all = t ++ rest in
    let front : toks place glued all ≡ first place glued all ∷ toks (place + (token_at all).1) (is_joint (token_at all).0) (drop (token_at all).1 all) =
    subst (λ (s : List ℕ). toks place glued (s ++ rest) ≡ first place glued (s ++ rest) ∷ toks (place + (token_at (s ++ rest)).1) (is_joint (token_at (s ++ rest)).0) (drop (token_at (s ++ rest)).1 (s ++ rest)))
    (sym is) (token_front place glued b (more ++ rest) solid) in
    subst (λ (u : Token × ℕ). toks place glued all ≡ lexeme place glued u.0 ∷ toks (place + u.1) (is_joint u.0) (drop u.1 all)) e front
    ∙ ap (λ (r : List ℕ). lexeme place glued token ∷ toks (place + length t) (is_joint token) r) (drop_at t rest (length t) refl)

-- ---- words and signs

abbrev pub spelled : Mark → List ℕ
spelled marks.Reads = codes "reads"
spelled marks.Writes = codes "writes"
spelled marks.At = codes "at"
spelled marks.Set = codes "set"
spelled marks.If = codes "if"
spelled marks.Else = codes "else"
spelled marks.Min = codes "min"
spelled marks.Max = codes "max"
spelled marks.And = codes "and"
spelled marks.Or = codes "or"
spelled marks.Not = codes "not"
spelled marks.Other = []
spelled marks.Open = codes "("
spelled marks.Close = codes ")"
spelled marks.OpenTest = codes "["
spelled marks.CloseTest = codes "]"
spelled marks.OpenBlock = codes "{"
spelled marks.CloseBlock = codes "}"
spelled marks.Semicolon = codes ";"
spelled marks.Plus = codes "+"
spelled marks.Minus = codes "-"
spelled marks.Times = codes "*"
spelled marks.Divide = codes "/"
spelled marks.Remainder = codes "%"
spelled marks.Equal = codes "=="
spelled marks.LessEqual = codes "<="
spelled marks.Less = codes "<"
spelled marks.End = []

-- A word or sign before a space, and what follows that.
abbrev pub Spaced : Mark → ℕ → Bool → List ℕ → Type 0
Spaced m place glued rest = (next : ℕ) × (toks place glued (spelled m ++ 32 ∷ rest) ≡ lexeme place glued (tokens.Mark m) ∷ toks next false rest)

pub spaced_stands : (m : Mark) → 0 < length (spelled m) → (place : ℕ) (glued : Bool) (rest : List ℕ) → Spaced m place glued rest
unfolding tokens_from token_at word_at word_of sign_at sign_of is_joint
spaced_stands marks.Reads some place glued rest = (_, refl)
spaced_stands marks.Writes some place glued rest = (_, refl)
spaced_stands marks.At some place glued rest = (_, refl)
spaced_stands marks.Set some place glued rest = (_, refl)
spaced_stands marks.If some place glued rest = (_, refl)
spaced_stands marks.Else some place glued rest = (_, refl)
spaced_stands marks.Min some place glued rest = (_, refl)
spaced_stands marks.Max some place glued rest = (_, refl)
spaced_stands marks.And some place glued rest = (_, refl)
spaced_stands marks.Or some place glued rest = (_, refl)
spaced_stands marks.Not some place glued rest = (_, refl)
spaced_stands marks.Other some place glued rest = absurd (omega arith)
spaced_stands marks.Open some place glued rest = (_, refl)
spaced_stands marks.Close some place glued rest = (_, refl)
spaced_stands marks.OpenTest some place glued rest = (_, refl)
spaced_stands marks.CloseTest some place glued rest = (_, refl)
spaced_stands marks.OpenBlock some place glued rest = (_, refl)
spaced_stands marks.CloseBlock some place glued rest = (_, refl)
spaced_stands marks.Semicolon some place glued rest = (_, refl)
spaced_stands marks.Plus some place glued rest = (_, refl)
spaced_stands marks.Minus some place glued rest = (_, refl)
spaced_stands marks.Times some place glued rest = (_, refl)
spaced_stands marks.Divide some place glued rest = (_, refl)
spaced_stands marks.Remainder some place glued rest = (_, refl)
spaced_stands marks.Equal some place glued rest = (_, refl)
spaced_stands marks.LessEqual some place glued rest = (_, refl)
spaced_stands marks.Less some place glued rest = (_, refl)
spaced_stands marks.End some place glued rest = absurd (omega arith)

-- a bracket or semicolon, whatever follows it
abbrev pub is_bracket : Mark → Bool
is_bracket marks.Open = true
is_bracket marks.Close = true
is_bracket marks.OpenTest = true
is_bracket marks.CloseTest = true
is_bracket marks.OpenBlock = true
is_bracket marks.CloseBlock = true
is_bracket marks.Semicolon = true
is_bracket _ = false

pub bracket_stands : (m : Mark) → is_bracket m ≡ true → (place : ℕ) (glued : Bool) (rest : List ℕ) → toks place glued (spelled m ++ rest) ≡ lexeme place glued (tokens.Mark m) ∷ toks (place + 1) false rest
unfolding tokens_from token_at sign_at sign_of is_joint
bracket_stands marks.Open is place glued rest = refl
bracket_stands marks.Close is place glued rest = refl
bracket_stands marks.OpenTest is place glued rest = refl
bracket_stands marks.CloseTest is place glued rest = refl
bracket_stands marks.OpenBlock is place glued rest = refl
bracket_stands marks.CloseBlock is place glued rest = refl
bracket_stands marks.Semicolon is place glued rest = refl
bracket_stands _ is place glued rest = absurd cc

-- ---- numbers

own : IsNumeralModel (λ ds. all_ascii_digits ds ≡ true) value_of
own = numerals_by_fold _ tells_all_ascii_digits value_after (search rules)

-- the digits before what is no digit
run_of_digits : (ds rest : List ℕ) → all_ascii_digits ds ≡ true → Stops rest → take_while is_ascii_digit (ds ++ rest) ≡ ds
run_of_digits [] [] digits stop = refl
run_of_digits [] (b ∷ bs) digits stop = take_while-cons is_ascii_digit b bs ∙ ap (λ (t : Bool). cond t (b ∷ take_while is_ascii_digit bs) []) stop
run_of_digits (c ∷ cs) rest digits stop =
    let parts = and_parts (is_ascii_digit c) (all_ascii_digits cs) digits in
    take_while-cons is_ascii_digit c (cs ++ rest)
    ∙ ap (λ (t : Bool). cond t (c ∷ take_while is_ascii_digit (cs ++ rest)) []) parts.0
    ∙ ap (λ (l : List ℕ). c ∷ l) (run_of_digits cs rest parts.1 stop)

no_letter : (c : ℕ) → is_ascii_digit c ≡ true → is_ascii_lowercase c ≡ false
no_letter c h = grind (arith, nat_tests)

no_blank : (c : ℕ) → is_ascii_digit c ≡ true → is_blank c ≡ false
no_blank c h = grind (arith, nat_tests)

starts_number : (bs : List ℕ) → is_ascii_digit (get_or bs 0 0) ≡ true → token_at bs ≡ positive_at bs
unfolding token_at
starts_number bs digit = rw (no_letter (get_or bs 0 0) digit, digit) refl

starts_negative : (bs : List ℕ) → get_or bs 0 0 ≡ 45 → is_ascii_digit (get_or bs 1 0) ≡ true → token_at bs ≡ negative_at bs
unfolding token_at
starts_negative bs minus digit = rw (minus, digit) refl

digits_token : (ds rest : List ℕ) → all_ascii_digits ds ≡ true → 0 < length ds → Stops rest → token_at (ds ++ rest) ≡ (number_of false ds, length ds)
unfolding positive_at
digits_token [] rest digits some stop = absurd (omega arith)
digits_token (c ∷ cs) rest digits some stop =
    starts_number (c ∷ (cs ++ rest)) (and_parts (is_ascii_digit c) (all_ascii_digits cs) digits).0
    ∙ ap (λ (l : List ℕ). let r : Token × ℕ = (number_of false l, length l) in r) (run_of_digits (c ∷ cs) rest digits stop)

minus_token : (ds rest : List ℕ) → all_ascii_digits ds ≡ true → 0 < length ds → Stops rest → token_at (45 ∷ (ds ++ rest)) ≡ (number_of true ds, suc (length ds))
unfolding negative_at
minus_token [] rest digits some stop = absurd (omega arith)
minus_token (c ∷ cs) rest digits some stop =
    starts_negative (45 ∷ c ∷ (cs ++ rest)) refl (and_parts (is_ascii_digit c) (all_ascii_digits cs) digits).0
    ∙ ap (λ (l : List ℕ). let r : Token × ℕ = (number_of true l, 1 + length l) in r) (run_of_digits (c ∷ cs) rest digits stop)
    ∙ ap (λ (n : ℕ). let r : Token × ℕ = (number_of true (c ∷ cs), n) in r) (let e : 1 + length (c ∷ cs) ≡ suc (length (c ∷ cs)) = omega arith in e)

-- no number is written with a zero before it
pub no_leading_zero : (n : ℕ) → n < 2 ^ 64 → has_leading_zero (decimal n) ≡ false
no_leading_zero n small = elim (cases_lt n 10) [
  | inl one ↦ (let len : length (decimal n) ≡ 1 = ap length (decimal_digit n one) in rw len (grind (arith, nat_tests)))
  | inr more ↦ (let high = first_decimal n (omega arith) small in let other : eqb (get_or (decimal n) 0 0) 48 ≡ false = ne_eqb (get_or (decimal n) 0 0) 48 (λ e. omega arith) in rw other refl)
]

pub value_of_decimal : (n : ℕ) → n < 2 ^ 64 → value_of (decimal n) ≡ n
value_of_decimal n small = digits_value-decimal own n small

pub decimal_digits : (n : ℕ) → n < 2 ^ 64 → all_ascii_digits (decimal n) ≡ true
decimal_digits n small = digits_decimal own n small

positive_number : (n : ℕ) → n < 9223372036854775808 → number_of false (decimal n) ≡ tokens.Number (pos n)
unfolding number_of
positive_number n small = rw (no_leading_zero n (omega arith), value_of_decimal n (omega arith), lt-ltb n 9223372036854775808 small) refl

negative_number : (n : ℕ) → n < 9223372036854775808 → number_of true (decimal (suc n)) ≡ tokens.Number (negsuc n)
unfolding number_of
negative_number n small = rw (no_leading_zero (suc n) (omega arith), value_of_decimal (suc n) (omega arith), lt-ltb n 9223372036854775808 small) refl

-- a list that has something, by its first
split : (l : List ℕ) → 0 < length l → (b : ℕ) × (more : List ℕ) × (l ≡ b ∷ more)
split [] some = absurd (omega arith)
split (b ∷ more) some = (b, more, refl)

first_digit : (ds : List ℕ) (b : ℕ) (more : List ℕ) → ds ≡ b ∷ more → all_ascii_digits ds ≡ true → is_ascii_digit b ≡ true
first_digit ds b more is digits = (and_parts (is_ascii_digit b) (all_ascii_digits more) (subst (λ (l : List ℕ). all_ascii_digits l ≡ true) is digits)).0

pub number_stands : (z : ℤ) (rest : List ℕ) → is_i64 z ≡ true → Stops rest → (place : ℕ) (glued : Bool)
    → toks place glued (signed_decimal z ++ rest) ≡ lexeme place glued (tokens.Number z) ∷ toks (place + length (signed_decimal z)) true rest
unfolding is_joint
number_stands (pos n) rest fits stop place glued =
    let small : n < 9223372036854775808 = omega (arith, leb-true n 9223372036854775807 fits) in
    let parts = split (decimal n) (decimal_nonempty n (omega arith)) in
    let digits = decimal_digits n (omega arith) in
    token_stands (decimal n) rest (tokens.Number (pos n)) parts.0 parts.1 parts.2 (no_blank parts.0 (first_digit (decimal n) parts.0 parts.1 parts.2 digits))
    (digits_token (decimal n) rest digits (decimal_nonempty n (omega arith)) stop ∙ ap (λ (t : Token). let r : Token × ℕ = (t, length (decimal n)) in r) (positive_number n small)) place glued
number_stands (negsuc n) rest fits stop place glued =
    let low = (and_parts (int_le (negsuc 9223372036854775807) (negsuc n)) (int_le (negsuc n) (pos 9223372036854775807)) fits).0 in
    let small : n < 9223372036854775808 = omega (arith, leb-true n 9223372036854775807 low) in
    let digits = decimal_digits (suc n) (omega arith) in
    token_stands (45 ∷ decimal (suc n)) rest (tokens.Number (negsuc n)) 45 (decimal (suc n)) refl refl
    (minus_token (decimal (suc n)) rest digits (decimal_nonempty (suc n) (omega arith)) stop
    ∙ ap (λ (t : Token). let r : Token × ℕ = (t, length (45 ∷ decimal (suc n))) in r) (negative_number n small)) place glued

-- ---- refs

abbrev pub ref_bytes : ℕ → ℕ → List ℕ
ref_bytes object attr = 64 ∷ (decimal object ++ (46 ∷ decimal attr))

ref_token : (object attr : ℕ) (rest : List ℕ) → object < 65536 → attr < 256 → Stops rest → token_at (64 ∷ (decimal object ++ (46 ∷ (decimal attr ++ rest)))) ≡ (tokens.Ref object attr, 2 + length (decimal object) + length (decimal attr))
unfolding token_at ref_at ref_of
ref_token object attr rest low few stop =
    let os = decimal object in
    let attrs = decimal attr in
    let behind = attrs ++ rest in
    let tail = os ++ (46 ∷ behind) in
    let one : digits_at 1 (64 ∷ tail) ≡ os = run_of_digits os (46 ∷ behind) (decimal_digits object (omega arith)) refl in
    let next : drop (2 + length os) (64 ∷ tail) ≡ behind =
    ap (λ (l : List ℕ). drop (2 + length os) (64 ∷ l)) (sym (append_assoc os (46 ∷ []) behind)) ∙ drop_at (64 ∷ (os ++ (46 ∷ []))) behind (2 + length os) (omega (arith, length-append os (46 ∷ []))) in
    let two : digits_at (2 + length os) (64 ∷ tail) ≡ attrs = ap (take_while is_ascii_digit) next ∙ run_of_digits attrs rest (decimal_digits attr (omega arith)) stop in
    let dot : get_or (64 ∷ tail) (1 + length os) 0 ≡ 46 =
    get_or-append_right (64 ∷ os) (46 ∷ behind) (1 + length os) (1 + length os) 0 (omega arith) (omega arith) ∙ (let e : 1 + length os - (1 + length os) ≡ 0 = omega arith in ap (λ (k : ℕ). get_or (46 ∷ behind) k 0) e) in
    rw (
      one,
      two,
      dot,
      lt-ltb 0 (length os) (decimal_nonempty object (omega arith)),
      lt-ltb 0 (length attrs) (decimal_nonempty attr (omega arith)),
      no_leading_zero object (omega arith),
      no_leading_zero attr (omega arith),
      value_of_decimal object (omega arith),
      value_of_decimal attr (omega arith),
      lt-ltb object 65536 low,
      lt-ltb attr 256 few,
    ) refl

pub ref_stands : (object attr : ℕ) (rest : List ℕ) → object < 65536 → attr < 256 → Stops rest → (place : ℕ) (glued : Bool)
    → (next : ℕ) × (toks place glued (ref_bytes object attr ++ rest) ≡ lexeme place glued (tokens.Ref object attr) ∷ toks next false rest)
unfolding is_joint
ref_stands object attr rest low few stop place glued =
    let os = decimal object in
    let attrs = decimal attr in
    let t = ref_bytes object attr in
    let len : length t ≡ 2 + length os + length attrs = omega (arith, length-append os (46 ∷ attrs)) in
    let regrouped : t ++ rest ≡ 64 ∷ (os ++ (46 ∷ (attrs ++ rest))) = ap (λ (l : List ℕ). 64 ∷ l) (append_assoc os (46 ∷ attrs) rest) in (
      place + length t,
      token_stands t rest (tokens.Ref object attr) 64 (os ++ (46 ∷ attrs)) refl refl
          (ap token_at regrouped ∙ ref_token object attr rest low few stop ∙ ap (λ (n : ℕ). let r : Token × ℕ = (tokens.Ref object attr, n) in r) (sym len)) place glued,
    )
