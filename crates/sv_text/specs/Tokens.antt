-- The tokens that a text consists of. Where a token is asked for, the longest that fits is meant.
use Rattle.std.specs.Prelude.{ℕ, zero, suc, ◌+◌, ◌-◌, ◌*◌, pos, negsuc, Bool, true, false, cond, ◌&&◌, ◌||◌, nat_lt, nat_eq, ◌==◌, List, [], ◌∷◌, length, drop, slice_index, codes}
use Rattle.std.specs.Cmp.Lexicographic.{pointwise}
use Rattle.std.specs.List.{prefix_len, take_while}
use Rattle.std.specs.Char.{is_ascii_digit, is_ascii_lowercase}
use Rattle.sv_text.specs.declared.fault.TextCause.TheVariants as causes
use Rattle.sv_text.specs.declared.token.Mark.{Mark}
use Rattle.sv_text.specs.declared.token.Mark.TheVariants as marks
use Rattle.sv_text.specs.declared.token.Token.{Token}
use Rattle.sv_text.specs.declared.token.Token.TheVariants as tokens
use Rattle.sv_text.specs.declared.token.Lexeme.{Lexeme}

abbrev pub is_blank : ℕ → Bool
is_blank b = (b == 32) || (b == 9) || (b == 13) || (b == 10)

-- the digits that stand from a place on
abbrev pub digits_at : ℕ → List ℕ → List ℕ
digits_at at bs = take_while is_ascii_digit (drop at bs)

-- the number that digits write when they follow those of n
abbrev pub value_after : ℕ → List ℕ → ℕ
value_after n [] = n
value_after n (d ∷ ds) = value_after (10 * n + (d - 48)) ds

abbrev pub value_of : List ℕ → ℕ
value_of ds = value_after 0 ds

-- digits have no leading zero, other than in `0` itself
abbrev pub has_leading_zero : List ℕ → Bool
has_leading_zero ds = (slice_index ds 0 == 48) && nat_lt 1 (length ds)

abbrev pub positive : ℕ → Token
positive n = cond (nat_lt n 9223372036854775808) (tokens.Number (pos n)) tokens.Wide

-- `-0` is not written
abbrev pub negative : ℕ → Token
negative zero = tokens.Bad causes.Number
negative (suc n) = cond (nat_lt n 9223372036854775808) (tokens.Number (negsuc n)) tokens.Wide

-- digits, behind a minus or not
unfoldable pub number_of : Bool → List ℕ → Token
number_of is_negative ds = cond (has_leading_zero ds) (tokens.Bad causes.Number) (cond is_negative (negative (value_of ds)) (positive (value_of ds)))

abbrev pub is_text : List ℕ → List ℕ → Bool
is_text run word = pointwise nat_eq run word

unfoldable pub word_of : List ℕ → Mark
word_of run =
    cond (is_text run (codes "reads")) marks.Reads
    (cond (is_text run (codes "writes")) marks.Writes
    (cond (is_text run (codes "at")) marks.At
    (cond (is_text run (codes "set")) marks.Set
    (cond (is_text run (codes "if")) marks.If
    (cond (is_text run (codes "else")) marks.Else
    (cond (is_text run (codes "min")) marks.Min
    (cond (is_text run (codes "max")) marks.Max
    (cond (is_text run (codes "and")) marks.And
    (cond (is_text run (codes "or")) marks.Or
    (cond (is_text run (codes "not")) marks.Not
    marks.Other))))))))))

-- a sign of one byte that begins no longer one
unfoldable pub sign_of : ℕ → Token
sign_of b =
    cond (b == 40) (tokens.Mark marks.Open)
    (cond (b == 41) (tokens.Mark marks.Close)
    (cond (b == 91) (tokens.Mark marks.OpenTest)
    (cond (b == 93) (tokens.Mark marks.CloseTest)
    (cond (b == 123) (tokens.Mark marks.OpenBlock)
    (cond (b == 125) (tokens.Mark marks.CloseBlock)
    (cond (b == 59) (tokens.Mark marks.Semicolon)
    (cond (b == 43) (tokens.Mark marks.Plus)
    (cond (b == 45) (tokens.Mark marks.Minus)
    (cond (b == 42) (tokens.Mark marks.Times)
    (cond (b == 47) (tokens.Mark marks.Divide)
    (cond (b == 37) (tokens.Mark marks.Remainder)
    (tokens.Bad causes.Character))))))))))))

-- a token at the front of the bytes, and how many bytes it has
unfoldable pub sign_at : List ℕ → Token × ℕ
sign_at bs =
    cond (slice_index bs 0 == 61) (cond (slice_index bs 1 == 61) (tokens.Mark marks.Equal, 2) (tokens.Bad causes.Character, 1))
    (cond (slice_index bs 0 == 60) (cond (slice_index bs 1 == 61) (tokens.Mark marks.LessEqual, 2) (tokens.Mark marks.Less, 1))
    (sign_of (slice_index bs 0), 1))

abbrev pub small_ref : ℕ → ℕ → Token
small_ref object attr = cond (nat_lt object 65536 && nat_lt attr 256) (tokens.Ref object attr) (tokens.Bad causes.Number)

-- a ref by the digits of its object and of its attribute
unfoldable pub ref_of : List ℕ → List ℕ → Token
ref_of object attr =
    cond (has_leading_zero object || has_leading_zero attr) (tokens.Bad causes.Number)
    (small_ref (value_of object) (value_of attr))

unfoldable pub ref_at : List ℕ → Token × ℕ
ref_at bs =
    let object = digits_at 1 bs in
    let attr = digits_at (2 + length object) bs in
    cond (nat_lt 0 (length object) && (slice_index bs (1 + length object) == 46) && nat_lt 0 (length attr))
    (ref_of object attr, 2 + length object + length attr)
    (tokens.Bad causes.Character, 1)

unfoldable pub word_at : List ℕ → Token × ℕ
word_at bs = (tokens.Mark (word_of (take_while is_ascii_lowercase bs)), prefix_len is_ascii_lowercase bs)

unfoldable pub positive_at : List ℕ → Token × ℕ
positive_at bs = (number_of false (digits_at 0 bs), length (digits_at 0 bs))

unfoldable pub negative_at : List ℕ → Token × ℕ
negative_at bs = (number_of true (digits_at 1 bs), 1 + length (digits_at 1 bs))

-- a minus that a digit directly follows starts a number
unfoldable pub token_at : List ℕ → Token × ℕ
token_at bs =
    cond (is_ascii_lowercase (slice_index bs 0)) (word_at bs)
    (cond (is_ascii_digit (slice_index bs 0)) (positive_at bs)
    (cond ((slice_index bs 0 == 45) && is_ascii_digit (slice_index bs 1)) (negative_at bs)
    (cond (slice_index bs 0 == 64) (ref_at bs)
    (sign_at bs))))

abbrev pub is_word : Mark → Bool
is_word marks.Reads = true
is_word marks.Writes = true
is_word marks.At = true
is_word marks.Set = true
is_word marks.If = true
is_word marks.Else = true
is_word marks.Min = true
is_word marks.Max = true
is_word marks.And = true
is_word marks.Or = true
is_word marks.Not = true
is_word marks.Other = true
is_word _ = false

-- a word or number, which another one may not directly follow
unfoldable pub is_joint : Token → Bool
is_joint (tokens.Number z) = true
is_joint tokens.Wide = true
is_joint (tokens.Ref object attr) = false
is_joint (tokens.Mark m) = is_word m
is_joint (tokens.Bad cause) = false

-- The tokens of what is left of a text: so many bytes to skip, which belong to the token before; the place of the first byte that is
-- left; whether a word or number stands directly before it.
unfoldable pub tokens_from : ℕ → ℕ → Bool → List ℕ → List Lexeme
tokens_from skip place glued [] = record { place = place; glued = glued; token = tokens.Mark marks.End } ∷ []
tokens_from (suc skip) place glued (b ∷ bs) = tokens_from skip (place + 1) glued bs
tokens_from zero place glued (b ∷ bs) =
    cond (is_blank b) (tokens_from 0 (place + 1) false bs)
    (record { place = place; glued = glued; token = (token_at (b ∷ bs)).0 } ∷ tokens_from ((token_at (b ∷ bs)).1 - 1) (place + 1) (is_joint (token_at (b ∷ bs)).0) bs)

unfoldable pub tokens_of : List ℕ → List Lexeme
tokens_of bs = tokens_from 0 0 false bs
