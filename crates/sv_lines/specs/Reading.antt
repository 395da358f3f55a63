-- What a text begins with, and what comes behind it. There is a definition for each function that reads.
use Rattle.std.specs.Prelude.{◌≡◌, ℕ, zero, suc, ◌^◌, ◌+◌, ℤ, pos, neg_ℤ, Bool, true, false, ◌&&◌, ◌||◌, ◌==◌, nat_lt, cond, List, [], ◌∷◌, ◌++◌, length, take, drop, slice_index, Option, Some, None, Result, Ok, Err}
use Rattle.std.specs.Char.{is_ascii_digit}
use Rattle.std.specs.List.{prefix_len}
use Rattle.std.specs.Str.{all_ascii_digits}
use Rattle.std.specs.Str.Parse.{digits_value}
use Rattle.sv_world.specs.declared.world.ObjectId.{ObjectId}
use Rattle.sv_world.specs.Sets.{object_numbered}
use Rattle.sv_wire.specs.declared.message.Done1.{Done1}
use Rattle.sv_lines.specs.declared.stop.LineFault.{LineFault}
use Rattle.sv_lines.specs.declared.stop.LineFault.TheVariants as unread

-- The thing, and what comes behind it.
abbrev pub Read : Type 0 → Type 0
Read A = Option (A × List ℕ)

infixl 10 ◌>>=◌
abbrev pub ◌>>=◌ : {A B : Type 0} → Option A → (A → Option B) → Option B
(Some x) >>= f = f x
None >>= f = None

-- What a function returned, seen by view, is what reading gives, unless memory ran out.
abbrev pub Gives : {X Y : Type 0} → (X → Y) → Result X LineFault → Option Y → Type 0
Gives view (Ok x) read = read ≡ Some (view x)
Gives view (Err e) read = e ≡ unread.Wrong → read ≡ None

-- The same of a function that takes no memory.
abbrev pub seen : {X Y : Type 0} → (X → Y) → Result X LineFault → Option Y
seen view (Ok x) = Some (view x)
seen view (Err e) = None

-- What was read goes on, or else something other is read.
abbrev pub when_read : {A B : Type 0} → Option A → (A → B) → B → B
when_read (Some x) f other = f x
when_read None f other = other

-- ---- Numbers

-- A byte that a number has.
abbrev pub is_numeric : ℕ → Bool
is_numeric c = is_ascii_digit c || (c == 45)

abbrev pub numeral : List ℕ → List ℕ
numeral text = take (prefix_len is_numeric text) text

abbrev pub behind_numeral : List ℕ → List ℕ
behind_numeral text = drop (prefix_len is_numeric text) text

-- Digits that write a number below a bound.
abbrev pub is_number : ℕ → List ℕ → Bool
is_number bound ds = all_ascii_digits ds && (nat_lt 0 (length ds) && nat_lt (digits_value 10 ds) bound)

unfoldable pub natural : ℕ → List ℕ → Option ℕ
natural bound ds = cond (is_number bound ds) (Some (digits_value 10 ds)) None

unfoldable pub integer : List ℕ → Option ℤ
integer ds = cond (slice_index ds 0 == 45)
    (cond (is_number (2 ^ 63 + 1) (drop 1 ds)) (Some (neg_ℤ (pos (digits_value 10 (drop 1 ds))))) None)
    (cond (is_number (2 ^ 63) ds) (Some (pos (digits_value 10 ds))) None)

unfoldable pub number_read : ℕ → List ℕ → Read ℕ
number_read bound text = natural bound (numeral text) >>= λ n. Some (n, behind_numeral text)

unfoldable pub signed_read : List ℕ → Read ℤ
signed_read text = integer (numeral text) >>= λ z. Some (z, behind_numeral text)

-- ---- Lists

-- What comes behind these bytes, with which the text has to begin.
unfoldable pub behind_front : List ℕ → List ℕ → Option (List ℕ)
behind_front [] text = Some text
behind_front (b ∷ bs) [] = None
behind_front (b ∷ bs) (c ∷ cs) = cond (b == c) (behind_front bs cs) None

-- Whether a list ends behind an element, and what comes next.
unfoldable pub next_read : List ℕ → List ℕ → List ℕ → Option (Bool × List ℕ)
next_read close byte text = when_read (behind_front close text) (λ rest. Some (true, rest)) (behind_front byte text >>= λ rest. Some (false, rest))

-- Elements with a byte between each two, up to the end, in so many turns at most.
abbrev pub joined_by : {A : Type 0} → (List ℕ → Read A) → List ℕ → List ℕ → ℕ → List A → List ℕ → Read (List A)
joined_by reader close byte zero so_far text = None
joined_by reader close byte (suc turns) so_far text = reader text >>= λ x. next_read close byte x.1 >>= λ y.
    cond y.0 (Some (so_far ++ x.0 ∷ [], y.1)) (joined_by reader close byte turns (so_far ++ x.0 ∷ []) y.1)

abbrev pub listed_by : {A : Type 0} → (List ℕ → Read A) → List ℕ → List ℕ → List ℕ → Read (List A)
listed_by reader close byte text = when_read (behind_front close text) (λ rest. Some ([], rest)) (joined_by reader close byte (length text) [] text)

unfoldable pub object_read : List ℕ → Read ObjectId
object_read text = number_read (2 ^ 16) text >>= λ n. Some (object_numbered n.0, n.1)

unfoldable pub objects_read : List ℕ → Read (List ObjectId)
objects_read text = behind_front (91 ∷ []) text >>= λ rest. listed_by object_read (93 ∷ []) (32 ∷ []) rest

-- A value, behind its bracket.
unfoldable pub value_read : List ℕ → Read (List ℤ)
value_read text = listed_by signed_read (41 ∷ []) (44 ∷ []) text

-- Values, as many as stand there, in so many turns at most.
abbrev pub values_by : ℕ → List (List ℤ) → List ℕ → Read (List (List ℤ))
values_by zero so_far text = Some (so_far, text)
values_by (suc turns) so_far text = when_read (behind_front (40 ∷ []) text) (λ rest. value_read rest >>= λ v. values_by turns (so_far ++ v.0 ∷ []) v.1) (Some (so_far, text))

unfoldable pub values_read : List ℕ → Read (List (List ℤ))
values_read text = values_by (length text) [] text

abbrev pub as_result : ℕ → List (List ℤ) → Done1
as_result p vs = record { pos = p; values = vs }

unfoldable pub result_read : List ℕ → Read Done1
result_read text = number_read (2 ^ 32) text >>= λ p. behind_front (58 ∷ []) p.1 >>= λ rest. values_read rest >>= λ v. Some (as_result p.0 v.0, v.1)

unfoldable pub results_read : List ℕ → Read (List Done1)
results_read text = behind_front (91 ∷ []) text >>= λ rest. listed_by result_read (93 ∷ []) (32 ∷ []) rest
