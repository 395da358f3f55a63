-- The world's lines of a report, one by one.
use Rattle.std.proofs.Common.{◌≡◌, ◌⊎◌, inl, inr, ℕ, zero, suc, ◌+◌, ◌^◌, ◌<◌, ◌≤◌, true, ℤ, pos, negsuc, List, [], ◌∷◌, ◌++◌, length, length-append, take, drop, refl, sym, ap, subst, ◌∙◌, arith, decimal, append_assoc}
use Rattle.std.specs.Prelude.{◌≢◌, not, codes, All}
use Rattle.std.specs.Char.{is_ascii_digit}
use Rattle.std.specs.Fmt.{signed_decimal}
use Rattle.std.specs.List.{AllByRecursion, flat_map}
use Rattle.std.proofs.Math.Seq.{take-append_seam, drop-append_seam}
use Rattle.std.proofs.lemmas.Bool.{cases_lt, ne_eqb}
use Rattle.std.proofs.lemmas.Bool.Decides.{nat_tests}
use Rattle.std.proofs.lemmas.List.{append_cancel_right}
use Rattle.std.proofs.lemmas.List.Elements.{recursion_from_All}
use Rattle.sv_wire.specs.Ranges.{ValueFits}
use Rattle.sv_journal.specs.Pieces.{joined, value_text, held_text}
use Rattle.sv_replay.proofs.Heading.{drop_past}
use Rattle.sv_report.specs.Report.{value_lines, world_text}
use Rattle.sv_lines.specs.Lines.{is_inner, line_width, after_lines}
use Rattle.sv_lines.proofs.Splitting.{all_pass, both_pass, pass_append, decimal_passes}
use Rattle.sv_lines.proofs.Numerals.{front_stops}
use Rattle.sv_lines.proofs.Telling.{IsI64, all_long}
use Rattle.sv_lines.proofs.Counting.{width_within}

-- ---- Texts that end no line

abbrev pub IsInner : List ℕ → Type 0
IsInner text = all_pass is_inner text ≡ true

digit_inner : (c : ℕ) → is_ascii_digit c ≡ true → is_inner c ≡ true
digit_inner c h = grind (arith, nat_tests)

decimal_inner : (n : ℕ) → n < 2 ^ 64 → IsInner (decimal n)
decimal_inner n f = decimal_passes is_inner digit_inner n f

signed_inner : (z : ℤ) → IsI64 z → IsInner (signed_decimal z)
signed_inner (pos n) f = decimal_inner n (omega (arith, f))
signed_inner (negsuc n) f = both_pass true (all_pass is_inner (decimal (suc n))) refl (decimal_inner (suc n) (omega (arith, f)))

others_inner : (v : List ℤ) → AllByRecursion IsI64 v → IsInner (flat_map (λ (z : ℤ). 44 ∷ signed_decimal z) v)
others_inner [] f = refl
others_inner (z ∷ v) f =
    pass_append is_inner (44 ∷ signed_decimal z) (flat_map (λ (y : ℤ). 44 ∷ signed_decimal y) v)
    (both_pass true (all_pass is_inner (signed_decimal z)) refl (signed_inner z f.0)) (others_inner v f.1)

joined_inner : (v : List ℤ) → AllByRecursion IsI64 v → IsInner (joined 44 signed_decimal v)
joined_inner [] f = refl
joined_inner (z ∷ v) f = pass_append is_inner (signed_decimal z) (flat_map (λ (y : ℤ). 44 ∷ signed_decimal y) v) (signed_inner z f.0) (others_inner v f.1)

value_inner : (v : List ℤ) → ValueFits v → IsInner (value_text v)
value_inner v f =
    pass_append is_inner (codes "(" ++ joined 44 signed_decimal v) (codes ")") (pass_append is_inner (codes "(") (joined 44 signed_decimal v) refl (joined_inner v (all_long v f))) refl

held_inner : (object : ℕ) (v : List ℤ) → object < 2 ^ 64 → ValueFits v → IsInner (held_text object v)
held_inner object v small f =
    pass_append is_inner (decimal object ++ codes "=") (value_text v) (pass_append is_inner (decimal object) (codes "=") (decimal_inner object small) refl) (value_inner v f)

each_inner : (line : List ℕ) → AllByRecursion (λ (byte : ℕ). byte ≢ 10) line → IsInner line
each_inner [] f = refl
each_inner (c ∷ line) f = both_pass (is_inner c) (all_pass is_inner line) (ap not (ne_eqb c 10 f.0)) (each_inner line f.1)

pub inner_of : (line : List ℕ) → All (λ (byte : ℕ). byte ≢ 10) line → IsInner line
inner_of line f = each_inner line (recursion_from_All (λ (byte : ℕ). byte ≢ 10) line f)

-- ---- A line, and what comes behind it

line_end : (s z : List ℕ) → IsInner s → line_width (s ++ 10 ∷ z) ≡ length (s ++ 10 ∷ [])
line_end s z f =
    let n = front_stops is_inner s (10 ∷ z) f refl in
    let sum = length-append s (10 ∷ z) in
    let one = length-append s (10 ∷ []) in
    let plus : length s + 1 ≡ length (s ++ 10 ∷ []) = omega (arith, one) in
    sym (width_within (s ++ 10 ∷ z) (length s) (sym n) (omega (arith, sum))) ∙ plus

first_line : (s z : List ℕ) → IsInner s → take (line_width (s ++ 10 ∷ z)) (s ++ 10 ∷ z) ≡ s ++ 10 ∷ []
first_line s z f =
    ap (λ (n : ℕ). take n (s ++ 10 ∷ z)) (line_end s z f)
    ∙ ap (λ (l : List ℕ). take (length (s ++ 10 ∷ [])) l) (sym (append_assoc s (10 ∷ []) z))
    ∙ take-append_seam (s ++ 10 ∷ []) z

behind_line : (s z : List ℕ) → IsInner s → drop (line_width (s ++ 10 ∷ z)) (s ++ 10 ∷ z) ≡ z
behind_line s z f =
    ap (λ (n : ℕ). drop n (s ++ 10 ∷ z)) (line_end s z f)
    ∙ ap (λ (l : List ℕ). drop (length (s ++ 10 ∷ [])) l) (sym (append_assoc s (10 ∷ []) z))
    ∙ drop-append_seam (s ++ 10 ∷ []) z

-- The first line of a text that begins with a whole line is this.
pub next_line : (line text more : List ℕ) → IsInner line → text ≡ (line ++ 10 ∷ []) ++ more → take (line_width text) text ≡ line ++ 10 ∷ []
next_line line text more f e = ap (λ (l : List ℕ). take (line_width l) l) (e ∙ append_assoc line (10 ∷ []) more) ∙ first_line line more f

-- ---- The values

after_none : (k : ℕ) → after_lines k [] ≡ []
after_none zero = refl
after_none (suc k) = after_none k

after_values : (k object : ℕ) (vs : List (List ℤ)) → object + length vs < 2 ^ 64 → AllByRecursion ValueFits vs → after_lines k (value_lines object vs) ≡ value_lines (object + k) (drop k vs)
after_values zero object vs few f = (let plain : object ≡ object + 0 = omega arith in ap (λ (m : ℕ). value_lines m vs) plain)
after_values (suc k) object [] few f = after_none k
after_values (suc k) object (v ∷ vs) few f =
    let more = after_values k (object + 1) vs (omega (arith, few)) f.1 in
    let plus : object + 1 + k ≡ object + suc k = omega arith in
    ap (after_lines k) (behind_line (held_text object v) (value_lines (object + 1) vs) (held_inner object v (omega (arith, few)) f.0)) ∙ more ∙ ap (λ (m : ℕ). value_lines m (drop k vs)) plus

front_values : (k object : ℕ) (vs : List (List ℤ)) → value_lines object vs ≡ value_lines object (take k vs) ++ value_lines (object + k) (drop k vs)
front_values zero object vs = (let plain : object ≡ object + 0 = omega arith in ap (λ (m : ℕ). value_lines m vs) plain)
front_values (suc k) object [] = refl
front_values (suc k) object (v ∷ vs) =
    let more = front_values k (object + 1) vs in
    let plus : object + 1 + k ≡ object + suc k = omega arith in
    let front = value_lines (object + 1) (take k vs) in
    ap (λ (l : List ℕ). held_text object v ++ (10 ∷ l)) (more ∙ ap (λ (m : ℕ). front ++ value_lines m (drop k vs)) plus)
    ∙ sym (append_assoc (held_text object v) (10 ∷ front) (value_lines (object + suc k) (drop k vs)))

-- ---- The world

abbrev pub world_line : ℕ → List ℕ
world_line commit = codes "world " ++ decimal commit

-- The world's lines with the values of so many first objects.
abbrev pub world_front : ℕ → List (List ℤ) → ℕ → List ℕ
world_front commit values count = world_line commit ++ 10 ∷ value_lines 0 (take count values)

-- The text is `world C` and the values of some first objects.
pub record IsWorldFront (commit : ℕ) (values : List (List ℤ)) (text : List ℕ) : Type 0 where
  pub count : ℕ
  pub within : count ≤ length values
  pub text_is : text ≡ world_front commit values count

no_bytes : (s : List ℕ) → length s ≡ 0 → s ≡ []
no_bytes [] e = refl
no_bytes (c ∷ s) e = absurd (omega (arith, e))

no_front : (s x : List ℕ) → x ≡ s ++ x → s ≡ []
no_front s x e =
    let sum = length-append s x in
    let same = ap length e in
    no_bytes s (omega (arith, sum, same))

module _ (commit : ℕ) (values : List (List ℤ)) (small : commit < 2 ^ 64) (few : length values < 2 ^ 32) (fits : AllByRecursion ValueFits values) where
  abbrev W : List ℕ
  W = world_text commit values

  after_world : (k : ℕ) → after_lines (suc k) W ≡ value_lines k (drop k values)
  after_world k =
      let plain : 0 + k ≡ k = omega arith in
      ap (after_lines k) (behind_line (world_line commit) (value_lines 0 values) (pass_append is_inner (codes "world ") (decimal commit) refl (decimal_inner commit small)))
      ∙ after_values k 0 values (omega (arith, few)) fits
      ∙ ap (λ (m : ℕ). value_lines m (drop k values)) plain

  -- The world's lines begin with each such front.
  pub front_world : (k : ℕ) → W ≡ world_front commit values k ++ value_lines k (drop k values)
  front_world k =
      let plain : 0 + k ≡ k = omega arith in
      ap (λ (l : List ℕ). world_line commit ++ (10 ∷ l)) (front_values k 0 values ∙ ap (λ (m : ℕ). value_lines 0 (take k values) ++ value_lines m (drop k values)) plain)
      ∙ sym (append_assoc (world_line commit) (10 ∷ value_lines 0 (take k values)) (value_lines k (drop k values)))

  some_left : (k : ℕ) → 0 < length (value_lines k (drop k values)) → k ≤ length values
  some_left k some = elim (cases_lt k (length values)) [
    | inl l ↦ omega (arith, l)
    | inr l ↦ (let none : length (value_lines k (drop k values)) ≡ 0 = ap (λ (vs : List (List ℤ)). length (value_lines k vs)) (drop_past k values l) in absurd (omega (arith, none, some)))
  ]

  -- Some first lines, where more are left, are none or such a front.
  pub front_of : (n : ℕ) (same : List ℕ) → W ≡ same ++ after_lines n W → 0 < length (after_lines n W) → (same ≡ []) ⊎ IsWorldFront commit values same
  front_of zero same e some = inl (no_front same W e)
  front_of (suc k) same e some =
      let is = after_world k in
      let left = value_lines k (drop k values) in
      inr (record {
        count = k;
        within = some_left k (subst (λ (l : List ℕ). 0 < length l) is some);
        text_is = append_cancel_right same (world_front commit values k) left (ap (λ (l : List ℕ). same ++ l) (sym is) ∙ sym e ∙ front_world k);
      })
