-- Each list of a report's lines is read.
use Rattle.std.proofs.Common.{◌≡◌, ℕ, zero, suc, ◌^◌, ◌<◌, ◌≤◌, eqb, true, false, ℤ, List, [], ◌∷◌, ◌++◌, length, length-append, Some, None, refl, sym, ap, ◌∙◌, arith, decimal, append_assoc, append-nil, true≢false}
use Rattle.std.specs.Fmt.{signed_decimal}
use Rattle.std.specs.List.{AllByRecursion, flat_map}
use Rattle.std.proofs.lemmas.Bool.{eq-eqb, ne_eqb}
use Rattle.sv_world.specs.declared.world.ObjectId.{ObjectId}
use Rattle.sv_wire.specs.declared.message.Done1.{Done1}
use Rattle.sv_world.specs.Ranges.{ObjectFits}
use Rattle.sv_wire.specs.Ranges.{ValueFits, ResultFits}
use Rattle.sv_journal.specs.Pieces.{joined, bracketed, value_text, objects_text, result_text}
use Rattle.sv_lines.specs.Reading.{Read, ◌>>=◌, behind_front, next_read, joined_by, listed_by, number_read, signed_read, object_read, objects_read, value_read, values_by, values_read, result_read, results_read}
use Rattle.sv_lines.proofs.Splitting.{Anything}
use Rattle.sv_lines.proofs.Numerals.{IsRead, NoNumber, number_is_read, signed_is_read}
use Rattle.sv_lines.proofs.Telling.{IsI64, NeverBegins, NoValue, all_long, signed_begins, result_parts}
use Rattle.sv_lines.proofs.Splitting.{number_begins}

-- ---- One byte

pub byte_there : (c : ℕ) (rest : List ℕ) → behind_front (c ∷ []) (c ∷ rest) ≡ Some rest
unfolding behind_front
byte_there c rest = rw (eq-eqb c c refl) refl

pub byte_not_there : (c d : ℕ) (rest : List ℕ) → (c ≡ d → ⊥) → behind_front (c ∷ []) (d ∷ rest) ≡ None
unfolding behind_front
byte_not_there c d rest n = rw (ne_eqb c d n) refl

pub never_there : (c : ℕ) (s : List ℕ) → ((y : List ℕ) → s ≡ c ∷ y → ⊥) → behind_front (c ∷ []) s ≡ None
unfolding behind_front
never_there c [] n = refl
never_there c (d ∷ s) n = byte_not_there c d s (λ e. n s (ap (λ (b : ℕ). b ∷ s) (sym e)))

-- ---- Elements with a byte between each two

list_ends : (close byte : ℕ) (rest : List ℕ) → next_read (close ∷ []) (byte ∷ []) (close ∷ rest) ≡ Some (true, rest)
unfolding next_read
list_ends close byte rest = rw (byte_there close rest) refl

list_goes_on : (close byte : ℕ) (rest : List ℕ) → (close ≡ byte → ⊥) → next_read (close ∷ []) (byte ∷ []) (byte ∷ rest) ≡ Some (false, rest)
unfolding next_read
list_goes_on close byte rest differ = rw (byte_not_there close byte rest differ, byte_there byte rest) refl

module _ {A : Type 0} (P : A → Type 0) (text : A → List ℕ) (LineStop : List ℕ → Type 0) (reader : List ℕ → Read A) (is_read : IsRead P text LineStop reader) (close byte : ℕ)
    (differ : close ≡ byte → ⊥) (next : (l : List ℕ) → LineStop (byte ∷ l)) (last : (l : List ℕ) → LineStop (close ∷ l)) (never : NeverBegins P text close) where
  abbrev others : List A → List ℕ
  others xs = flat_map (λ e. byte ∷ text e) xs

  others_long : (xs : List A) → length xs ≤ length (others xs)
  others_long [] = omega arith
  others_long (x ∷ xs) = omega (arith, others_long xs, length-append (text x) (others xs))

  joined_read : (turns : ℕ) (xs so_far : List A) (a : A) (rest : List ℕ) → P a → AllByRecursion P xs → length xs < turns →
      joined_by reader (close ∷ []) (byte ∷ []) turns so_far (text a ++ (others xs ++ close ∷ rest)) ≡ Some (so_far ++ a ∷ xs, rest)
  joined_read zero xs so_far a rest p ps few = absurd (omega (arith, few))
  joined_read (suc turns) [] so_far a rest p ps few = rw (is_read a (close ∷ rest) p (last rest), list_ends close byte rest) refl
  joined_read (suc turns) (b ∷ xs) so_far a rest p ps few =
      let tail = text b ++ (others xs ++ close ∷ rest) in
      let regrouped : (text b ++ others xs) ++ close ∷ rest ≡ tail = append_assoc (text b) (others xs) (close ∷ rest) in
      let one : reader (text a ++ byte ∷ tail) ≡ Some (a, byte ∷ tail) = is_read a (byte ∷ tail) p (next tail) in
      let more = joined_read turns xs (so_far ++ a ∷ []) b rest ps.0 ps.1 (omega (arith, few)) in
      ap (λ (l : List ℕ). joined_by reader (close ∷ []) (byte ∷ []) (suc turns) so_far (text a ++ byte ∷ l)) regrouped
      ∙ rw (one, list_goes_on close byte tail differ) (more ∙ ap (λ (l : List A). Some (l, rest)) (append_assoc so_far (a ∷ []) (b ∷ xs)))

  pub listed_read : (xs : List A) (rest : List ℕ) → AllByRecursion P xs → listed_by reader (close ∷ []) (byte ∷ []) (joined byte text xs ++ close ∷ rest) ≡ Some (xs, rest)
  listed_read [] rest ps = rw (byte_there close rest) refl
  listed_read (a ∷ xs) rest ps =
      let tail = others xs ++ close ∷ rest in
      let regrouped : joined byte text (a ∷ xs) ++ close ∷ rest ≡ text a ++ tail = append_assoc (text a) (others xs) (close ∷ rest) in
      let none = never_there close (text a ++ tail) (λ y e. never a tail y ps.0 e) in
      let few : length xs < length (text a ++ tail) = omega (arith, others_long xs, length-append (text a) tail, length-append (others xs) (close ∷ rest)) in
      ap (listed_by reader (close ∷ []) (byte ∷ [])) regrouped ∙ rw none (joined_read (length (text a ++ tail)) xs [] a rest ps.0 ps.1 few)

-- ---- Objects, values and results

pub object_is_read : IsRead ObjectFits (λ (o : ObjectId). decimal o.0) NoNumber object_read
unfolding object_read
object_is_read o rest f stop = rw (number_is_read (2 ^ 16) (omega arith) o.0 rest f stop) refl

pub objects_are_read : IsRead (AllByRecursion ObjectFits) objects_text Anything objects_read
unfolding objects_read
objects_are_read os rest f stop =
    let inner = joined 32 (λ (o : ObjectId). decimal o.0) os in
    ap (λ (l : List ℕ). behind_front (91 ∷ []) (91 ∷ l) >>= λ r. listed_by object_read (93 ∷ []) (32 ∷ []) r) (append_assoc inner (93 ∷ []) rest)
    ∙ rw (byte_there 91 (inner ++ 93 ∷ rest))
    (listed_read ObjectFits (λ (o : ObjectId). decimal o.0) NoNumber object_read object_is_read 93 32 (λ e. omega (arith, e)) (λ l. refl) (λ l. refl)
    (λ a x y p e. number_begins a.0 x 93 y (omega (arith, p)) refl e) os rest f)

pub value_is_read : (v : List ℤ) (rest : List ℕ) → ValueFits v → value_read (joined 44 signed_decimal v ++ 41 ∷ rest) ≡ Some (v, rest)
unfolding value_read
value_is_read v rest f =
    listed_read IsI64 signed_decimal NoNumber signed_read signed_is_read 41 44 (λ e. omega (arith, e)) (λ l. refl) (λ l. refl)
    (λ a x y p e. signed_begins a x 41 y p refl e) v rest (all_long v f)

no_value : (rest : List ℕ) → NoValue rest → behind_front (40 ∷ []) rest ≡ None
unfolding behind_front
no_value [] stop = refl
no_value (c ∷ rest) stop = byte_not_there 40 c rest (λ e. omega (arith, e, other c stop))
  where
    other : (d : ℕ) → eqb d 40 ≡ false → d ≡ 40 → ⊥
    other d f g = true≢false (sym (eq-eqb d 40 g) ∙ f)

values_long : (vs : List (List ℤ)) → length vs ≤ length (flat_map value_text vs)
values_long [] = omega arith
values_long (v ∷ vs) = omega (arith, values_long vs, length-append (value_text v) (flat_map value_text vs))

values_read_by : (turns : ℕ) (vs so_far : List (List ℤ)) (rest : List ℕ) → AllByRecursion ValueFits vs → NoValue rest → length vs ≤ turns →
    values_by turns so_far (flat_map value_text vs ++ rest) ≡ Some (so_far ++ vs, rest)
values_read_by zero [] so_far rest f stop few = ap (λ (l : List (List ℤ)). Some (l, rest)) (sym (append-nil so_far))
values_read_by zero (v ∷ vs) so_far rest f stop few = absurd (omega (arith, few))
values_read_by (suc turns) [] so_far rest f stop few = rw (no_value rest stop) (ap (λ (l : List (List ℤ)). Some (l, rest)) (sym (append-nil so_far)))
values_read_by (suc turns) (v ∷ vs) so_far rest f stop few =
    let tail = flat_map value_text vs ++ rest in
    let body = joined 44 signed_decimal v in
    let regrouped : flat_map value_text (v ∷ vs) ++ rest ≡ 40 ∷ (body ++ 41 ∷ tail) =
    append_assoc (value_text v) (flat_map value_text vs) rest ∙ ap (λ (l : List ℕ). 40 ∷ l) (append_assoc body (41 ∷ []) tail) in
    let more = values_read_by turns vs (so_far ++ v ∷ []) rest f.1 stop (omega (arith, few)) in
    ap (values_by (suc turns) so_far) regrouped
    ∙ rw (byte_there 40 (body ++ 41 ∷ tail), value_is_read v tail f.0) (more ∙ ap (λ (l : List (List ℤ)). Some (l, rest)) (append_assoc so_far (v ∷ []) vs))

pub values_are_read : IsRead (AllByRecursion ValueFits) (flat_map value_text) NoValue values_read
unfolding values_read
values_are_read vs rest f stop =
    values_read_by (length (flat_map value_text vs ++ rest)) vs [] rest f stop (omega (arith, values_long vs, length-append (flat_map value_text vs) rest))

result_is_read : IsRead ResultFits result_text NoValue result_read
unfolding result_read
result_is_read d rest f stop =
    let tail = flat_map value_text d.values ++ rest in
    ap result_steps (result_parts d rest)
    ∙ rw (number_is_read (2 ^ 32) (omega arith) d.pos (58 ∷ tail) f.0 refl, byte_there 58 tail, values_are_read d.values rest f.1 stop) refl
  where
    result_steps : List ℕ → Read Done1
    result_steps text = number_read (2 ^ 32) text >>= λ p. behind_front (58 ∷ []) p.1 >>= λ r. values_read r >>= λ v. Some (record { pos = p.0; values = v.0 }, v.1)

pub results_are_read : IsRead (AllByRecursion ResultFits) (bracketed result_text) Anything results_read
unfolding results_read
results_are_read ds rest f stop =
    let inner = joined 32 result_text ds in
    ap (λ (l : List ℕ). behind_front (91 ∷ []) (91 ∷ l) >>= λ r. listed_by result_read (93 ∷ []) (32 ∷ []) r) (append_assoc inner (93 ∷ []) rest)
    ∙ rw (byte_there 91 (inner ++ 93 ∷ rest))
    (listed_read ResultFits result_text NoValue result_read result_is_read 93 32 (λ e. omega (arith, e)) (λ l. refl) (λ l. refl)
    (λ a x y p e. number_begins a.pos (58 ∷ (flat_map value_text a.values ++ x)) 93 y (omega (arith, p.0)) refl (sym (result_parts a x) ∙ e)) ds rest f)
