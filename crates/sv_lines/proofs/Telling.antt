-- Lists of a report's lines tell what they are of.
use Rattle.std.proofs.Common.{◌≡◌, ℕ, suc, ◌^◌, ◌<◌, eqb, Bool, true, false, ℤ, pos, negsuc, List, [], ◌∷◌, ◌++◌, get_or, refl, sym, ap, ◌∙◌, arith, true≢false, decimal, append_assoc, append-nil}
use Rattle.std.specs.Prelude.{FitsSigned}
use Rattle.std.specs.Fmt.{signed_decimal}
use Rattle.std.specs.Int.{w64}
use Rattle.std.specs.Char.{is_ascii_digit}
use Rattle.std.specs.List.{AllByRecursion, flat_map}
use Rattle.std.proofs.lemmas.Fmt.{decimal_injective}
use Rattle.sv_world.specs.declared.world.ObjectId.{ObjectId}
use Rattle.sv_wire.specs.declared.message.Done1.{Done1}
use Rattle.sv_world.specs.Ranges.{ObjectFits}
use Rattle.sv_wire.specs.Ranges.{ValueFits, ResultFits}
use Rattle.sv_journal.specs.Pieces.{joined, bracketed, value_text, objects_text, result_text}
use Rattle.sv_lines.specs.Reading.{is_numeric}
use Rattle.sv_lines.proofs.Splitting.{all_pass, both_pass, decimal_passes, Ends, first_is, others_are, class_split, number_split, number_begins, Tells, Anything, behind_tells}

-- ---- Signed numbers

pub digit_numeric : (c : ℕ) → is_ascii_digit c ≡ true → is_numeric c ≡ true
digit_numeric c h = rw h refl

abbrev pub IsI64 : ℤ → Type 0
IsI64 (pos n) = n < 2 ^ 63
IsI64 (negsuc n) = n < 2 ^ 63

pub signed_passes : (z : ℤ) → IsI64 z → all_pass is_numeric (signed_decimal z) ≡ true
signed_passes (pos n) f = decimal_passes is_numeric digit_numeric n (omega (arith, f))
signed_passes (negsuc n) f = both_pass true (all_pass is_numeric (decimal (suc n))) refl (decimal_passes is_numeric digit_numeric (suc n) (omega (arith, f)))

no_minus : (n : ℕ) (s : List ℕ) → n < 2 ^ 64 → decimal n ≡ 45 ∷ s → ⊥
no_minus n s f e = number_begins n [] 45 s f refl (append-nil (decimal n) ∙ e)

signed_same : (y z : ℤ) → IsI64 y → IsI64 z → signed_decimal y ≡ signed_decimal z → y ≡ z
signed_same (pos m) (pos n) f g e = ap pos (decimal_injective m n (omega (arith, f)) (omega (arith, g)) e)
signed_same (pos m) (negsuc n) f g e = absurd (no_minus m (decimal (suc n)) (omega (arith, f)) e)
signed_same (negsuc m) (pos n) f g e = absurd (no_minus n (decimal (suc m)) (omega (arith, g)) (sym e))
signed_same (negsuc m) (negsuc n) f g e =
    let same = decimal_injective (suc m) (suc n) (omega (arith, f)) (omega (arith, g)) (others_are 45 45 (decimal (suc m)) (decimal (suc n)) e) in
    let plain : m ≡ n = omega (arith, same) in
    ap negsuc plain

pub signed_tells : Tells IsI64 signed_decimal (Ends is_numeric)
signed_tells y z a b f g stop end e =
    let parts = class_split is_numeric (signed_decimal y) (signed_decimal z) a b (signed_passes y f) (signed_passes z g) stop end e in
    (signed_same y z f g parts.0, parts.1)

pub signed_begins : (z : ℤ) (x : List ℕ) (b : ℕ) (y : List ℕ) → IsI64 z → is_numeric b ≡ false → signed_decimal z ++ x ≡ b ∷ y → ⊥
signed_begins (pos n) x b y f g e = number_begins n x b y (omega (arith, f)) (no_digit b g) e
  where
    no_digit : (c : ℕ) → is_numeric c ≡ false → is_ascii_digit c ≡ false
    no_digit c h = go (is_ascii_digit c) refl
      where
        go : (d : Bool) → is_ascii_digit c ≡ d → is_ascii_digit c ≡ false
        go true i = absurd (true≢false (sym (digit_numeric c i) ∙ h))
        go false i = i
signed_begins (negsuc n) x b y f g e =
    true≢false (ap is_numeric (first_is 45 b (decimal (suc n) ++ x) y e) ∙ g)

-- ---- Lists between two bytes

-- No text begins with this byte.
abbrev pub NeverBegins : {A : Type 0} → (A → Type 0) → (A → List ℕ) → ℕ → Type 0
NeverBegins {A} P text close = (a : A) (x y : List ℕ) → P a → text a ++ x ≡ close ∷ y → ⊥

module _ {A : Type 0} (P : A → Type 0) (text : A → List ℕ) (LineStop : List ℕ → Type 0) (tells : Tells P text LineStop) (byte close : ℕ) (differ : byte ≡ close → ⊥)
    (next : (l : List ℕ) → LineStop (byte ∷ l)) (last : (l : List ℕ) → LineStop (close ∷ l)) (never : NeverBegins P text close) where
  abbrev rests : List A → List ℕ
  rests xs = flat_map (λ e. byte ∷ text e) xs

  rest_stops : (xs : List A) (x : List ℕ) → LineStop (rests xs ++ close ∷ x)
  rest_stops [] x = last x
  rest_stops (a ∷ xs) x = next (text a ++ rests xs ++ close ∷ x)

  pub joined_tells : (xs ys : List A) (x y : List ℕ) → AllByRecursion P xs → AllByRecursion P ys → joined byte text xs ++ close ∷ x ≡ joined byte text ys ++ close ∷ y → (xs ≡ ys) × (x ≡ y)
  joined_tells [] [] x y p q e = (refl, others_are close close x y e)
  joined_tells [] (b ∷ ys) x y p q e = absurd (never b (rests ys ++ close ∷ y) x q.0 (sym (e ∙ append_assoc (text b) (rests ys) (close ∷ y))))
  joined_tells (a ∷ xs) [] x y p q e = absurd (never a (rests xs ++ close ∷ x) y p.0 (sym (append_assoc (text a) (rests xs) (close ∷ x)) ∙ e))
  joined_tells (a ∷ xs) (b ∷ ys) x y p q e =
      let regrouped = sym (append_assoc (text a) (rests xs) (close ∷ x)) ∙ e ∙ append_assoc (text b) (rests ys) (close ∷ y) in
      let one = tells a b (rests xs ++ close ∷ x) (rests ys ++ close ∷ y) p.0 q.0 (rest_stops xs x) (rest_stops ys y) regrouped in
      let more = behind_tells P text LineStop tells byte close differ next last xs ys x y p.1 q.1 one.1 in
      (ap (λ (c : A). c ∷ xs) one.0 ∙ ap (λ (l : List A). b ∷ l) more.0, more.1)

  pub between_tells : (start : ℕ) → Tells (AllByRecursion P) (λ xs. (start ∷ joined byte text xs) ++ close ∷ []) Anything
  between_tells start xs ys x y p q stop end e =
      let inner = others_are start start ((joined byte text xs ++ close ∷ []) ++ x) ((joined byte text ys ++ close ∷ []) ++ y) e in
      joined_tells xs ys x y p q (sym (append_assoc (joined byte text xs) (close ∷ []) x) ∙ inner ∙ append_assoc (joined byte text ys) (close ∷ []) y)

-- ---- Objects, values and results

object_tells : Tells ObjectFits (λ (o : ObjectId). decimal o.0) (Ends is_ascii_digit)
object_tells a b x y f g stop end e =
    let parts = number_split a.0 b.0 x y (omega (arith, f)) (omega (arith, g)) stop end e in
    (ap (λ (n : ℕ). record { 0 = n }) parts.0, parts.1)

pub objects_tell : Tells (AllByRecursion ObjectFits) objects_text Anything
objects_tell = between_tells ObjectFits (λ (o : ObjectId). decimal o.0) (Ends is_ascii_digit) object_tells 32 93 (λ e. omega (arith, e)) (λ l. refl) (λ l. refl)
    (λ a x y f e. number_begins a.0 x 93 y (omega (arith, f)) refl e) 91

long_of : (z : ℤ) → FitsSigned w64 z → IsI64 z
long_of (pos n) f = omega (arith, f)
long_of (negsuc n) f = omega (arith, f)

pub all_long : (v : List ℤ) → ValueFits v → AllByRecursion IsI64 v
all_long [] f = tt
all_long (z ∷ v) f = (long_of z f.0, all_long v f.1)

pub value_tells : Tells ValueFits value_text Anything
value_tells v w x y f g = between_tells IsI64 signed_decimal (Ends is_numeric) signed_tells 44 41 (λ e. omega (arith, e)) (λ l. refl) (λ l. refl)
    (λ a x y f e. signed_begins a x 41 y f refl e) 40 v w x y (all_long v f) (all_long w g)

-- What comes behind values does not begin with a value.
abbrev pub NoValue : List ℕ → Type 0
NoValue rest = eqb (get_or rest 0 0) 40 ≡ false

no_value : (rest l : List ℕ) → NoValue rest → rest ≡ 40 ∷ l → ⊥
no_value rest l f e = true≢false (sym (ap (λ (t : List ℕ). eqb (get_or t 0 0) 40) e) ∙ f)

pub values_tell : Tells (AllByRecursion ValueFits) (flat_map value_text) NoValue
values_tell [] [] x y p q stop end e = (refl, e)
values_tell [] (w ∷ ws) x y p q stop end e =
    absurd (no_value x ((joined 44 signed_decimal w ++ 41 ∷ []) ++ (flat_map value_text ws ++ y)) stop (e ∙ append_assoc (value_text w) (flat_map value_text ws) y))
values_tell (v ∷ vs) [] x y p q stop end e =
    absurd (no_value y ((joined 44 signed_decimal v ++ 41 ∷ []) ++ (flat_map value_text vs ++ x)) end (sym e ∙ append_assoc (value_text v) (flat_map value_text vs) x))
values_tell (v ∷ vs) (w ∷ ws) x y p q stop end e =
    let regrouped = sym (append_assoc (value_text v) (flat_map value_text vs) x) ∙ e ∙ append_assoc (value_text w) (flat_map value_text ws) y in
    let one = value_tells v w (flat_map value_text vs ++ x) (flat_map value_text ws ++ y) p.0 q.0 tt tt regrouped in
    let more = values_tell vs ws x y p.1 q.1 stop end one.1 in
    (ap (λ (c : List ℤ). c ∷ vs) one.0 ∙ ap (λ (l : List (List ℤ)). w ∷ l) more.0, more.1)

pub result_parts : (d : Done1) (x : List ℕ) → result_text d ++ x ≡ decimal d.pos ++ 58 ∷ (flat_map value_text d.values ++ x)
result_parts d x =
    append_assoc (decimal d.pos ++ 58 ∷ []) (flat_map value_text d.values) x ∙ append_assoc (decimal d.pos) (58 ∷ []) (flat_map value_text d.values ++ x)

same_result : (a b : Done1) → a.pos ≡ b.pos → a.values ≡ b.values → a ≡ b
same_result a b f g = ap (λ (n : ℕ). record { pos = n; values = a.values }) f ∙ ap (λ (vs : List (List ℤ)). record { pos = b.pos; values = vs }) g

pub result_tells : Tells ResultFits result_text NoValue
result_tells a b x y p q stop end e =
    let va = flat_map value_text a.values ++ x in
    let vb = flat_map value_text b.values ++ y in
    let one = number_split a.pos b.pos (58 ∷ va) (58 ∷ vb) (omega (arith, p.0)) (omega (arith, q.0)) refl refl (sym (result_parts a x) ∙ e ∙ result_parts b y) in
    let more = values_tell a.values b.values x y p.1 q.1 stop end (others_are 58 58 va vb one.1) in
    (same_result a b one.0 more.0, more.1)

pub results_tell : Tells (AllByRecursion ResultFits) (bracketed result_text) Anything
results_tell = between_tells ResultFits result_text NoValue result_tells 32 93 (λ e. omega (arith, e)) (λ l. refl) (λ l. refl)
    (λ a x y f e. number_begins a.pos (58 ∷ (flat_map value_text a.values ++ x)) 93 y (omega (arith, f.0)) refl (sym (result_parts a x) ∙ e)) 91
