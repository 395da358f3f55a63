-- Texts that are split at the first byte of another class.
use Rattle.std.proofs.Common.{◌≡◌, ℕ, ◌^◌, ◌<◌, Bool, true, false, ◌&&◌, List, [], ◌∷◌, ◌++◌, length, get_or, refl, sym, ap, subst, ◌∙◌, arith, true≢false, decimal, append_assoc}
use Rattle.std.specs.Char.{is_ascii_digit}
use Rattle.std.specs.List.{AllByRecursion, flat_map}
use Rattle.std.specs.Str.{all_ascii_digits}
use Rattle.std.proofs.lemmas.Bool.{and_parts}
use Rattle.std.proofs.lemmas.Fmt.{decimal_injective, decimal_nonempty}
use Rattle.sv_text.proofs.Spelled.{decimal_digits}

-- ---- Bytes of one class

abbrev pub all_pass : (ℕ → Bool) → List ℕ → Bool
all_pass p [] = true
all_pass p (c ∷ cs) = p c && all_pass p cs

pub both_pass : (a b : Bool) → a ≡ true → b ≡ true → (a && b) ≡ true
both_pass a b f g = rw (f, g) refl

pub pass_append : (p : ℕ → Bool) (s t : List ℕ) → all_pass p s ≡ true → all_pass p t ≡ true → all_pass p (s ++ t) ≡ true
pass_append p [] t f g = g
pass_append p (c ∷ s) t f g =
    let parts = and_parts (p c) (all_pass p s) f in
    both_pass (p c) (all_pass p (s ++ t)) parts.0 (pass_append p s t parts.1 g)

digits_pass : (p : ℕ → Bool) → ((c : ℕ) → is_ascii_digit c ≡ true → p c ≡ true) → (s : List ℕ) → all_ascii_digits s ≡ true → all_pass p s ≡ true
digits_pass p q [] d = refl
digits_pass p q (c ∷ s) d =
    let parts = and_parts (is_ascii_digit c) (all_ascii_digits s) d in
    both_pass (p c) (all_pass p s) (q c parts.0) (digits_pass p q s parts.1)

pub decimal_passes : (p : ℕ → Bool) → ((c : ℕ) → is_ascii_digit c ≡ true → p c ≡ true) → (n : ℕ) → n < 2 ^ 64 → all_pass p (decimal n) ≡ true
decimal_passes p q n small = digits_pass p q (decimal n) (decimal_digits n small)

-- What comes behind does not begin with a byte of the class.
abbrev pub Ends : (ℕ → Bool) → List ℕ → Type 0
Ends p rest = p (get_or rest 0 0) ≡ false

pub first_is : (c d : ℕ) (s t : List ℕ) → c ∷ s ≡ d ∷ t → c ≡ d
first_is c d s t e = ap (λ (l : List ℕ). get_or l 0 0) e

pub others_are : (c d : ℕ) (s t : List ℕ) → c ∷ s ≡ d ∷ t → s ≡ t
others_are c d s t e = cc

not_begun : (p : ℕ → Bool) (c : ℕ) (s x : List ℕ) → p c ≡ true → Ends p x → x ≡ c ∷ s → ⊥
not_begun p c s x f stop e = true≢false (sym f ∙ subst (λ (l : List ℕ). p (get_or l 0 0) ≡ false) e stop)

pub class_split : (p : ℕ → Bool) (s t x y : List ℕ) → all_pass p s ≡ true → all_pass p t ≡ true → Ends p x → Ends p y → s ++ x ≡ t ++ y → (s ≡ t) × (x ≡ y)
class_split p [] [] x y f g stop end e = (refl, e)
class_split p [] (d ∷ t) x y f g stop end e = absurd (not_begun p d (t ++ y) x (and_parts (p d) (all_pass p t) g).0 stop e)
class_split p (c ∷ s) [] x y f g stop end e = absurd (not_begun p c (s ++ x) y (and_parts (p c) (all_pass p s) f).0 end (sym e))
class_split p (c ∷ s) (d ∷ t) x y f g stop end e =
    let more = class_split p s t x y (and_parts (p c) (all_pass p s) f).1 (and_parts (p d) (all_pass p t) g).1 stop end (others_are c d (s ++ x) (t ++ y) e) in
    let first = first_is c d (s ++ x) (t ++ y) e in
    (ap (λ (n : ℕ). n ∷ s) first ∙ ap (λ (l : List ℕ). d ∷ l) more.0, more.1)

-- ---- Numbers

pub number_split : (m n : ℕ) (x y : List ℕ) → m < 2 ^ 64 → n < 2 ^ 64 → Ends is_ascii_digit x → Ends is_ascii_digit y → decimal m ++ x ≡ decimal n ++ y → (m ≡ n) × (x ≡ y)
number_split m n x y f g stop end e =
    let parts = class_split is_ascii_digit (decimal m) (decimal n) x y (decimal_passes is_ascii_digit (λ c d. d) m f) (decimal_passes is_ascii_digit (λ c d. d) n g) stop end e in
    (decimal_injective m n f g parts.0, parts.1)

begins_pass : (p : ℕ → Bool) (s x : List ℕ) (b : ℕ) (y : List ℕ) → 0 < length s → all_pass p s ≡ true → p b ≡ false → s ++ x ≡ b ∷ y → ⊥
begins_pass p [] x b y some f g e = omega (arith, some)
begins_pass p (c ∷ s) x b y some f g e = true≢false (sym (and_parts (p c) (all_pass p s) f).0 ∙ ap p (first_is c b (s ++ x) y e) ∙ g)

-- A number does not begin with a byte that is no digit.
pub number_begins : (n : ℕ) (x : List ℕ) (b : ℕ) (y : List ℕ) → n < 2 ^ 64 → is_ascii_digit b ≡ false → decimal n ++ x ≡ b ∷ y → ⊥
number_begins n x b y small g e = begins_pass is_ascii_digit (decimal n) x b y (decimal_nonempty n small) (decimal_passes is_ascii_digit (λ c d. d) n small) g e

-- ---- Lists

-- A text tells its subject, with what comes behind it, where that passes a test.
abbrev pub Tells : {A : Type 0} → (A → Type 0) → (A → List ℕ) → (List ℕ → Type 0) → Type 0
Tells {A} P text LineStop = (a b : A) (x y : List ℕ) → P a → P b → LineStop x → LineStop y → text a ++ x ≡ text b ++ y → (a ≡ b) × (x ≡ y)

abbrev pub Anything : List ℕ → Type 0
Anything rest = Unit {0}

module _ {A : Type 0} (P : A → Type 0) (text : A → List ℕ) (LineStop : List ℕ → Type 0) (tells : Tells P text LineStop) (byte close : ℕ) (differ : byte ≡ close → ⊥)
    (next : (l : List ℕ) → LineStop (byte ∷ l)) (last : (l : List ℕ) → LineStop (close ∷ l)) where
  abbrev pub behind : List A → List ℕ
  behind xs = flat_map (λ e. byte ∷ text e) xs

  behind_stops : (xs : List A) (x : List ℕ) → LineStop (behind xs ++ close ∷ x)
  behind_stops [] x = last x
  behind_stops (a ∷ xs) x = next (text a ++ behind xs ++ close ∷ x)

  same_lists : (a b : A) (xs ys : List A) → a ≡ b → xs ≡ ys → a ∷ xs ≡ b ∷ ys
  same_lists a b xs ys f g = ap (λ (c : A). c ∷ xs) f ∙ ap (λ (l : List A). b ∷ l) g

  pub behind_tells : (xs ys : List A) (x y : List ℕ) → AllByRecursion P xs → AllByRecursion P ys → behind xs ++ close ∷ x ≡ behind ys ++ close ∷ y → (xs ≡ ys) × (x ≡ y)
  behind_tells [] [] x y p q e = (refl, others_are close close x y e)
  behind_tells [] (b ∷ ys) x y p q e = absurd (differ (sym (first_is close byte x (text b ++ behind ys ++ close ∷ y) e)))
  behind_tells (a ∷ xs) [] x y p q e = absurd (differ (first_is byte close (text a ++ behind xs ++ close ∷ x) y e))
  behind_tells (a ∷ xs) (b ∷ ys) x y p q e =
      let inner = others_are byte byte (text a ++ behind xs ++ close ∷ x) (text b ++ behind ys ++ close ∷ y) e in
      let regrouped = sym (append_assoc (text a) (behind xs) (close ∷ x)) ∙ inner ∙ append_assoc (text b) (behind ys) (close ∷ y) in
      let one = tells a b (behind xs ++ close ∷ x) (behind ys ++ close ∷ y) p.0 q.0 (behind_stops xs x) (behind_stops ys y) regrouped in
      let more = behind_tells xs ys x y p.1 q.1 one.1 in
      (same_lists a b xs ys one.0 more.0, more.1)
