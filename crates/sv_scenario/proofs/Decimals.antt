-- The digits of numbers below 100.
use Rattle.std.proofs.Common.{◌≡◌, ◌≢◌, ℕ, zero, suc, ◌+◌, ◌/◌, ◌%◌, ◌<◌, ◌≤◌, Bool, true, false, ◌&&◌, cond, nat_lt, List, [], ◌∷◌, ◌++◌, Option, Some, None, ⊎_elim, refl, sym, ap, ◌∙◌, subst, arith, decimal}
use Rattle.std.specs.Str.{bytes_eq}
use Rattle.std.proofs.lemmas.Fmt.{decimal_digit, decimal_step}
use Rattle.std.proofs.lemmas.Slice.Eq.{bytes_eq-Decides}
use Rattle.std.proofs.lemmas.Bool.{cases_eq, ltb-true, lt-ltb, ltb_from_iff, cases_lt}
use Rattle.sv_scenario.specs.Digits.{two_digits}
use Rattle.sv_scenario.specs.Turns.{number_below}

pub one_digit : (n : ℕ) → n < 10 → decimal n ≡ (48 + n) ∷ []
one_digit n small = decimal_digit n small

pub two_digits_are : (n : ℕ) → 10 ≤ n → n < 100 → decimal n ≡ (48 + n / 10) ∷ (48 + n % 10) ∷ []
two_digits_are n low high = decimal_step n low (omega arith) ∙ ap (λ (ds : List ℕ). ds ++ (48 + n % 10) ∷ []) (decimal_digit (n / 10) (omega arith))

small_is : (n : ℕ) → n < 10 → two_digits (decimal n) ≡ n
small_is n small = ap two_digits (one_digit n small) ∙ omega arith

large_is : (n : ℕ) → 10 ≤ n → n < 100 → two_digits (decimal n) ≡ n
large_is n low high = ap two_digits (two_digits_are n low high) ∙ omega arith

value_is : (n : ℕ) → n < 100 → two_digits (decimal n) ≡ n
value_is n small = ⊎_elim (λ (l : n < 10). small_is n l) (λ (h : 10 ≤ n). large_is n h small) (cases_lt n 10)

-- a number below the limit whose digits these are, and none else
abbrev checked : ℕ → ℕ → List ℕ → Option ℕ
checked v limit digits = cond (nat_lt v limit && bytes_eq (decimal v) digits) (Some v) None

none_below : (v : ℕ) (digits : List ℕ) → None ≡ checked v 0 digits
none_below v digits = go (nat_lt v 0) refl where
  go : (b : Bool) → nat_lt v 0 ≡ b → None ≡ cond (b && bytes_eq (decimal v) digits) (Some v) None
  go true is = absurd (omega (arith, ltb-true v 0 is))
  go false is = refl

last_is : (v n : ℕ) (digits : List ℕ) → v ≡ n → bytes_eq (decimal n) digits ≡ true → Some n ≡ checked v (suc n) digits
last_is v n digits e is = subst (λ w. Some n ≡ checked w (suc n) digits) (sym e) (rw (lt-ltb n (suc n) (omega arith), is) refl)

never : (n : ℕ) (digits : List ℕ) (b : Bool) → bytes_eq (decimal n) digits ≡ false → None ≡ cond (b && bytes_eq (decimal n) digits) (Some n) None
never n digits true is = rw is refl
never n digits false is = refl

last_is_not : (v n : ℕ) (digits : List ℕ) → bytes_eq (decimal n) digits ≡ false → checked v n digits ≡ checked v (suc n) digits
last_is_not v n digits is = ⊎_elim (λ (e : v ≡ n). same e) (λ (ne : v ≢ n). other ne) (cases_eq v n) where
  same : v ≡ n → checked v n digits ≡ checked v (suc n) digits
  same e = subst (λ w. checked w n digits ≡ checked w (suc n) digits) (sym e) (sym (never n digits (nat_lt n n) is) ∙ never n digits (nat_lt n (suc n)) is)

  other : v ≢ n → checked v n digits ≡ checked v (suc n) digits
  other ne = ap (λ (b : Bool). cond (b && bytes_eq (decimal v) digits) (Some v) None) (ltb_from_iff (λ (t : nat_lt v n ≡ true). omega (arith, ltb-true v n t), λ (l : v < suc n). lt-ltb v n (omega (arith, ne))))

pub below_is : (limit : ℕ) (digits : List ℕ) → limit ≤ 100
    → number_below limit digits ≡ cond (nat_lt (two_digits digits) limit && bytes_eq (decimal (two_digits digits)) digits) (Some (two_digits digits)) None
below_is zero digits few = none_below (two_digits digits) digits
below_is (suc n) digits few = go (bytes_eq (decimal n) digits) refl (below_is n digits (omega arith)) where
  go : (b : Bool) → bytes_eq (decimal n) digits ≡ b → number_below n digits ≡ checked (two_digits digits) n digits → cond b (Some n) (number_below n digits) ≡ checked (two_digits digits) (suc n) digits
  go true is ih = last_is (two_digits digits) n digits (ap two_digits (sym ((bytes_eq-Decides (decimal n) digits).0 is)) ∙ value_is n (omega arith)) is
  go false is ih = ih ∙ last_is_not (two_digits digits) n digits is
