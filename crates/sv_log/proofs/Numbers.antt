-- Numbers in names.
use Rattle.std.proofs.Common.{◌≡◌, ◌≢◌, ◌⊎◌, ⊎_elim, ℕ, zero, suc, ◌+◌, ◌*◌, ◌/◌, ◌%◌, ◌^◌, ◌<◌, ◌≤◌, ◌-◌, List, [], ◌∷◌, ◌++◌, length, take, drop, get_or, codes, Option, Some, None, MatchOption, true, false, inl, inr, refl, sym, ◌∙◌, ap, subst, arith, length-append, take-append-drop}
use Rattle.std.specs.Str.{bytes_eq}
use Rattle.std.proofs.lemmas.Slice.Eq.{bytes_eq-Decides}
use Rattle.std.proofs.lemmas.Bool.{false≢true}
use Rattle.std.proofs.lemmas.Nat.{pow-add, div_below}
use Rattle.std.proofs.lemmas.List.{take_at, drop_at, same_from_push, append_cancel_left, append_cancel_right}
use Rattle.sv_log.specs.Texts.{IsFront}
use Rattle.sv_log.specs.Names.{digits, number_part, HasDigits, IsNumber, IsWrongName, segment_kind, state_kind, segment_name, state_name, rest_name, world_name, new_name}

pub digits_more : (k n : ℕ) → digits (suc k) n ≡ digits k (n / 10) ++ (48 + n % 10) ∷ []
unfolding digits
digits_more k n = refl

pub digits_none : (n : ℕ) → digits zero n ≡ []
unfolding digits
digits_none n = refl

pub length-digits : (k n : ℕ) → length (digits k n) ≡ k
length-digits zero n = ap length (digits_none n)
length-digits (suc k) n =
    let below : length (digits k (n / 10)) ≡ k = length-digits k (n / 10) in
    ap length (digits_more k n) ∙ length-append (digits k (n / 10)) ((48 + n % 10) ∷ []) ∙ (let e : length (digits k (n / 10)) + 1 ≡ suc k = omega (arith, below) in e)

pub power_more : (k : ℕ) → 10 ^ suc k ≡ 10 ^ k * 10
power_more k = ap (λ (m : ℕ). 10 ^ m) (let e : suc k ≡ k + 1 = omega arith in e) ∙ pow-add 10 k 1

-- the smallest number with these digits is the one of so many
pub digits_back : (k m n : ℕ) → digits k m ≡ digits k n → m < 10 ^ k → m ≤ n
digits_back zero m n e small = omega (arith, small)
digits_back (suc k) m n e small =
    let parts = same_from_push (digits k (m / 10)) (digits k (n / 10)) (48 + m % 10) (48 + n % 10) (sym (digits_more k m) ∙ e ∙ digits_more k n) in
    let below : m / 10 < 10 ^ k = div_below m 10 (10 ^ k) (omega arith) (subst (λ (p : ℕ). m < p) (power_more k) small) in
    let front : m / 10 ≤ n / 10 = digits_back k (m / 10) (n / 10) parts.0 below in
    let last : 48 + m % 10 ≡ 48 + n % 10 = parts.1 in
    omega (arith, front, last)

pub digits_injective : (k m n : ℕ) → m < 10 ^ k → n < 10 ^ k → digits k m ≡ digits k n → m ≡ n
digits_injective k m n p q e =
    let low = digits_back k m n e p in
    let high = digits_back k n m (sym e) q in
    omega (arith, low, high)

pub part_injective : (m n : ℕ) → m < 2 ^ 64 → n < 2 ^ 64 → number_part m ≡ number_part n → m ≡ n
unfolding number_part
part_injective m n p q e = digits_injective 20 m n (omega (arith, p)) (omega (arith, q)) (append_cancel_right (digits 20 m) (digits 20 n) (codes ".txt") e)

-- ---- Reading digits

pub match_more : {X : Type 0} (r : Option X) (A B : Type 0) (P Q : X → Type 0) → MatchOption r A P → (A → B) → ((x : X) → P x → Q x) → MatchOption r B Q
match_more None A B P Q m f g = f m
match_more (Some x) A B P Q m f g = g x m

pub no_digits : (bytes : List ℕ) → length bytes ≡ 0 → HasDigits bytes 0
no_digits [] is = (omega arith, sym (digits_none 0))
no_digits (b ∷ bytes) is = absurd (omega (arith, is))

module _ (bytes front : List ℕ) (last : ℕ) (whole : bytes ≡ front ++ last ∷ []) where
  abbrev k : ℕ
  k = length front

  size : length bytes ≡ suc k
  size = ap length whole ∙ length-append front (last ∷ []) ∙ (let e : k + 1 ≡ suc k = omega arith in e)

  pub last_digit : (n : ℕ) → bytes ≡ digits (length bytes) n → (front ≡ digits k (n / 10)) × (last ≡ 48 + n % 10)
  last_digit n is =
      same_from_push front (digits k (n / 10)) last (48 + n % 10)
      (sym whole ∙ is ∙ ap (λ (m : ℕ). digits m n) size ∙ digits_more k n)

  pub none_before : ((n : ℕ) → n < 2 ^ 64 → front ≢ digits k n) → (n : ℕ) → n < 2 ^ 64 → bytes ≢ digits (length bytes) n
  none_before none n small is = none (n / 10) (omega (arith, small)) (last_digit n is).0

  module _ (v : ℕ) (has : HasDigits front v) where
    pub too_great : ((d : ℕ) → d < 10 → last ≡ 48 + d → 2 ^ 64 ≤ v * 10 + d) → (n : ℕ) → n < 2 ^ 64 → bytes ≢ digits (length bytes) n
    too_great great n small is =
        let parts = last_digit n is in
        let low : v ≤ n / 10 = digits_back k v (n / 10) (sym has.1 ∙ parts.0) has.0 in
        let high : 2 ^ 64 ≤ v * 10 + n % 10 = great (n % 10) (omega arith) parts.1 in
        absurd (omega (arith, low, high, small))

    pub one_more : (n : ℕ) → (48 ≤ last) × (last ≤ 57) × (n ≡ v * 10 + (last - 48)) → HasDigits bytes n
    one_more n is =
        let d : ℕ = last - 48 in
        let small : d < 10 = omega (arith, is.0, is.1) in
        let tens : n / 10 ≡ v = omega (arith, is.2, small) in
        let ones : 48 + n % 10 ≡ last = omega (arith, is.2, small, is.0) in
        let below : v < 10 ^ k = has.0 in
        let more : n < 10 ^ k * 10 = omega (arith, is.2, small, below) in (
          subst (λ (m : ℕ). n < 10 ^ m) (sym size) (subst (λ (p : ℕ). n < p) (sym (power_more k)) more),
          whole ∙ ap (λ (l : List ℕ). l ++ last ∷ []) (has.1 ∙ ap (digits k) (sym tens)) ∙ ap (λ (x : ℕ). digits k (n / 10) ++ x ∷ []) (sym ones)
              ∙ sym (digits_more k n) ∙ ap (λ (m : ℕ). digits m n) (sym size),
        )

-- ---- The part of a name that has the number

pub length-part : (n : ℕ) → length (number_part n) ≡ 24
unfolding number_part
length-part n = length-append (digits 20 n) (codes ".txt") ∙ ap (λ (m : ℕ). m + 4) (length-digits 20 n)

pub part_digits : (n : ℕ) → take 20 (number_part n) ≡ digits 20 n
unfolding number_part
part_digits n = take_at (digits 20 n) (codes ".txt") 20 (length-digits 20 n)

pub part_ending : (n : ℕ) → drop 20 (number_part n) ≡ codes ".txt"
unfolding number_part
part_ending n = drop_at (digits 20 n) (codes ".txt") 20 (length-digits 20 n)

-- the digits and the ending make the part
pub part_joined : (n : ℕ) (front back : List ℕ) → HasDigits front n → length front ≡ 20 → back ≡ codes ".txt" → front ++ back ≡ number_part n
unfolding number_part
part_joined n front back has size ends = ap (λ (l : List ℕ). l ++ back) (has.1 ∙ ap (λ (m : ℕ). digits m n) size) ∙ ap (λ (l : List ℕ). digits 20 n ++ l) ends

pub part_value : (m n : ℕ) (front : List ℕ) → HasDigits front m → length front ≡ 20 → n < 2 ^ 64 → front ≡ digits 20 n → m ≡ n
part_value m n front has size small is =
    digits_injective 20 m n (subst (λ (k : ℕ). m < 10 ^ k) size has.0) (omega (arith, small)) (ap (λ (k : ℕ). digits k m) (sym size) ∙ sym has.1 ∙ is)

-- ---- Names that differ

pub segment_injective : (m n : ℕ) → IsNumber m → IsNumber n → segment_name m ≡ segment_name n → m ≡ n
segment_injective m n p q e = part_injective m n (omega (arith, p.1)) (omega (arith, q.1)) (append_cancel_left segment_kind (number_part m) (number_part n) e)

pub state_injective : (m n : ℕ) → IsNumber m → IsNumber n → state_name m ≡ state_name n → m ≡ n
state_injective m n p q e = part_injective m n (omega (arith, p.1)) (omega (arith, q.1)) (append_cancel_left state_kind (number_part m) (number_part n) e)

pub segment_state : (m n : ℕ) → segment_name m ≢ state_name n
segment_state m n e = let first : 106 ≡ 115 = ap (λ (l : List ℕ). get_or l 0 0) e in absurd (omega (arith, first))

pub segment_world : (m : ℕ) → segment_name m ≢ world_name
segment_world m e = let first : 106 ≡ 119 = ap (λ (l : List ℕ). get_or l 0 0) e in absurd (omega (arith, first))

pub segment_new : (m : ℕ) → segment_name m ≢ new_name
segment_new m e = let first : 106 ≡ 110 = ap (λ (l : List ℕ). get_or l 0 0) e in absurd (omega (arith, first))

pub state_world : (m : ℕ) → state_name m ≢ world_name
state_world m e = let first : 115 ≡ 119 = ap (λ (l : List ℕ). get_or l 0 0) e in absurd (omega (arith, first))

pub state_new : (m : ℕ) → state_name m ≢ new_name
state_new m e = let first : 115 ≡ 110 = ap (λ (l : List ℕ). get_or l 0 0) e in absurd (omega (arith, first))

pub world_new : world_name ≢ new_name
world_new e = let first : 119 ≡ 110 = ap (λ (l : List ℕ). get_or l 0 0) e in absurd (omega (arith, first))

pub segment_rest : (m n : ℕ) → segment_name m ≢ rest_name n
segment_rest m n e = let first : 106 ≡ 114 = ap (λ (l : List ℕ). get_or l 0 0) e in absurd (omega (arith, first))

pub state_rest : (m n : ℕ) → state_name m ≢ rest_name n
state_rest m n e = let first : 115 ≡ 114 = ap (λ (l : List ℕ). get_or l 0 0) e in absurd (omega (arith, first))

pub world_rest : (n : ℕ) → world_name ≢ rest_name n
world_rest n e = let first : 119 ≡ 114 = ap (λ (l : List ℕ). get_or l 0 0) e in absurd (omega (arith, first))

-- ---- Reading names

pub strip_some : (name kind rest : List ℕ) → bytes_eq (take (length kind) name) kind ≡ true → rest ≡ drop (length kind) name → name ≡ kind ++ rest
strip_some name kind rest same is =
    sym (take-append-drop (length kind) name) ∙ ap (λ (l : List ℕ). l ++ drop (length kind) name) ((bytes_eq-Decides (take (length kind) name) kind).0 same)
    ∙ ap (λ (l : List ℕ). kind ++ l) (sym is)

pub strip_none : (name kind : List ℕ) → bytes_eq (take (length kind) name) kind ≡ false → IsFront kind name → ⊥
strip_none name kind differ front =
    let same : take (length kind) name ≡ kind = ap (take (length kind)) front.1 ∙ take_at kind front.0 (length kind) refl in
    false≢true (sym differ ∙ (bytes_eq-Decides (take (length kind) name) kind).1 same)

pub wrong_segment : (name rest : List ℕ) → name ≡ segment_kind ++ rest → ((n : ℕ) → IsNumber n → rest ≢ number_part n) → IsWrongName name
wrong_segment name rest is none = (
  inl (rest, is),
  (λ n number. (
    (λ e. none n number (append_cancel_left segment_kind rest (number_part n) (sym is ∙ e))),
    (λ e. let first : 106 ≡ 115 = ap (λ (l : List ℕ). get_or l 0 0) (sym is ∙ e) in absurd (omega (arith, first))),
  )),
)

pub wrong_state : (name rest : List ℕ) → name ≡ state_kind ++ rest → ((n : ℕ) → IsNumber n → rest ≢ number_part n) → IsWrongName name
wrong_state name rest is none = (
  inr (rest, is),
  (λ n number. (
    (λ e. let first : 115 ≡ 106 = ap (λ (l : List ℕ). get_or l 0 0) (sym is ∙ e) in absurd (omega (arith, first))),
    (λ e. none n number (append_cancel_left state_kind rest (number_part n) (sym is ∙ e))),
  )),
)
