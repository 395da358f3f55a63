-- Whole lines, and what a torn write leaves of them.
use Rattle.std.proofs.Common.{◌≡◌, inl, inr, ℕ, zero, suc, ◌≤◌, true, false, cond, ◌==◌, List, [], ◌∷◌, ◌++◌, length, refl, sym, ◌∙◌, ap, subst, arith, append_assoc}
use Rattle.std.proofs.lemmas.Bool.{cases_Bool, cond-true, cond-false, false≢true}
use Rattle.std.proofs.lemmas.List.{append-nil}
use Rattle.sv_log.specs.Pictures.{zeros}
use Rattle.sv_log.specs.Crashes.{Torn}
use Rattle.sv_log.specs.Texts.{has_line, whole, IsText, IsFront, Masked}

-- a line that ends does so whatever follows
has_line-append : (x r : List ℕ) → has_line x ≡ true → has_line (x ++ r) ≡ true
has_line-append [] r h = absurd (false≢true h)
has_line-append (b ∷ x) r h = elim (cases_Bool (b == 0)) [
  | inl lost ↦ absurd (false≢true (sym (cond-true (b == 0) false (cond (b == 10) true (has_line x)) lost) ∙ h))
  | inr some ↦ elim (cases_Bool (b == 10)) [
    | inl lf ↦ cond-false (b == 0) false (cond (b == 10) true (has_line (x ++ r))) some ∙ cond-true (b == 10) true (has_line (x ++ r)) lf
    | inr other ↦
        let later : has_line x ≡ true = sym (cond-false (b == 10) true (has_line x) other) ∙ sym (cond-false (b == 0) false (cond (b == 10) true (has_line x)) some) ∙ h in
        cond-false (b == 0) false (cond (b == 10) true (has_line (x ++ r))) some ∙ cond-false (b == 10) true (has_line (x ++ r)) other ∙ has_line-append x r later
  ]
]

pub text_parts : (b : ℕ) (x : List ℕ) → IsText (b ∷ x) → (has_line (b ∷ x) ≡ true) × IsText x
text_parts b x is = elim (cases_Bool (has_line (b ∷ x))) [
  | inl ends ↦ let e : b ∷ whole x ≡ b ∷ x = sym (cond-true (has_line (b ∷ x)) (b ∷ whole x) [] ends) ∙ is in (ends, cc e)
  | inr none ↦ let e : [] ≡ b ∷ x = sym (cond-false (has_line (b ∷ x)) (b ∷ whole x) [] none) ∙ is in absurd (cc e)
]

-- what stands behind whole lines gives the lines behind them
pub whole-append : (x r : List ℕ) → IsText x → whole (x ++ r) ≡ x ++ whole r
whole-append [] r is = refl
whole-append (b ∷ x) r is =
    let parts = text_parts b x is in
    cond-true (has_line (b ∷ (x ++ r))) (b ∷ whole (x ++ r)) [] (has_line-append (b ∷ x) r parts.0) ∙ ap (λ (l : List ℕ). b ∷ l) (whole-append x r parts.1)

pub text-append : (x y : List ℕ) → IsText x → IsText y → IsText (x ++ y)
text-append x y is more = whole-append x y is ∙ ap (λ (l : List ℕ). x ++ l) more

pub whole_zeros : (n : ℕ) → whole (zeros n) ≡ []
whole_zeros zero = refl
whole_zeros (suc n) = refl

pub whole_text : (x : List ℕ) (n : ℕ) → IsText x → whole (x ++ zeros n) ≡ x
whole_text x n is = whole-append x (zeros n) is ∙ ap (λ (l : List ℕ). x ++ l) (whole_zeros n) ∙ append-nil x

pub front_nil : (x : List ℕ) → IsFront [] x
front_nil x = (x, refl)

pub front_same : (x : List ℕ) → IsFront x x
front_same x = ([], sym (append-nil x))

pub front_more : (x y : List ℕ) → IsFront x (x ++ y)
front_more x y = (y, refl)

pub front_then : (a b c : List ℕ) → IsFront a b → IsFront b c → IsFront a c
front_then a b c f g = (f.0 ++ g.0, g.1 ∙ ap (λ (l : List ℕ). l ++ g.0) f.1 ∙ append_assoc a f.0 g.0)

pub front-append : (x a b : List ℕ) → IsFront a b → IsFront (x ++ a) (x ++ b)
front-append x a b f = (f.0, ap (λ (l : List ℕ). x ++ l) f.1 ∙ sym (append_assoc x a f.0))

whole_lost : (t : ℕ) (l : List ℕ) → t ≡ 0 → whole (t ∷ l) ≡ []
whole_lost t l is = ap (λ (x : ℕ). whole (x ∷ l)) is

-- the whole lines of a torn write are a front of what was written
pub masked_front : (bytes torn : List ℕ) (r : ℕ) → Masked bytes torn → IsFront (whole (torn ++ zeros r)) bytes
masked_front [] [] r m = subst (λ (l : List ℕ). IsFront l []) (sym (whole_zeros r)) (front_nil [])
masked_front [] (t ∷ torn) r m = absurd m
masked_front (b ∷ bytes) [] r m = absurd m
masked_front (b ∷ bytes) (t ∷ torn) r m =
    let rest : List ℕ = torn ++ zeros r in
    elim m.0 [
      | inl lost ↦ subst (λ (l : List ℕ). IsFront l (b ∷ bytes)) (sym (whole_lost t rest lost)) (front_nil (b ∷ bytes))
      | inr kept ↦ elim (cases_Bool (has_line (t ∷ rest))) [
        | inl ends ↦
            let f = masked_front bytes torn r m.1 in
            let e : b ∷ bytes ≡ (t ∷ whole rest) ++ f.0 = ap (λ (l : List ℕ). b ∷ l) f.1 ∙ ap (λ (x : ℕ). x ∷ (whole rest ++ f.0)) (sym kept) in
            subst (λ (l : List ℕ). IsFront l (b ∷ bytes)) (sym (cond-true (has_line (t ∷ rest)) (t ∷ whole rest) [] ends)) (f.0, e)
        | inr none ↦ subst (λ (l : List ℕ). IsFront l (b ∷ bytes)) (sym (cond-false (has_line (t ∷ rest)) (t ∷ whole rest) [] none)) (front_nil (b ∷ bytes))
      ]
    ]

-- over zeros a torn write is masked
pub torn_masked : (n : ℕ) (bytes torn : List ℕ) → Torn (zeros n) bytes torn → length bytes ≤ n → Masked bytes torn
torn_masked zero [] [] h le = tt
torn_masked zero [] (t ∷ torn) h le = absurd h
torn_masked zero (b ∷ bytes) torn h le = absurd (omega (arith, le))
torn_masked (suc n) [] [] h le = tt
torn_masked (suc n) [] (t ∷ torn) h le = absurd h
torn_masked (suc n) (b ∷ bytes) [] h le = absurd h
torn_masked (suc n) (b ∷ bytes) (t ∷ torn) h le = (h.0, torn_masked n bytes torn h.1 (omega (arith, le)))

pub masked-append : (p t q u : List ℕ) → Masked p t → Masked q u → Masked (p ++ q) (t ++ u)
masked-append [] [] q u m n = n
masked-append [] (t ∷ ts) q u m n = absurd m
masked-append (b ∷ p) [] q u m n = absurd m
masked-append (b ∷ p) (t ∷ ts) q u m n = (m.0, masked-append p ts q u m.1 n)

pub length_masked : (p t : List ℕ) → Masked p t → length t ≡ length p
length_masked [] [] m = refl
length_masked [] (t ∷ ts) m = absurd m
length_masked (b ∷ p) [] m = absurd m
length_masked (b ∷ p) (t ∷ ts) m = ap suc (length_masked p ts m.1)
