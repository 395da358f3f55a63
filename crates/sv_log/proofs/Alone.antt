-- A folder holds one log alone.
use Rattle.std.proofs.Common.{◌≡◌, ◌≢◌, ◌⊎◌, inl, inr, ⊎_elim, ℕ, zero, suc, ◌+◌, ◌<◌, ◌≤◌, List, [], ◌∷◌, ◌++◌, Option, Some, None, refl, sym, ◌∙◌, ap, subst, arith}
use Rattle.std.proofs.lemmas.Bool.{cases_lt}
use Rattle.sv_log.specs.Pictures.{Picture}
use Rattle.sv_log.specs.Names.{segment_name, state_name, IsNumber}
use Rattle.sv_log.specs.Chains.{StateFile, lines, text_at, text_of, state_at, IsClosed, IsWholeState, IsNewest, IsLog, IsFresh, HasLines, HasLog}
use Rattle.sv_log.specs.Refusals.{IsLast}
use Rattle.sv_log.proofs.Standing.{none_some}
use Rattle.sv_log.proofs.Chained.{closed_low, lines_at}

pub newest_alone : (p : Picture) (a b : ℕ) → IsNewest p a → IsNewest p b → a ≡ b
newest_alone p zero zero f g = refl
newest_alone p zero (suc k) f g = absurd (subst IsWholeState (f (suc k) g.0) g.1)
newest_alone p (suc k) zero f g = absurd (subst IsWholeState (g (suc k) f.0) f.1)
newest_alone p (suc j) (suc k) f g =
    ⊎_elim (λ (low : suc j < suc k). absurd (f.2 (suc k) g.0 low g.1))
    (λ (high : suc k ≤ suc j). ⊎_elim (λ (more : suc k < suc j). absurd (g.2 (suc j) f.0 more f.1)) (λ (same : suc j ≤ suc k). let e : suc j ≡ suc k = omega (arith, high, same) in e) (cases_lt (suc k) (suc j)))
    (cases_lt (suc j) (suc k))

not_later : (p : Picture) (l m : ℕ) → IsLast p l → IsLast p m → l < m → ⊥
not_later p l m f g less = none_some (p (segment_name m)) g.1.0 g.1.1 (f.2 m g.0 less)

pub chain_alone : (p : Picture) (n : ℕ) (ms : List ℕ) (l : ℕ) (ks : List ℕ) (j : ℕ) → IsLast p l → IsLast p j → IsClosed p n ms l → IsClosed p n ks j → (ms ≡ ks) × (l ≡ j)
chain_alone p n [] l [] j f g c d = (refl, sym c ∙ d)
chain_alone p n [] l (k ∷ ks) j f g c d =
    let low = closed_low p (n + lines (text_at p n)) ks j d.5 in
    let some = lines_at p n d.3 in
    absurd (not_later p l j f g (omega (arith, c, low, some)))
chain_alone p n (m ∷ ms) l [] j f g c d =
    let low = closed_low p (n + lines (text_at p n)) ms l c.5 in
    let some = lines_at p n c.3 in
    absurd (not_later p j l g f (omega (arith, d, low, some)))
chain_alone p n (m ∷ ms) l (k ∷ ks) j f g c d =
    let rest = chain_alone p (n + lines (text_at p n)) ms l ks j f g c.5 d.5 in
    (ap (λ (x : ℕ). x ∷ ms) (c.0 ∙ sym d.0) ∙ ap (λ (l : List ℕ). k ∷ l) rest.0, rest.1)

pub last_of : (p : Picture) (state : ℕ) (closed : List ℕ) (last : ℕ) → IsLog p state closed last → IsLast p last
last_of p state closed last log = (log.number, log.there, log.none)

pub state_is : (s t : StateFile) → s.0 ≡ t.0 → s.1 ≡ t.1 → s ≡ t
state_is s t number bytes = ap (λ (n : ℕ). (n, s.1)) number ∙ ap (λ (b : List ℕ). (t.0, b)) bytes

pub lines_alone : (p : Picture) (s t : StateFile) (x y : List ℕ) → HasLines s x p → HasLines t y p → (s ≡ t) × (x ≡ y)
lines_alone p s t x y f g =
    let same : s.0 ≡ t.0 = newest_alone p s.0 t.0 f.2.newest g.2.newest in
    let chain : IsClosed p (s.0 + 1) g.0 g.1 = subst (λ (k : ℕ). IsClosed p (k + 1) g.0 g.1) (sym same) g.2.chain in
    let both = chain_alone p (s.0 + 1) f.0 f.1 g.0 g.1 (last_of p s.0 f.0 f.1 f.2) (last_of p t.0 g.0 g.1 g.2) f.2.chain chain in
    (state_is s t same (f.4 ∙ ap (state_at p) same ∙ sym g.4), f.3 ∙ ap (λ (ms : List ℕ). text_of p ms ++ text_at p f.1) both.0 ∙ ap (λ (l : ℕ). text_of p g.0 ++ text_at p l) both.1 ∙ sym g.3)

fresh_no_lines : (world : List ℕ) (p : Picture) (s : StateFile) (x : List ℕ) → IsFresh world p → HasLines s x p → ⊥
fresh_no_lines world p s x fresh h = none_some (p (segment_name h.1)) h.2.there.0 h.2.there.1 (fresh.segments h.1 h.2.number)

pub holds_alone : (world : List ℕ) (p : Picture) (s t : StateFile) (x y : List ℕ) → HasLog world s x p → HasLog world t y p → (s ≡ t) × (x ≡ y)
holds_alone world p s t x y f g = elim f [
  | inl a ↦ elim g [
    | inl b ↦ lines_alone p s t x y a.1 b.1
    | inr b ↦ absurd (fresh_no_lines world p s x b.0 a.1)
  ]
  | inr a ↦ elim g [
    | inl b ↦ absurd (fresh_no_lines world p t y a.0 b.1)
    | inr b ↦ (a.1 ∙ sym b.1, a.2 ∙ sym b.2)
  ]
]
