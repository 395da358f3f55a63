-- The sweep from a position downwards, for any function that gives the positions that each wanted one makes wanted.
use Rattle.std.proofs.Common.{◌≡◌, ℕ, zero, suc, ◌<◌, ◌≤◌, true, if◌then◌else◌, inl, inr, List, [], ◌∷◌, ◌++◌, refl, sym, subst, arith}
use Rattle.std.proofs.lemmas.Bool.{cond_both, cases_eq}
use Rattle.sv_world.specs.Control.{is_in}
use Rattle.sv_world.specs.Faults.{is_ascending}
use Rattle.sv_world.proofs.Members.{is_in-head, is_in-one, is_in-append_left, is_in-append_right, is_in-append_cases}
use Rattle.sv_world.proofs.Ascending.{ascending-push, ascending_same}

abbrev pub sweep : (ℕ → List ℕ) → ℕ → List ℕ → List ℕ
sweep M zero wanted = []
sweep M (suc n) wanted = if is_in (suc n) wanted then sweep M n (wanted ++ M (suc n)) ++ suc n ∷ [] else sweep M n wanted

-- Each position makes only lower ones wanted, and never 0.
abbrev pub AreLower : (ℕ → List ℕ) → Type 0
AreLower M = (k j : ℕ) → is_in j (M k) ≡ true → (0 < j) × (j < k)

pub sweep-most : (M : ℕ → List ℕ) (n : ℕ) (w : List ℕ) (j : ℕ) → is_in j (sweep M n w) ≡ true → (0 < j) × (j ≤ n)
sweep-most M zero w j h = cc
sweep-most M (suc n) w j h =
    let taken = sweep-most M n (w ++ M (suc n)) j in
    let left = sweep-most M n w j in
    cond_both (is_in (suc n) w) (sweep M n (w ++ M (suc n)) ++ suc n ∷ []) (sweep M n w) (λ (xs : List ℕ). is_in j xs ≡ true → (0 < j) × (j ≤ suc n))
    (λ e g. elim (is_in-append_cases j (sweep M n (w ++ M (suc n))) (suc n ∷ []) g) [
      | inl l ↦ (let b = taken l in (b.0, omega arith))
      | inr r ↦ (let s : j ≡ suc n = is_in-one j (suc n) r in (omega arith, omega arith))
    ])
    (λ e g. let b = left g in (b.0, omega arith))
    h

pub sweep-has : (M : ℕ → List ℕ) (n : ℕ) (w : List ℕ) (j : ℕ) → is_in j w ≡ true → 0 < j → j ≤ n → is_in j (sweep M n w) ≡ true
sweep-has M zero w j h low high = absurd (omega arith)
sweep-has M (suc n) w j h low high =
    let taken = sweep-has M n (w ++ M (suc n)) j (is_in-append_left j w (M (suc n)) h) low in
    let left = sweep-has M n w j h low in
    cond_both (is_in (suc n) w) (sweep M n (w ++ M (suc n)) ++ suc n ∷ []) (sweep M n w) (λ (xs : List ℕ). is_in j xs ≡ true)
    (λ e. elim (cases_eq j (suc n)) [
      | inl s ↦ is_in-append_right j (sweep M n (w ++ M (suc n))) (suc n ∷ []) (subst (λ (z : ℕ). is_in j (z ∷ []) ≡ true) s (is_in-head j []))
      | inr s ↦ is_in-append_left j (sweep M n (w ++ M (suc n))) (suc n ∷ []) (taken (omega arith))
    ])
    (λ e. elim (cases_eq j (suc n)) [
      | inl s ↦ (let m : is_in (suc n) w ≡ true = subst (λ (z : ℕ). is_in z w ≡ true) s h in cc)
      | inr s ↦ left (omega arith)
    ])

pub sweep-closed : (M : ℕ → List ℕ) → AreLower M → (n : ℕ) (w : List ℕ) (k j : ℕ) → is_in k (sweep M n w) ≡ true → is_in j (M k) ≡ true → is_in j (sweep M n w) ≡ true
sweep-closed M lower zero w k j h m = cc
sweep-closed M lower (suc n) w k j h m =
    let taken = λ (g : is_in k (sweep M n (w ++ M (suc n))) ≡ true). sweep-closed M lower n (w ++ M (suc n)) k j g m in
    let left = λ (g : is_in k (sweep M n w) ≡ true). sweep-closed M lower n w k j g m in
    cond_both (is_in (suc n) w) (sweep M n (w ++ M (suc n)) ++ suc n ∷ []) (sweep M n w) (λ (xs : List ℕ). is_in k xs ≡ true → is_in j xs ≡ true)
    (λ e g. is_in-append_left j (sweep M n (w ++ M (suc n))) (suc n ∷ [])
    (elim (is_in-append_cases k (sweep M n (w ++ M (suc n))) (suc n ∷ []) g) [
      | inl l ↦ taken l
      | inr r ↦
          (let s : k ≡ suc n = is_in-one k (suc n) r in
          let m' : is_in j (M (suc n)) ≡ true = subst (λ (z : ℕ). is_in j (M z) ≡ true) s m in
          let b = lower k j m in
          sweep-has M n (w ++ M (suc n)) j (is_in-append_right j w (M (suc n)) m') b.0 (omega arith))
    ]))
    (λ e g. left g)
    h

pub sweep-sound : (M : ℕ → List ℕ) (P : ℕ → Type 0) → ((k j : ℕ) → P k → is_in j (M k) ≡ true → P j) → (n : ℕ) (w : List ℕ) →
    ((j : ℕ) → j ≤ n → is_in j w ≡ true → P j) → (j : ℕ) → is_in j (sweep M n w) ≡ true → P j
sweep-sound M P step zero w start j h = cc
sweep-sound M P step (suc n) w start j h =
    let taken = λ (g : (i : ℕ) → i ≤ n → is_in i (w ++ M (suc n)) ≡ true → P i). sweep-sound M P step n (w ++ M (suc n)) g j in
    let left = sweep-sound M P step n w (λ i l m. start i (omega arith) m) j in
    cond_both (is_in (suc n) w) (sweep M n (w ++ M (suc n)) ++ suc n ∷ []) (sweep M n w) (λ (xs : List ℕ). is_in j xs ≡ true → P j)
    (λ e g.
    let top : P (suc n) = start (suc n) (omega arith) e in
    elim (is_in-append_cases j (sweep M n (w ++ M (suc n))) (suc n ∷ []) g) [
      | inl l ↦ taken (λ i u m. elim (is_in-append_cases i w (M (suc n)) m) [ inl a ↦ start i (omega arith) a | inr b ↦ step (suc n) i top b ]) l
      | inr r ↦ subst P (sym (is_in-one j (suc n) r)) top
    ])
    (λ e g. left g)
    h

pub sweep-ascending : (M : ℕ → List ℕ) (n : ℕ) (w : List ℕ) → is_ascending (sweep M n w) ≡ true
sweep-ascending M zero w = refl
sweep-ascending M (suc n) w =
    let taken = sweep-ascending M n (w ++ M (suc n)) in
    let left = sweep-ascending M n w in
    cond_both (is_in (suc n) w) (sweep M n (w ++ M (suc n)) ++ suc n ∷ []) (sweep M n w) (λ (xs : List ℕ). is_ascending xs ≡ true)
    (λ e. ascending-push (sweep M n (w ++ M (suc n))) (suc n) taken (λ j m. let b = sweep-most M n (w ++ M (suc n)) j m in omega arith))
    (λ e. left)

-- A sweep stays within another where each of its wanted positions is there, and each position made wanted by one that has Q is made wanted there too.
pub sweep-into : (M N : ℕ → List ℕ) (Q : ℕ → Type 0) (n m : ℕ) (w v : List ℕ) → AreLower N →
    ((j : ℕ) → j ≤ n → is_in j w ≡ true → (is_in j (sweep N m v) ≡ true) × Q j) →
    ((k j : ℕ) → Q k → is_in j (M k) ≡ true → (is_in j (N k) ≡ true) × Q j) →
    (j : ℕ) → is_in j (sweep M n w) ≡ true → (is_in j (sweep N m v) ≡ true) × Q j
sweep-into M N Q n m w v lower start step =
    sweep-sound M (λ j. (is_in j (sweep N m v) ≡ true) × Q j)
    (λ k j p h. let s = step k j p.1 h in (sweep-closed N lower m v k j p.0 s.0, s.1))
    n w start

-- A sweep looks at the wanted positions from n down to 1 alone.
pub sweep-same : (M : ℕ → List ℕ) → AreLower M → (n : ℕ) (w v : List ℕ) →
    ((j : ℕ) → j ≤ n → is_in j w ≡ true → is_in j v ≡ true) → ((j : ℕ) → j ≤ n → is_in j v ≡ true → is_in j w ≡ true) → (is_in 0 v ≡ true → ⊥) →
    sweep M n w ≡ sweep M n v
sweep-same M lower n w v into from none =
    ascending_same (sweep M n w) (sweep M n v) (sweep-ascending M n w) (sweep-ascending M n v)
    (λ j m. (sweep-into M M (λ k. Unit {0}) n n w v lower
    (λ k l h. (sweep-has M n v k (into k l h) (positive k (into k l h)) l, tt)) (λ k i q h. (h, tt)) j m).0)
    (λ j m. (sweep-into M M (λ k. Unit {0}) n n v w lower
    (λ k l h. (sweep-has M n w k (from k l h) (positive k h) l, tt)) (λ k i q h. (h, tt)) j m).0)
  where
    positive : (k : ℕ) → is_in k v ≡ true → 0 < k
    positive zero h = absurd (none h)
    positive (suc k) h = omega arith
