-- What a session lacks of objects grows with the position, shrinks with time, and is news where it was nothing one position earlier.
use Rattle.std.proofs.Common.{◌≡◌, ℕ, zero, suc, ◌<◌, ◌≤◌, true, false, inl, inr, List, [], ◌∷◌, ◌++◌, length, refl, sym, ◌∙◌, ap, subst, arith}
use Rattle.std.proofs.lemmas.Bool.{cond_both, cases_Bool, cases_eq}
use Rattle.std.proofs.lemmas.List.{take-append-le}
use Rattle.sv_world.specs.declared.action.Action.{Action}
use Rattle.sv_world.specs.Sets.{read_set, write_set}
use Rattle.sv_world.specs.Control.{is_in, action_at, last_writer, needed_for, reading, with_reading, up_to, needed_to_see, head_to_see, SentIsClosed}
use Rattle.sv_world.proofs.Ascending.{ascending_shorter}
use Rattle.sv_world.proofs.Writers.{last_writer-below}
use Rattle.sv_world.proofs.Written.{written_is_read}
use Rattle.sv_world.proofs.Needs.{needed-ascending, needed-into, needed-agree, needed-target, needed-closed_writer}
use Rattle.sv_world.proofs.Bases.{head_for-agree}
use Rattle.sv_world.proofs.Seeing.{with_reading-before, with_reading-last, up_to-has, up_to-parts, up_to-alike, see-ascending, see-parts, see-from, see-bounds, see-direct, see-closed, see-sound}

-- ---- growth

-- Where the last writer of an object below `low` is above the commit and was not sent, so is that below each later position: one that was sent
-- would have its own last writer sent with it. What holds of it passes down to the first.
writers-reached : (A : List Action) (c : ℕ) (s : List ℕ) (P : ℕ → Type 0) (x low : ℕ) → SentIsClosed A c s →
    ((k x : ℕ) → P k → is_in x (read_set (action_at A k)) ≡ true → c < last_writer A x k → is_in (last_writer A x k) s ≡ false → P (last_writer A x k)) →
    c < last_writer A x low → is_in (last_writer A x low) s ≡ false → (i : ℕ) → low ≤ i →
    (is_in (last_writer A x i) s ≡ false) × ((last_writer A x low ≤ last_writer A x i) × (P (last_writer A x i) → P (last_writer A x low)))
writers-reached A c s P x low closed step above free zero l =
    let e : low ≡ zero = omega arith in
    let none : c < last_writer A x zero = subst (λ (m : ℕ). c < last_writer A x m) e above in
    absurd (omega arith)
writers-reached A c s P x low closed step above free (suc i) l =
    let first = last_writer A x low in
    let j = last_writer A x i in
    elim (cases_eq low (suc i)) [
      | inl e ↦ subst (λ (m : ℕ). (is_in (last_writer A x m) s ≡ false) × ((first ≤ last_writer A x m) × (P (last_writer A x m) → P first))) e
          (free, (omega arith, λ p. p))
      | inr ne ↦
          (let again = writers-reached A c s P x low closed step above free i (omega arith) in
          let up : first ≤ j = again.1.0 in
          let low' : 0 < j = omega arith in
          let under : j < i = last_writer-below A x i low' in
          let over' : c < j = omega arith in
          cond_both (is_in x (write_set (action_at A i))) i j (λ (m : ℕ). (is_in m s ≡ false) × ((first ≤ m) × (P m → P first)))
          (λ e.
          let reads : is_in x (read_set (action_at A i)) ≡ true = written_is_read (action_at A i) x e in (
            elim (cases_Bool (is_in i s)) [
              | inl y ↦ (let z : is_in j s ≡ true = closed i x y reads over' in let w : is_in j s ≡ false = again.0 in cc)
              | inr no' ↦ no'
            ],
            (omega arith, λ p. again.1.1 (step i x p reads over' again.0)),
          ))
          (λ e. again))
    ]

pub see-grows : (A : List Action) (c : ℕ) (s xs : List ℕ) (m n : ℕ) → SentIsClosed A c s → m ≤ n → n ≤ length A →
    (j : ℕ) → is_in j (needed_to_see A c s xs m) ≡ true → is_in j (needed_to_see A c s xs n) ≡ true
see-grows A c s xs m n closed le l =
    let step = λ (k x : ℕ) (h : is_in k (needed_to_see A c s xs n) ≡ true) (reads : is_in x (read_set (action_at A k)) ≡ true)
    (above : c < last_writer A x k) (free : is_in (last_writer A x k) s ≡ false). see-closed A c s xs n k x l h reads above free in
    see-sound A c s xs m (λ (k : ℕ). is_in k (needed_to_see A c s xs n) ≡ true) (omega arith)
    (λ x h above free.
    let r = writers-reached A c s (λ (k : ℕ). is_in k (needed_to_see A c s xs n) ≡ true) x (suc m) closed step above free (suc n) (omega arith) in
    let up : last_writer A x (suc m) ≤ last_writer A x (suc n) = r.1.0 in
    r.1.1 (see-direct A c s xs n x l h (omega arith) r.0))
    step

pub see-longer : (A : List Action) (c : ℕ) (s xs : List ℕ) (m n : ℕ) → SentIsClosed A c s → m ≤ n → n ≤ length A →
    length (needed_to_see A c s xs m) ≤ length (needed_to_see A c s xs n)
see-longer A c s xs m n closed le l =
    ascending_shorter (needed_to_see A c s xs m) (needed_to_see A c s xs n) (see-ascending A c s xs m) (see-ascending A c s xs n) (see-grows A c s xs m n closed le l)

-- ---- what is above the commit counts alone

pub with_reading-append : (A later : List Action) (n : ℕ) (xs : List ℕ) → n ≤ length A → with_reading (A ++ later) n xs ≡ with_reading A n xs
with_reading-append A later n xs l = ap (λ (B : List Action). B ++ reading xs ∷ []) (take-append-le n A later l)

pub see-append : (A later : List Action) (c : ℕ) (s xs : List ℕ) (n : ℕ) → n ≤ length A → needed_to_see (A ++ later) c s xs n ≡ needed_to_see A c s xs n
see-append A later c s xs n l = ap (λ (R : List Action). up_to n (needed_for R c (up_to n s) (suc n))) (with_reading-append A later n xs l)

-- Lists that agree above the commit agree with the reading action behind them.
reading-agree : (A B : List Action) (c n : ℕ) (xs : List ℕ) → n ≤ length A → n ≤ length B → ((k : ℕ) → c < k → k ≤ n → action_at A k ≡ action_at B k) →
    (k : ℕ) → c < k → k ≤ suc n → action_at (with_reading A n xs) k ≡ action_at (with_reading B n xs) k
reading-agree A B c n xs la lb same k low high =
    elim (cases_eq k (suc n)) [
      | inl e ↦ subst (λ (m : ℕ). action_at (with_reading A n xs) m ≡ action_at (with_reading B n xs) m) (sym e)
          (with_reading-last A n xs la ∙ sym (with_reading-last B n xs lb))
      | inr ne ↦
          (let l : k ≤ n = omega arith in
          with_reading-before A n xs k la l ∙ same k low l ∙ sym (with_reading-before B n xs k lb l))
    ]

pub see-agree : (A B : List Action) (c : ℕ) (s t xs : List ℕ) (n : ℕ) → c ≤ n → n ≤ length A → n ≤ length B →
    ((k : ℕ) → c < k → k ≤ n → action_at A k ≡ action_at B k) → ((j : ℕ) → c < j → is_in j s ≡ is_in j t) →
    needed_to_see A c s xs n ≡ needed_to_see B c t xs n
see-agree A B c s t xs n le la lb same alike =
    ap (up_to n)
    (needed-agree (with_reading A n xs) (with_reading B n xs) c (up_to n s) (up_to n t) (suc n) (omega arith)
    (reading-agree A B c n xs la lb same) (up_to-alike n c s t alike))

pub see_head-agree : (objects : ℕ) (A B : List Action) (c : ℕ) (s t g xs : List ℕ) (n : ℕ) → c ≤ n → n ≤ length A → n ≤ length B →
    ((k : ℕ) → c < k → k ≤ n → action_at A k ≡ action_at B k) → ((j : ℕ) → c < j → is_in j s ≡ is_in j t) →
    head_to_see objects A c s g xs n ≡ head_to_see objects B c t g xs n
see_head-agree objects A B c s t g xs n le la lb same alike =
    head_for-agree objects (with_reading A n xs) (with_reading B n xs) c (up_to n s) (up_to n t) g (suc n) (omega arith)
    (reading-agree A B c n xs la lb same) (up_to-alike n c s t alike)

-- ---- later

pub see-shrinks : (A later : List Action) (early late : ℕ) (s t xs : List ℕ) (n : ℕ) → early ≤ late → n ≤ length A →
    ((k : ℕ) → late < k → is_in k s ≡ true → is_in k t ≡ true) →
    (j : ℕ) → is_in j (needed_to_see (A ++ later) late t xs n) ≡ true → is_in j (needed_to_see A early s xs n) ≡ true
see-shrinks A later early late s t xs n le l more j h =
    let R = with_reading A n xs in
    let h' : is_in j (needed_to_see A late t xs n) ≡ true = subst (λ (ks : List ℕ). is_in j ks ≡ true) (see-append A later late t xs n l) h in
    let b = see-bounds A late t xs n j h' in
    let low : late < j = b.0 in
    let p = see-parts A late t xs n j h' in
    see-from A early s xs n j
    (needed-into R R early late (up_to n s) (up_to n t) (suc n) le (let most : j ≤ n = b.1 in omega arith) (λ k a d. refl)
    (λ i a y. let q = up_to-parts n s i y in up_to-has n t i (more i a q.0) q.1) j p.0)
    p.1

pub see-shorter : (A later : List Action) (early late : ℕ) (s t xs : List ℕ) (n : ℕ) → early ≤ late → n ≤ length A →
    ((k : ℕ) → late < k → is_in k s ≡ true → is_in k t ≡ true) →
    length (needed_to_see (A ++ later) late t xs n) ≤ length (needed_to_see A early s xs n)
see-shorter A later early late s t xs n le l more =
    ascending_shorter (needed_to_see (A ++ later) late t xs n) (needed_to_see A early s xs n) (see-ascending (A ++ later) late t xs n) (see-ascending A early s xs n)
    (see-shrinks A later early late s t xs n le l more)

-- ---- news

-- Where nothing is needed at n, all that is needed at the next position is needed for the action there.
pub see-next : (A : List Action) (c : ℕ) (s xs : List ℕ) (n : ℕ) → n < length A → needed_to_see A c s xs n ≡ [] →
    (j : ℕ) → is_in j (needed_to_see A c s xs (suc n)) ≡ true → is_in j (needed_for A c s (suc n)) ≡ true
see-next A c s xs n l none =
    see-sound A c s xs (suc n) (λ (k : ℕ). is_in k (needed_for A c s (suc n)) ≡ true) (omega arith)
    (λ x h.
    cond_both (is_in x (write_set (action_at A (suc n)))) (suc n) (last_writer A x (suc n))
    (λ (m : ℕ). c < m → is_in m s ≡ false → is_in m (needed_for A c s (suc n)) ≡ true)
    (λ e above free. needed-target A c s (suc n) (omega arith) free)
    (λ e above free.
    let m : is_in (last_writer A x (suc n)) [] ≡ true =
    subst (λ (ks : List ℕ). is_in (last_writer A x (suc n)) ks ≡ true) none (see-direct A c s xs n x (omega arith) h above free) in
    cc))
    (λ k x h reads above free. needed-closed_writer A c s (suc n) k x h reads above free)

pub see_next-shorter : (A : List Action) (c : ℕ) (s xs : List ℕ) (n : ℕ) → n < length A → needed_to_see A c s xs n ≡ [] →
    length (needed_to_see A c s xs (suc n)) ≤ length (needed_for A c s (suc n))
see_next-shorter A c s xs n l none =
    ascending_shorter (needed_to_see A c s xs (suc n)) (needed_for A c s (suc n)) (see-ascending A c s xs (suc n)) (needed-ascending A c s (suc n)) (see-next A c s xs n l none)
