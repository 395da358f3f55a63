-- The objects of a relay's base values.
use Rattle.std.proofs.Common.{◌≡◌, ℕ, zero, suc, ◌<◌, ◌≤◌, Bool, true, false, not, ◌&&◌, inl, inr, ◌↔◌, List, [], ◌∷◌, refl, sym, ◌∙◌, ap, subst, arith, nat_le, le-leb, leb-true}
use Rattle.std.proofs.lemmas.Bool.{cases_eq, or_cases, or_left, or_right, and_parts, and_from, not-true, not_from_false}
use Rattle.std.proofs.lemmas.List.Elements.{filter_agree}
use Rattle.sv_world.specs.declared.action.Action.{Action}
use Rattle.sv_world.specs.Sets.{read_set}
use Rattle.sv_world.specs.Control.{is_in, below, action_at, last_writer, needed_for, reads_committed, head_for}
use Rattle.sv_world.specs.Faults.{is_ascending}
use Rattle.sv_world.proofs.Members.{is_in-head, is_in-tail, is_in-one, is_in-cons_cases, is_in-append_left, is_in-append_right, is_in-append_cases, is_in-filter, is_in-filter_parts, same_test}
use Rattle.sv_world.proofs.Ascending.{ascending-filter, ascending-push}
use Rattle.sv_world.proofs.Writers.{last_writer-agree}
use Rattle.sv_world.proofs.Needs.{needed-bounds, needed-agree}

pub is_in-below : (n x : ℕ) → x < n → is_in x (below n) ≡ true
is_in-below zero x l = absurd (omega arith)
is_in-below (suc n) x l =
    let less = is_in-below n x in
    elim (cases_eq x n) [
      | inl e ↦ is_in-append_right x (below n) (n ∷ []) (subst (λ (m : ℕ). is_in x (m ∷ []) ≡ true) e (is_in-head x []))
      | inr ne ↦ is_in-append_left x (below n) (n ∷ []) (less (omega arith))
    ]

pub below-is_in : (n x : ℕ) → is_in x (below n) ≡ true → x < n
below-is_in zero x h = cc
below-is_in (suc n) x h =
    let less = below-is_in n x in
    elim (is_in-append_cases x (below n) (n ∷ []) h) [ inl l ↦ (let m = less l in omega arith) | inr r ↦ (let e : x ≡ n = is_in-one x n r in omega arith) ]

pub below-ascending : (n : ℕ) → is_ascending (below n) ≡ true
below-ascending zero = refl
below-ascending (suc n) = ascending-push (below n) n (below-ascending n) (below-is_in n)

pub reads_committed-from : (A : List Action) (c x k : ℕ) (ks : List ℕ) → is_in k ks ≡ true → is_in x (read_set (action_at A k)) ≡ true → last_writer A x k ≤ c →
    reads_committed A c x ks ≡ true
reads_committed-from A c x k [] h reads low = cc
reads_committed-from A c x k (m ∷ ms) h reads low =
    let here = is_in x (read_set (action_at A m)) && nat_le (last_writer A x m) c in
    elim (is_in-cons_cases k m ms h) [
      | inl e ↦ or_left here (reads_committed A c x ms)
          (subst (λ (n : ℕ). (is_in x (read_set (action_at A n)) && nat_le (last_writer A x n) c) ≡ true) e
          (and_from (is_in x (read_set (action_at A k))) (nat_le (last_writer A x k) c) reads (le-leb (last_writer A x k) c low)))
      | inr r ↦ or_right here (reads_committed A c x ms) (reads_committed-from A c x k ms r reads low)
    ]

pub reads_committed-parts : (A : List Action) (c x : ℕ) (ks : List ℕ) → reads_committed A c x ks ≡ true →
    (k : ℕ) × ((is_in k ks ≡ true) × ((is_in x (read_set (action_at A k)) ≡ true) × (last_writer A x k ≤ c)))
reads_committed-parts A c x [] h = cc
reads_committed-parts A c x (m ∷ ms) h =
    let here = is_in x (read_set (action_at A m)) && nat_le (last_writer A x m) c in
    elim (or_cases here (reads_committed A c x ms) h) [
      | inl e ↦ (let p = and_parts (is_in x (read_set (action_at A m))) (nat_le (last_writer A x m) c) e in (m, (is_in-head m ms, (p.0, leb-true (last_writer A x m) c p.1))))
      | inr r ↦ (let p = reads_committed-parts A c x ms r in (p.0, (is_in-tail p.0 m ms p.1.0, p.1.1)))
    ]

pub head_for-ascending : (objects : ℕ) (A : List Action) (c : ℕ) (s g : List ℕ) (i : ℕ) → is_ascending (head_for objects A c s g i) ≡ true
head_for-ascending objects A c s g i =
    ascending-filter (λ (x : ℕ). reads_committed A c x (needed_for A c s i) && not (is_in x g)) (below objects) (below-ascending objects)

pub head_for-iff : (objects : ℕ) (A : List Action) (c : ℕ) (s g : List ℕ) (i x : ℕ) → (is_in x (head_for objects A c s g i) ≡ true) ↔
    ((x < objects) × ((is_in x g ≡ false) × ((k : ℕ) × ((is_in k (needed_for A c s i) ≡ true) × ((is_in x (read_set (action_at A k)) ≡ true) × (last_writer A x k ≤ c))))))
head_for-iff objects A c s g i x =
    let test = λ (y : ℕ). reads_committed A c y (needed_for A c s i) && not (is_in y g) in (
      (λ h.
          let p = is_in-filter_parts test x (below objects) h in
          let q = and_parts (reads_committed A c x (needed_for A c s i)) (not (is_in x g)) p.1 in
          (below-is_in objects x p.0, (not-true (is_in x g) q.1, reads_committed-parts A c x (needed_for A c s i) q.0))),
      (λ p. is_in-filter test x (below objects) (is_in-below objects x p.0)
          (and_from (reads_committed A c x (needed_for A c s i)) (not (is_in x g))
          (reads_committed-from A c x p.1.1.0 (needed_for A c s i) p.1.1.1.0 p.1.1.1.1.0 p.1.1.1.1.1) (not_from_false (is_in x g) p.1.0))),
    )

reads_committed-into : (A B : List Action) (c i x : ℕ) (ks : List ℕ) → ((k : ℕ) → c < k → k ≤ i → action_at A k ≡ action_at B k) →
    ((k : ℕ) → is_in k ks ≡ true → (c < k) × (k ≤ i)) → reads_committed A c x ks ≡ true → reads_committed B c x ks ≡ true
reads_committed-into A B c i x ks same within h =
    let p = reads_committed-parts A c x ks h in
    let k = p.0 in
    let b = within k p.1.0 in
    let low : c < k = b.0 in
    let high : k ≤ i = b.1 in
    let most : last_writer A x k ≤ c = p.1.1.1 in
    reads_committed-from B c x k ks p.1.0 (subst (λ (a : Action). is_in x (read_set a) ≡ true) (same k low high) p.1.1.0)
    (elim (last_writer-agree A B c x k (λ m a d. same m a (omega arith))) [ inl e ↦ omega arith | inr e ↦ e.1 ])

-- The objects too depend only on the actions above the commit, and on what was sent above it.
pub head_for-agree : (objects : ℕ) (A B : List Action) (c : ℕ) (s t g : List ℕ) (i : ℕ) → c < i → ((k : ℕ) → c < k → k ≤ i → action_at A k ≡ action_at B k) →
    ((j : ℕ) → c < j → is_in j s ≡ is_in j t) → head_for objects A c s g i ≡ head_for objects B c t g i
head_for-agree objects A B c s t g i l same alike =
    let e : needed_for A c s i ≡ needed_for B c t i = needed-agree A B c s t i l same alike in
    filter_agree (λ (x : ℕ). reads_committed A c x (needed_for A c s i) && not (is_in x g)) (λ (x : ℕ). reads_committed B c x (needed_for B c t i) && not (is_in x g))
    (λ x. ap (λ (b : Bool). b && not (is_in x g))
    (same_test (reads_committed A c x (needed_for A c s i)) (reads_committed B c x (needed_for A c s i))
    (reads_committed-into A B c i x (needed_for A c s i) same (needed-bounds A c s i l))
    (reads_committed-into B A c i x (needed_for A c s i) (λ k a b. sym (same k a b)) (needed-bounds A c s i l))
    ∙ ap (λ (ks : List ℕ). reads_committed B c x ks) e))
    (below objects)
