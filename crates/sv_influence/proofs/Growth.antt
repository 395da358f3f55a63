-- Taking the greatest wanted position off, and what it makes wanted.
use Rattle.std.proofs.Common.{◌≡◌, ℕ, zero, suc, ◌<◌, ◌≤◌, inl, inr, true, false, ◌&&◌, not, List, [], ◌∷◌, ◌++◌, filter, reverse, refl, sym, ◌∙◌, ap, subst, nat_le, arith, append_assoc}
use Rattle.std.proofs.lemmas.Bool.{and_parts, and_from, not-true, not_from_false, leb-true, le-leb}
use Rattle.std.proofs.lemmas.List.{reverse-append, reverse-reverse}
use Rattle.sv_world.specs.declared.action.Action.{Action}
use Rattle.sv_world.specs.Sets.{read_set}
use Rattle.sv_world.specs.Control.{is_in, action_at, last_writer, needed_for, reads_committed, head_for}
use Rattle.sv_world.specs.Faults.{is_ascending}
use Rattle.sv_world.proofs.Members.{is_in-head, is_in-one, is_in-cons_cases, is_in-append_left, is_in-append_right, is_in-append_cases, is_in-filter, is_in-filter_parts, same_test}
use Rattle.sv_world.proofs.Ascending.{ascending-push, ascending-head, ascending-tail, ascending_same}
use Rattle.sv_world.proofs.Sweeps.{sweep, AreLower, sweep-has, sweep-closed, sweep-sound, sweep-ascending}
use Rattle.sv_world.proofs.Bases.{reads_committed-from, reads_committed-parts, head_for-ascending, head_for-iff}

pub ascending-last : (xs : List ℕ) (y : ℕ) → is_ascending (xs ++ y ∷ []) ≡ true → (j : ℕ) → is_in j xs ≡ true → j < y
ascending-last [] y h j m = cc
ascending-last (x ∷ xs) y h j m =
    elim (is_in-cons_cases j x xs m) [
      | inl e ↦ (let l : x < y = ascending-head x (xs ++ y ∷ []) h y (is_in-append_right y xs (y ∷ []) (is_in-head y [])) in omega arith)
      | inr r ↦ ascending-last xs y (ascending-tail x (xs ++ y ∷ []) h) j r
    ]

-- With the greatest wanted position p taken off, the sweep has p last, and before it the sweep of the rest with what p makes wanted.
pub sweep-pop : (M : ℕ → List ℕ) → AreLower M → (n : ℕ) (w v : List ℕ) (p : ℕ) → 0 < p → p ≤ n → ((j : ℕ) → is_in j w ≡ true → (0 < j) × (j < p)) →
    ((j : ℕ) → is_in j v ≡ is_in j (w ++ M p)) → sweep M n (w ++ p ∷ []) ≡ sweep M n v ++ p ∷ []
sweep-pop M lower n w v p low high under same =
    let here : is_in p (sweep M n (w ++ p ∷ [])) ≡ true = sweep-has M n (w ++ p ∷ []) p (is_in-append_right p w (p ∷ []) (is_in-head p [])) low high in
    let wanted : (j : ℕ) → is_in j v ≡ true → (0 < j) × (j < p) =
    λ j m. elim (is_in-append_cases j w (M p) (sym (same j) ∙ m)) [ inl l ↦ under j l | inr r ↦ lower p j r ] in
    let less : (j : ℕ) → is_in j (sweep M n v) ≡ true → j < p =
    sweep-sound M (λ (j : ℕ). j < p) (λ k j a b. let c = lower k j b in omega arith) n v (λ j l m. (wanted j m).1) in
    let from_v : (j : ℕ) → is_in j v ≡ true → is_in j (sweep M n v ++ p ∷ []) ≡ true =
    λ j m. (let b = wanted j m in is_in-append_left j (sweep M n v) (p ∷ []) (sweep-has M n v j m b.0 (omega arith))) in
    ascending_same (sweep M n (w ++ p ∷ [])) (sweep M n v ++ p ∷ []) (sweep-ascending M n (w ++ p ∷ []))
    (ascending-push (sweep M n v) p (sweep-ascending M n v) less)
    (sweep-sound M (λ (j : ℕ). is_in j (sweep M n v ++ p ∷ []) ≡ true)
    (λ k j a b. elim (is_in-append_cases k (sweep M n v) (p ∷ []) a) [
      | inl l ↦ is_in-append_left j (sweep M n v) (p ∷ []) (sweep-closed M lower n v k j l b)
      | inr r ↦ from_v j (same j ∙ is_in-append_right j w (M p) (subst (λ (m : ℕ). is_in j (M m) ≡ true) (is_in-one k p r) b))
    ])
    n (w ++ p ∷ [])
    (λ j l m. elim (is_in-append_cases j w (p ∷ []) m) [
      | inl a ↦ from_v j (same j ∙ is_in-append_left j w (M p) a)
      | inr b ↦ is_in-append_right j (sweep M n v) (p ∷ []) b
    ]))
    (λ j m. elim (is_in-append_cases j (sweep M n v) (p ∷ []) m) [
      | inl a ↦
          sweep-sound M (λ (k : ℕ). is_in k (sweep M n (w ++ p ∷ [])) ≡ true) (λ k i g h. sweep-closed M lower n (w ++ p ∷ []) k i g h) n v
          (λ k l h. elim (is_in-append_cases k w (M p) (sym (same k) ∙ h)) [
            | inl q ↦ sweep-has M n (w ++ p ∷ []) k (is_in-append_left k w (p ∷ []) q) (under k q).0 l
            | inr q ↦ sweep-closed M lower n (w ++ p ∷ []) p k here q
          ])
          j a
      | inr b ↦ subst (λ (k : ℕ). is_in k (sweep M n (w ++ p ∷ [])) ≡ true) (sym (is_in-one j p b)) here
    ])

-- So the sweep of what is wanted, and then what was taken off, stays the same.
pub whole-pop : (M : ℕ → List ℕ) → AreLower M → (n : ℕ) (w v : List ℕ) (p : ℕ) (items whole : List ℕ) → 0 < p → p ≤ n →
    ((j : ℕ) → is_in j w ≡ true → (0 < j) × (j < p)) → ((j : ℕ) → is_in j v ≡ is_in j (w ++ M p)) →
    sweep M n (w ++ p ∷ []) ++ reverse items ≡ whole → sweep M n v ++ reverse (items ++ p ∷ []) ≡ whole
whole-pop M lower n w v p items whole low high under same h =
    ap (λ (xs : List ℕ). sweep M n v ++ xs) (reverse-append items (p ∷ []))
    ∙ sym (append_assoc (sweep M n v) (p ∷ []) (reverse items))
    ∙ ap (λ (xs : List ℕ). xs ++ reverse items) (sym (sweep-pop M lower n w v p low high under same))
    ∙ h

pub whole-nil : (M : ℕ → List ℕ) (n : ℕ) → sweep M n [] ≡ []
whole-nil M zero = refl
whole-nil M (suc n) = whole-nil M n

pub is_in-reverse : (j : ℕ) (xs : List ℕ) → is_in j xs ≡ true → is_in j (reverse xs) ≡ true
is_in-reverse j [] h = h
is_in-reverse j (x ∷ xs) h =
    subst (λ (ys : List ℕ). is_in j ys ≡ true) (sym (reverse-append (x ∷ []) xs))
    (elim (is_in-cons_cases j x xs h) [
      | inl e ↦ is_in-append_right j (reverse xs) (x ∷ []) (subst (λ (k : ℕ). is_in j (k ∷ []) ≡ true) e (is_in-head j []))
      | inr r ↦ is_in-append_left j (reverse xs) (x ∷ []) (is_in-reverse j xs r)
    ])

-- The objects that a position reads as committed and that were not given.
abbrev pub bases_of : List Action → ℕ → List ℕ → ℕ → List ℕ → List ℕ
bases_of A c given k xs = filter (λ x. nat_le (last_writer A x k) c && not (is_in x given)) xs

-- The objects so far are those that some item reads so.
abbrev pub AreBases : ℕ → List Action → ℕ → List ℕ → List ℕ → List ℕ → Type 0
AreBases objects A c given items head =
    (x : ℕ) → (is_in x head ≡ true → (x < objects) × (is_in x given ≡ false) × (reads_committed A c x items ≡ true)) ×
    ((is_in x given ≡ false) → (reads_committed A c x items ≡ true) → (is_in x head ≡ true))

pub bases-none : (objects : ℕ) (A : List Action) (c : ℕ) (given : List ℕ) → AreBases objects A c given [] []
bases-none objects A c given x = ((λ h. cc), (λ g h. cc))

pub bases-push : (objects : ℕ) (A : List Action) (c : ℕ) (given items head new' : List ℕ) (p : ℕ) →
    ((x : ℕ) → is_in x (read_set (action_at A p)) ≡ true → x < objects) →
    ((x : ℕ) → is_in x new' ≡ is_in x (head ++ bases_of A c given p (read_set (action_at A p)))) →
    AreBases objects A c given items head → AreBases objects A c given (items ++ p ∷ []) new'
bases-push objects A c given items head new' p reads same h x =
    let R = read_set (action_at A p) in
    let test = λ (y : ℕ). nat_le (last_writer A y p) c && not (is_in y given) in
    let all = items ++ p ∷ [] in (
      (λ m. elim (is_in-append_cases x head (bases_of A c given p R) (sym (same x) ∙ m)) [
        | inl a ↦
            (let q = (h x).0 a in
            let r = reads_committed-parts A c x items q.2 in
            (q.0, q.1, reads_committed-from A c x r.0 all (is_in-append_left r.0 items (p ∷ []) r.1.0) r.1.1.0 r.1.1.1))
        | inr b ↦
            (let q = is_in-filter_parts test x R b in
            let t = and_parts (nat_le (last_writer A x p) c) (not (is_in x given)) q.1 in (
              reads x q.0,
              not-true (is_in x given) t.1,
              reads_committed-from A c x p all (is_in-append_right p items (p ∷ []) (is_in-head p [])) q.0 (leb-true (last_writer A x p) c t.0),
            ))
      ]),
      (λ g m.
          let r = reads_committed-parts A c x all m in
          same x ∙ elim (is_in-append_cases r.0 items (p ∷ []) r.1.0) [
            | inl a ↦ is_in-append_left x head (bases_of A c given p R) ((h x).1 g (reads_committed-from A c x r.0 items a r.1.1.0 r.1.1.1))
            | inr b ↦
                (let e : r.0 ≡ p = is_in-one r.0 p b in
                let in' : is_in x R ≡ true = subst (λ (k : ℕ). is_in x (read_set (action_at A k)) ≡ true) e r.1.1.0 in
                let low : last_writer A x p ≤ c = subst (λ (k : ℕ). last_writer A x k ≤ c) e r.1.1.1 in
                is_in-append_right x head (bases_of A c given p R)
                (is_in-filter test x R in' (and_from (nat_le (last_writer A x p) c) (not (is_in x given)) (le-leb (last_writer A x p) c low) (not_from_false (is_in x given) g))))
          ]),
    )

-- At the end they are the objects of the base values.
pub bases-all : (objects : ℕ) (A : List Action) (c : ℕ) (s given items head : List ℕ) (i : ℕ) →
    AreBases objects A c given items head → reverse items ≡ needed_for A c s i → (x : ℕ) → is_in x head ≡ is_in x (head_for objects A c s given i)
bases-all objects A c s given items head i h e x =
    same_test (is_in x head) (is_in x (head_for objects A c s given i))
    (λ m.
    let q = (h x).0 m in
    let r = reads_committed-parts A c x items q.2 in
    (head_for-iff objects A c s given i x).1
    (q.0, (q.1, (r.0, (subst (λ (xs : List ℕ). is_in r.0 xs ≡ true) e (is_in-reverse r.0 items r.1.0), (r.1.1.0, r.1.1.1))))))
    (λ m.
    let q = (head_for-iff objects A c s given i x).0 m in
    let k = q.1.1.0 in
    let there : is_in k (reverse items) ≡ true = subst (λ (xs : List ℕ). is_in k xs ≡ true) (sym e) q.1.1.1.0 in
    let back : is_in k items ≡ true = subst (λ (xs : List ℕ). is_in k xs ≡ true) (reverse-reverse items) (is_in-reverse k (reverse items) there) in
    (h x).1 q.1.0 (reads_committed-from A c x k items back q.1.1.1.1.0 q.1.1.1.1.1))

pub bases-same : (objects : ℕ) (A : List Action) (c : ℕ) (s given head : List ℕ) (i : ℕ) → is_ascending head ≡ true →
    ((x : ℕ) → is_in x head ≡ is_in x (head_for objects A c s given i)) → head ≡ head_for objects A c s given i
bases-same objects A c s given head i up same =
    ascending_same head (head_for objects A c s given i) up (head_for-ascending objects A c s given i) (λ x m. sym (same x) ∙ m) (λ x m. same x ∙ m)
