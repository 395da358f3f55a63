-- The walk from a position downwards with the set of the objects that are still to be had: at n these are the ones that an item above n reads
-- with no writer between, that is, with the last writer at or below n.
use Rattle.std.proofs.Common.{◌≡◌, ℕ, zero, suc, ◌<◌, ◌≤◌, ◌-◌, ◌⊎◌, inl, inr, Bool, true, false, ◌||◌, ◌&&◌, not, List, [], ◌∷◌, refl, sym, ◌∙◌, ap, subst, arith}
use Rattle.std.proofs.lemmas.Bool.{cases_Bool, cases_eq, cases_lt, or_cases, or_left, or_right, and_parts, and_from, not-true, not_from_false, false_from_ne_true}
use Rattle.std.specs.List.{list_any}
use Rattle.sv_world.specs.declared.action.Action.{Action}
use Rattle.sv_world.specs.Sets.{read_set, write_set}
use Rattle.sv_world.specs.Control.{is_in, action_at, last_writer, missing_writers, needed_for, reads_committed}
use Rattle.sv_world.proofs.Members.{is_in-head, is_in-tail, is_in-cons_cases, same_test, any_from, any_parts}
use Rattle.sv_world.proofs.Writers.{last_writer-most, last_writer-writes, last_writer-unwritten, missing_writers-parts, missing_writers-lower}
use Rattle.sv_world.proofs.Needs.{needed-target, needed-sound, needed-closed, needed-closed_writer, needed-ascending, needed-sent}
use Rattle.sv_world.proofs.Bases.{reads_committed-from, reads_committed-parts}
use Rattle.sv_influence.proofs.Counts.{above, above-in, above-parts, above-taken, above-left}
use Rattle.sv_world.proofs.Written.{written_is_read}

-- Each position needed but the target is a missing writer of one needed.
needed_from : (A : List Action) (c : ℕ) (s : List ℕ) (i : ℕ) → 0 < i → is_in i s ≡ false → (j : ℕ) → is_in j (needed_for A c s i) ≡ true →
    (j ≡ i) ⊎ ((k : ℕ) × ((is_in k (needed_for A c s i) ≡ true) × (is_in j (missing_writers A c s k) ≡ true)))
needed_from A c s i low unsent j h =
    (needed-sound A c s i
    (λ (j : ℕ). (is_in j (needed_for A c s i) ≡ true) × ((j ≡ i) ⊎ ((k : ℕ) × ((is_in k (needed_for A c s i) ≡ true) × (is_in j (missing_writers A c s k) ≡ true)))))
    (needed-target A c s i low unsent, inl refl)
    (λ k j p m. (needed-closed A c s i k j p.0 m, inr (k, (p.0, m)))) j h).1

needed_unsent : (A : List Action) (c : ℕ) (s : List ℕ) (i j : ℕ) → is_in j (needed_for A c s i) ≡ true → is_in j s ≡ false
needed_unsent A c s i j h =
    elim (cases_Bool (is_in i s)) [
      | inl sent ↦ (let none : is_in j [] ≡ true = subst (λ (xs : List ℕ). is_in j xs ≡ true) (needed-sent A c s i sent) h in cc)
      | inr unsent ↦ needed-sound A c s i (λ (k : ℕ). is_in k s ≡ false) unsent (λ k m p g. let q = missing_writers-parts A c s k m g in q.1.1.1.1) j h
    ]

-- A position that was sent is not needed.
pub plain-sent : (A : List Action) (c : ℕ) (s : List ℕ) (i n : ℕ) → is_in n s ≡ true → is_in n (needed_for A c s i) ≡ false
plain-sent A c s i n sent = false_from_ne_true (is_in n (needed_for A c s i)) (λ h. let u = needed_unsent A c s i n h in cc)

-- One that was not is needed just where it writes an object that is still to be had.
pub plain-unsent : (A : List Action) (c : ℕ) (s : List ℕ) (i n : ℕ) (f : ℕ → Bool) → c < n → n < i → is_in n s ≡ false →
    ((x : ℕ) → f x ≡ reads_committed A n x (above n (needed_for A c s i))) → list_any f (write_set (action_at A n)) ≡ is_in n (needed_for A c s i)
plain-unsent A c s i n f low high unsent is =
    let N = needed_for A c s i in
    same_test (list_any f (write_set (action_at A n))) (is_in n N)
    (λ h.
    let p = any_parts f (write_set (action_at A n)) h in
    let x = p.0 in
    let r = reads_committed-parts A n x (above n N) (sym (is x) ∙ p.1.1) in
    let k = r.0 in
    let t = above-parts n k N r.1.0 in
    let le : last_writer A x k ≤ n = r.1.1.1 in
    elim (cases_lt (last_writer A x k) n) [
      | inl under ↦ (let none : is_in x (write_set (action_at A n)) ≡ false = last_writer-unwritten A x k n under t.1 in let w = p.1.0 in cc)
      | inr over' ↦
          (let e : last_writer A x k ≡ n = omega arith in
          subst (λ (m : ℕ). is_in m N ≡ true) e
          (needed-closed_writer A c s i k x t.0 r.1.1.0 (omega arith) (subst (λ (m : ℕ). is_in m s ≡ false) (sym e) unsent)))
    ])
    (λ h.
    elim (cases_Bool (is_in i s)) [
      | inl sent ↦ (let none : is_in n [] ≡ true = subst (λ (xs : List ℕ). is_in n xs ≡ true) (needed-sent A c s i sent) h in cc)
      | inr free ↦
          elim (needed_from A c s i (omega arith) free n h) [
            | inl e ↦ absurd (omega arith)
            | inr q ↦
                (let k = q.0 in
                let p = missing_writers-parts A c s k n q.1.1 in
                let x = p.0 in
                let e : n ≡ last_writer A x k = p.1.1.0 in
                let b : n < k = (missing_writers-lower A c s k n q.1.1).1 in
                let w : is_in x (write_set (action_at A n)) ≡ true =
                subst (λ (m : ℕ). is_in x (write_set (action_at A m)) ≡ true) (sym e) (last_writer-writes A x k (omega arith)) in
                any_from f x (write_set (action_at A n)) w
                (is x ∙ reads_committed-from A n x k (above n N) (above-in n k N q.1.0 b) p.1.0 (omega arith)))
          ]
    ])

last_below : (A : List Action) (x p : ℕ) → 0 < p → last_writer A x p ≤ p - 1
last_below A x zero l = absurd (omega arith)
last_below A x (suc m) l = let most = last_writer-most A x m in omega arith

-- With what an item reads, the set is that of the position below.
pub plain-hit : (A : List Action) (c : ℕ) (s : List ℕ) (i p : ℕ) (a : Action) (f g : ℕ → Bool) → 0 < p → a ≡ action_at A p → is_in p (needed_for A c s i) ≡ true →
    ((x : ℕ) → f x ≡ reads_committed A p x (above p (needed_for A c s i))) → ((x : ℕ) → g x ≡ (is_in x (read_set a) || f x)) →
    (x : ℕ) → g x ≡ reads_committed A (p - 1) x (above (p - 1) (needed_for A c s i))
plain-hit A c s i p a f g low same h old new' x =
    let N = needed_for A c s i in
    let L = above p N in
    let taken : above (p - 1) N ≡ p ∷ L = above-taken p N (needed-ascending A c s i) low h in
    new' x
    ∙ ap (λ (b : Action). is_in x (read_set b) || f x) same
    ∙ same_test (is_in x (read_set (action_at A p)) || f x) (reads_committed A (p - 1) x (p ∷ L))
    (λ t. elim (or_cases (is_in x (read_set (action_at A p))) (f x) t) [
      | inl r ↦ reads_committed-from A (p - 1) x p (p ∷ L) (is_in-head p L) r (last_below A x p low)
      | inr q ↦
          (let r = reads_committed-parts A p x L (sym (old x) ∙ q) in
          let k = r.0 in
          let le : last_writer A x k ≤ p = r.1.1.1 in
          elim (cases_eq (last_writer A x k) p) [
            | inl e ↦
                (let w : is_in x (write_set (action_at A p)) ≡ true =
                subst (λ (m : ℕ). is_in x (write_set (action_at A m)) ≡ true) e (last_writer-writes A x k (omega arith)) in
                reads_committed-from A (p - 1) x p (p ∷ L) (is_in-head p L) (written_is_read (action_at A p) x w) (last_below A x p low))
            | inr ne ↦ reads_committed-from A (p - 1) x k (p ∷ L) (is_in-tail k p L r.1.0) r.1.1.0 (omega arith)
          ])
    ])
    (λ t.
    let r = reads_committed-parts A (p - 1) x (p ∷ L) t in
    let k = r.0 in
    let le : last_writer A x k ≤ p - 1 = r.1.1.1 in
    elim (is_in-cons_cases k p L r.1.0) [
      | inl e ↦ or_left (is_in x (read_set (action_at A p))) (f x) (subst (λ (m : ℕ). is_in x (read_set (action_at A m)) ≡ true) e r.1.1.0)
      | inr q ↦ or_right (is_in x (read_set (action_at A p))) (f x) (old x ∙ reads_committed-from A p x k L q r.1.1.0 (omega arith))
    ])
    ∙ ap (λ (ks : List ℕ). reads_committed A (p - 1) x ks) (sym taken)

-- Without what a position writes that was sent.
pub plain-remove : (A : List Action) (c : ℕ) (s : List ℕ) (i p : ℕ) (a : Action) (f g : ℕ → Bool) → 0 < p → a ≡ action_at A p → is_in p (needed_for A c s i) ≡ false →
    ((x : ℕ) → f x ≡ reads_committed A p x (above p (needed_for A c s i))) → ((x : ℕ) → g x ≡ (f x && not (is_in x (write_set a)))) →
    (x : ℕ) → g x ≡ reads_committed A (p - 1) x (above (p - 1) (needed_for A c s i))
plain-remove A c s i p a f g low same h old new' x =
    let N = needed_for A c s i in
    let L = above p N in
    let W = write_set (action_at A p) in
    let left : above (p - 1) N ≡ L = above-left p N (needed-ascending A c s i) low h in
    new' x
    ∙ ap (λ (b : Action). f x && not (is_in x (write_set b))) same
    ∙ same_test (f x && not (is_in x W)) (reads_committed A (p - 1) x L)
    (λ t.
    let q = and_parts (f x) (not (is_in x W)) t in
    let r = reads_committed-parts A p x L (sym (old x) ∙ q.0) in
    let k = r.0 in
    let le : last_writer A x k ≤ p = r.1.1.1 in
    elim (cases_eq (last_writer A x k) p) [
      | inl e ↦
          (let w : is_in x W ≡ true = subst (λ (m : ℕ). is_in x (write_set (action_at A m)) ≡ true) e (last_writer-writes A x k (omega arith)) in
          let out = not-true (is_in x W) q.1 in
          cc)
      | inr ne ↦ reads_committed-from A (p - 1) x k L r.1.0 r.1.1.0 (omega arith)
    ])
    (λ t.
    let r = reads_committed-parts A (p - 1) x L t in
    let k = r.0 in
    let le : last_writer A x k ≤ p - 1 = r.1.1.1 in
    let b = above-parts p k N r.1.0 in
    and_from (f x) (not (is_in x W)) (old x ∙ reads_committed-from A p x k L r.1.0 r.1.1.0 (omega arith))
    (not_from_false (is_in x W) (last_writer-unwritten A x k p (omega arith) b.1)))
    ∙ ap (λ (ks : List ℕ). reads_committed A (p - 1) x ks) (sym left)

-- A position that writes none of them changes nothing.
pub plain-miss : (A : List Action) (c : ℕ) (s : List ℕ) (i p : ℕ) (f : ℕ → Bool) → 0 < p → is_in p (needed_for A c s i) ≡ false →
    ((x : ℕ) → f x ≡ reads_committed A p x (above p (needed_for A c s i))) → list_any f (write_set (action_at A p)) ≡ false →
    (x : ℕ) → f x ≡ reads_committed A (p - 1) x (above (p - 1) (needed_for A c s i))
plain-miss A c s i p f low h old none x =
    let N = needed_for A c s i in
    let L = above p N in
    let W = write_set (action_at A p) in
    let left : above (p - 1) N ≡ L = above-left p N (needed-ascending A c s i) low h in
    same_test (f x) (reads_committed A (p - 1) x L)
    (λ t.
    let r = reads_committed-parts A p x L (sym (old x) ∙ t) in
    let k = r.0 in
    let le : last_writer A x k ≤ p = r.1.1.1 in
    elim (cases_eq (last_writer A x k) p) [
      | inl e ↦
          (let w : is_in x W ≡ true = subst (λ (m : ℕ). is_in x (write_set (action_at A m)) ≡ true) e (last_writer-writes A x k (omega arith)) in
          let any = any_from f x W w t in
          cc)
      | inr ne ↦ reads_committed-from A (p - 1) x k L r.1.0 r.1.1.0 (omega arith)
    ])
    (λ t.
    let r = reads_committed-parts A (p - 1) x L t in
    let le : last_writer A x r.0 ≤ p - 1 = r.1.1.1 in
    old x ∙ reads_committed-from A p x r.0 L r.1.0 r.1.1.0 (omega arith))
    ∙ ap (λ (ks : List ℕ). reads_committed A (p - 1) x ks) (sym left)
