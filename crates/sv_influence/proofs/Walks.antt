-- The walk from the last position downwards with the set of the objects read so far meets just the positions of the influence.
use Rattle.std.proofs.Common.{◌≡◌, ℕ, zero, suc, ◌<◌, ◌≤◌, ◌+◌, ◌-◌, inl, inr, Bool, true, false, ◌||◌, List, [], ◌∷◌, length, refl, sym, ◌∙◌, ap, subst, arith}
use Rattle.std.proofs.lemmas.Bool.{cases_eq, cases_lt, false_from_ne_true, or_cases, or_left, or_right}
use Rattle.std.specs.List.{list_any}
use Rattle.sv_world.specs.declared.action.Action.{Action}
use Rattle.sv_world.specs.Sets.{read_set, write_set}
use Rattle.sv_world.specs.Control.{is_in, action_at, last_writer, influence, IsInfluence, direct, further}
use Rattle.sv_world.proofs.Members.{is_in-head, is_in-tail, is_in-cons_cases, same_test, any_from, any_parts}
use Rattle.sv_world.proofs.Writers.{last_writer-below, last_writer-writes, last_writer-unwritten}
use Rattle.sv_world.proofs.Written.{written_is_read}
use Rattle.sv_world.proofs.Influences.{influence-iff, influence-bounds, influence-direct, influence-closed, influence-ascending}
use Rattle.sv_influence.proofs.Counts.{above, above-in, above-parts, above-ascending, above-none, above-all, above-miss, ascending-few}
use Rattle.sv_influence.proofs.Places.{or_swap}

-- Some of these positions reads the object.
abbrev pub are_read : List Action → ℕ → List ℕ → Bool
are_read A x [] = false
are_read A x (k ∷ ks) = is_in x (read_set (action_at A k)) || are_read A x ks

pub are_read-from : (A : List Action) (x k : ℕ) (ks : List ℕ) → is_in k ks ≡ true → is_in x (read_set (action_at A k)) ≡ true → are_read A x ks ≡ true
are_read-from A x k [] h r = cc
are_read-from A x k (m ∷ ms) h r =
    elim (is_in-cons_cases k m ms h) [
      | inl e ↦ or_left (is_in x (read_set (action_at A m))) (are_read A x ms) (subst (λ (n : ℕ). is_in x (read_set (action_at A n)) ≡ true) e r)
      | inr s ↦ or_right (is_in x (read_set (action_at A m))) (are_read A x ms) (are_read-from A x k ms s r)
    ]

pub are_read-parts : (A : List Action) (x : ℕ) (ks : List ℕ) → are_read A x ks ≡ true → (k : ℕ) × ((is_in k ks ≡ true) × (is_in x (read_set (action_at A k)) ≡ true))
are_read-parts A x [] h = cc
are_read-parts A x (m ∷ ms) h =
    elim (or_cases (is_in x (read_set (action_at A m))) (are_read A x ms) h) [
      | inl e ↦ (m, (is_in-head m ms, e))
      | inr r ↦ (let p = are_read-parts A x ms r in (p.0, (is_in-tail p.0 m ms p.1.0, p.1.1)))
    ]

-- A position writes an object that a later one of the influence, or the action, reads: then it is in the influence, or another one between is, which reads the object too.
-- `most` bounds how far the reader is.
met_below : (A : List Action) (c : ℕ) (a : Action) (n x : ℕ) → c < n → is_in x (write_set (action_at A n)) ≡ true →
    (most k : ℕ) → k ≤ most → n < k → is_in k (influence A c a) ≡ true → is_in x (read_set (action_at A k)) ≡ true → is_in n (influence A c a) ≡ true
met_below A c a n x low writes zero k le l h reads = absurd (omega arith)
met_below A c a n x low writes (suc most) k le l h reads =
    let again = met_below A c a n x low writes most in
    let j = last_writer A x k in
    elim (cases_lt j n) [
      | inl under ↦ (let none : is_in x (write_set (action_at A n)) ≡ false = last_writer-unwritten A x k n under l in cc)
      | inr over' ↦
          (let above' : c < j = omega arith in
          let there : is_in j (influence A c a) ≡ true = influence-closed A c a k x h reads above' in
          elim (cases_eq j n) [
            | inl e ↦ subst (λ (m : ℕ). is_in m (influence A c a) ≡ true) e there
            | inr ne ↦
                (let b : j < k = last_writer-below A x k (omega arith) in
                let w : is_in x (write_set (action_at A j)) ≡ true = last_writer-writes A x k (omega arith) in
                again j (omega arith) (omega arith) there (written_is_read (action_at A j) x w))
          ])
    ]

met_first : (A : List Action) (c : ℕ) (a : Action) (n x : ℕ) → c < n → n ≤ length A → is_in x (write_set (action_at A n)) ≡ true →
    is_in x (read_set a) ≡ true → is_in n (influence A c a) ≡ true
met_first A c a n x low high writes reads =
    let k = suc (length A) in
    let j = last_writer A x k in
    elim (cases_lt j n) [
      | inl under ↦ (let none : is_in x (write_set (action_at A n)) ≡ false = last_writer-unwritten A x k n under (omega arith) in cc)
      | inr over' ↦
          (let there : is_in j (influence A c a) ≡ true = influence-direct A c a x reads (omega arith) in
          elim (cases_eq j n) [
            | inl e ↦ subst (λ (m : ℕ). is_in m (influence A c a) ≡ true) e there
            | inr ne ↦
                (let w : is_in x (write_set (action_at A j)) ≡ true = last_writer-writes A x k (omega arith) in
                met_below A c a n x low writes j j (omega arith) (omega arith) there (written_is_read (action_at A j) x w))
          ])
    ]

-- A position of the influence writes an object that the action, or a later one of the influence, reads.
reader_of : (A : List Action) (c : ℕ) (a : Action) (n : ℕ) → c < n → IsInfluence A a n →
    (x : ℕ) × ((is_in x (write_set (action_at A n)) ≡ true) × ((is_in x (read_set a) || are_read A x (above n (influence A c a))) ≡ true))
reader_of A c a n low (direct x reads is) = (
  x,
  (
    subst (λ (m : ℕ). is_in x (write_set (action_at A m)) ≡ true) (sym is) (last_writer-writes A x (suc (length A)) (omega arith)),
    or_left (is_in x (read_set a)) (are_read A x (above n (influence A c a))) reads,
  ),
)
reader_of A c a n low (further {k} x more reads is) =
    let b : last_writer A x k < k = last_writer-below A x k (omega arith) in
    let there : is_in k (influence A c a) ≡ true = (influence-iff A c a k).1 (omega arith, more) in (
      x,
      (
        subst (λ (m : ℕ). is_in x (write_set (action_at A m)) ≡ true) (sym is) (last_writer-writes A x k (omega arith)),
        or_right (is_in x (read_set a)) (are_read A x (above n (influence A c a)))
            (are_read-from A x k (above n (influence A c a)) (above-in n k (influence A c a) there (omega arith)) reads),
      ),
    )

-- With the objects that the action and the later positions of the influence read, a position's writes are met just where it is in the influence.
pub walk-meets : (A : List Action) (c : ℕ) (a : Action) (n : ℕ) (f : ℕ → Bool) → c < n → n ≤ length A →
    ((x : ℕ) → f x ≡ (is_in x (read_set a) || are_read A x (above n (influence A c a)))) → list_any f (write_set (action_at A n)) ≡ is_in n (influence A c a)
walk-meets A c a n f low high is =
    same_test (list_any f (write_set (action_at A n))) (is_in n (influence A c a))
    (λ h.
    let p = any_parts f (write_set (action_at A n)) h in
    let x = p.0 in
    elim (or_cases (is_in x (read_set a)) (are_read A x (above n (influence A c a))) (sym (is x) ∙ p.1.1)) [
      | inl r ↦ met_first A c a n x low high p.1.0 r
      | inr r ↦
          (let q = are_read-parts A x (above n (influence A c a)) r in
          let k = q.0 in
          let t = above-parts n k (influence A c a) q.1.0 in
          met_below A c a n x low p.1.0 k k (omega arith) t.1 t.0 q.1.1)
    ])
    (λ h.
    let p = reader_of A c a n low ((influence-iff A c a n).0 h).1 in
    any_from f p.0 (write_set (action_at A n)) p.1.0 (is p.0 ∙ p.1.1))

-- With the objects of the position too, the set is that of the position below.
pub walk-objects : (A : List Action) (c : ℕ) (a b : Action) (p : ℕ) (f g : ℕ → Bool) → b ≡ action_at A p →
    above (p - 1) (influence A c a) ≡ p ∷ above p (influence A c a) →
    ((x : ℕ) → f x ≡ (is_in x (read_set a) || are_read A x (above p (influence A c a)))) → ((x : ℕ) → g x ≡ (is_in x (read_set b) || f x)) →
    (x : ℕ) → g x ≡ (is_in x (read_set a) || are_read A x (above (p - 1) (influence A c a)))
walk-objects A c a b p f g is taken old new' x =
    new' x
    ∙ ap (λ (d : Action). is_in x (read_set d) || f x) is
    ∙ ap (λ (t : Bool). is_in x (read_set (action_at A p)) || t) (old x)
    ∙ or_swap (is_in x (read_set (action_at A p))) (is_in x (read_set a)) (are_read A x (above p (influence A c a)))
    ∙ ap (λ (ks : List ℕ). is_in x (read_set a) || are_read A x ks) (sym taken)

-- At the last position nothing is above.
pub walk-none : (A : List Action) (c : ℕ) (a : Action) (last : ℕ) → last ≡ length A → above last (influence A c a) ≡ []
walk-none A c a last e = above-none last (influence A c a) (λ j m. let b = (influence-bounds A c a j m).1 in omega arith)

pub walk-all : (A : List Action) (c : ℕ) (a : Action) → above c (influence A c a) ≡ influence A c a
walk-all A c a = above-all c (influence A c a) (λ j m. (influence-bounds A c a j m).0)

or_none : (b : Bool) → (b || false) ≡ b
or_none true = refl
or_none false = refl

pub walk-first : (A : List Action) (c : ℕ) (a : Action) (last : ℕ) (f g : ℕ → Bool) → last ≡ length A → ((x : ℕ) → f x ≡ false) → ((x : ℕ) → g x ≡ (is_in x (read_set a) || f x)) →
    (x : ℕ) → g x ≡ (is_in x (read_set a) || are_read A x (above last (influence A c a)))
walk-first A c a last f g e none h x =
    h x ∙ ap (λ (t : Bool). is_in x (read_set a) || t) (none x) ∙ ap (λ (ks : List ℕ). is_in x (read_set a) || are_read A x ks) (sym (walk-none A c a last e))

-- There are no more of them than positions above.
pub walk-few : (A : List Action) (c : ℕ) (a : Action) (p : ℕ) → p ≤ length A → length (above p (influence A c a)) + p ≤ length A
walk-few A c a p l =
    ascending-few p (length A) (above p (influence A c a)) (above-ascending p (influence A c a) (influence-ascending A c a))
    (λ j m. let b = above-parts p j (influence A c a) m in (b.1, (influence-bounds A c a j b.0).1)) l

-- Where no position at or below p writes an object of the set, nothing of the influence is there.
rest_at : (A : List Action) (c : ℕ) (a : Action) (p : ℕ) (f : ℕ → Bool) → p ≤ length A →
    ((x : ℕ) → f x ≡ (is_in x (read_set a) || are_read A x (above p (influence A c a)))) →
    ((x q : ℕ) → f x ≡ true → q ≤ p → is_in x (write_set (action_at A q)) ≡ false) →
    (most n : ℕ) → p ≤ n + most → c ≤ n → n ≤ p → above n (influence A c a) ≡ above p (influence A c a)
rest_at A c a p f high is none zero n few low le = ap (λ (k : ℕ). above k (influence A c a)) (let e : n ≡ p = omega arith in e)
rest_at A c a p f high is none (suc most) n few low le =
    let I = influence A c a in
    elim (cases_eq n p) [
      | inl e ↦ ap (λ (k : ℕ). above k I) e
      | inr ne ↦
          (let h : above (suc n) I ≡ above p I = rest_at A c a p f high is none most (suc n) (omega arith) (omega arith) (omega arith) in
          let meets : list_any f (write_set (action_at A (suc n))) ≡ is_in (suc n) I =
          walk-meets A c a (suc n) f (omega arith) (omega arith) (λ x. is x ∙ ap (λ (ks : List ℕ). is_in x (read_set a) || are_read A x ks) (sym h)) in
          let out : list_any f (write_set (action_at A (suc n))) ≡ false =
          false_from_ne_true (list_any f (write_set (action_at A (suc n))))
          (λ t.
          let w = any_parts f (write_set (action_at A (suc n))) t in
          let o : is_in w.0 (write_set (action_at A (suc n))) ≡ false = none w.0 (suc n) w.1.1 (omega arith) in
          cc) in
          above-miss n I (influence-ascending A c a) (sym meets ∙ out) ∙ h)
    ]

pub walk-rest : (A : List Action) (c : ℕ) (a : Action) (p : ℕ) (f : ℕ → Bool) → c ≤ p → p ≤ length A →
    ((x : ℕ) → f x ≡ (is_in x (read_set a) || are_read A x (above p (influence A c a)))) →
    ((x q : ℕ) → f x ≡ true → q ≤ p → is_in x (write_set (action_at A q)) ≡ false) → above p (influence A c a) ≡ influence A c a
walk-rest A c a p f low high is none = sym (rest_at A c a p f high is none p c (omega arith) (omega arith) low) ∙ walk-all A c a

-- The set has no object that is written at or below a bound, and stays so with more objects of which this holds for a lower bound.
abbrev pub AreUnwritten : List Action → (ℕ → Bool) → ℕ → Type 0
AreUnwritten A f p = (x q : ℕ) → f x ≡ true → q ≤ p → is_in x (write_set (action_at A q)) ≡ false

pub unwritten-more : (A : List Action) (old more new' : ℕ → Bool) (p r : ℕ) → AreUnwritten A old p → AreUnwritten A more r → r ≤ p →
    ((x : ℕ) → new' x ≡ (more x || old x)) → AreUnwritten A new' r
unwritten-more A old more new' p r h g le is x q t low =
    elim (or_cases (more x) (old x) (sym (is x) ∙ t)) [ inl m ↦ g x q m low | inr o ↦ h x q o (omega arith) ]
