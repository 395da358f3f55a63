-- What a session lacks, and influence: exactly the least sets that they are said to be.
use Rattle.std.proofs.Common.{◌≡◌, ℕ, zero, suc, ◌<◌, ◌≤◌, Bool, true, false, inl, inr, ◌↔◌, List, [], ◌∷◌, ◌++◌, length, refl, sym, ◌∙◌, subst, arith}
use Rattle.std.proofs.lemmas.Bool.{cond_both, cond-true, cond-false, cases_Bool}
use Rattle.sv_world.specs.declared.action.Action.{Action}
use Rattle.sv_world.specs.Sets.{read_set}
use Rattle.sv_world.specs.Control.{is_in, action_at, last_writer, IsNeeded, target, writer, missing_writers, wanted_up_to, needed_for}
use Rattle.sv_world.specs.Faults.{is_ascending}
use Rattle.sv_world.proofs.Members.{is_in-head, is_in-one}
use Rattle.sv_world.proofs.Ascending.{ascending_same, ascending_shorter}
use Rattle.sv_world.proofs.Sweeps.{sweep, sweep-has, sweep-closed, sweep-sound, sweep-ascending}
use Rattle.sv_world.proofs.Writers.{last_writer-agree, missing_writers-parts, missing_writers-has, missing_writers-lower}

pub wanted_is_sweep : (A : List Action) (c : ℕ) (s : List ℕ) (n : ℕ) (w : List ℕ) → wanted_up_to A c s n w ≡ sweep (missing_writers A c s) n w
wanted_is_sweep A c s n w = refl

pub needed-sent : (A : List Action) (c : ℕ) (s : List ℕ) (i : ℕ) → is_in i s ≡ true → needed_for A c s i ≡ []
needed-sent A c s i h = cond-true (is_in i s) [] (wanted_up_to A c s i (i ∷ [])) h

pub needed-unsent : (A : List Action) (c : ℕ) (s : List ℕ) (i : ℕ) → is_in i s ≡ false → needed_for A c s i ≡ sweep (missing_writers A c s) i (i ∷ [])
needed-unsent A c s i h = cond-false (is_in i s) [] (wanted_up_to A c s i (i ∷ [])) h

pub needed-target : (A : List Action) (c : ℕ) (s : List ℕ) (i : ℕ) → 0 < i → is_in i s ≡ false → is_in i (needed_for A c s i) ≡ true
needed-target A c s i low h =
    subst (λ (xs : List ℕ). is_in i xs ≡ true) (sym (needed-unsent A c s i h)) (sweep-has (missing_writers A c s) i (i ∷ []) i (is_in-head i []) low (omega arith))

-- What holds of the target and passes on to each missing writer holds of each position needed.
pub needed-sound : (A : List Action) (c : ℕ) (s : List ℕ) (i : ℕ) (P : ℕ → Type 0) → P i → ((k j : ℕ) → P k → is_in j (missing_writers A c s k) ≡ true → P j) →
    (j : ℕ) → is_in j (needed_for A c s i) ≡ true → P j
needed-sound A c s i P top step j h =
    elim (cases_Bool (is_in i s)) [
      | inl sent ↦ (let none : is_in j [] ≡ true = subst (λ (xs : List ℕ). is_in j xs ≡ true) (needed-sent A c s i sent) h in cc)
      | inr unsent ↦
          sweep-sound (missing_writers A c s) P step i (i ∷ []) (λ k l m. subst P (sym (is_in-one k i m)) top) j
          (subst (λ (xs : List ℕ). is_in j xs ≡ true) (needed-unsent A c s i unsent) h)
    ]

pub needed-closed : (A : List Action) (c : ℕ) (s : List ℕ) (i k j : ℕ) → is_in k (needed_for A c s i) ≡ true → is_in j (missing_writers A c s k) ≡ true →
    is_in j (needed_for A c s i) ≡ true
needed-closed A c s i k j h m =
    elim (cases_Bool (is_in i s)) [
      | inl sent ↦ (let none : is_in k [] ≡ true = subst (λ (xs : List ℕ). is_in k xs ≡ true) (needed-sent A c s i sent) h in cc)
      | inr unsent ↦
          subst (λ (xs : List ℕ). is_in j xs ≡ true) (sym (needed-unsent A c s i unsent))
          (sweep-closed (missing_writers A c s) (missing_writers-lower A c s) i (i ∷ []) k j
          (subst (λ (xs : List ℕ). is_in k xs ≡ true) (needed-unsent A c s i unsent) h) m)
    ]

pub needed-closed_writer : (A : List Action) (c : ℕ) (s : List ℕ) (i k x : ℕ) → is_in k (needed_for A c s i) ≡ true → is_in x (read_set (action_at A k)) ≡ true →
    c < last_writer A x k → is_in (last_writer A x k) s ≡ false → is_in (last_writer A x k) (needed_for A c s i) ≡ true
needed-closed_writer A c s i k x h reads above unsent =
    needed-closed A c s i k (last_writer A x k) h (missing_writers-has A c s k (last_writer A x k) x reads refl above unsent)

pub needed-ascending : (A : List Action) (c : ℕ) (s : List ℕ) (i : ℕ) → is_ascending (needed_for A c s i) ≡ true
needed-ascending A c s i =
    cond_both (is_in i s) [] (wanted_up_to A c s i (i ∷ [])) (λ (xs : List ℕ). is_ascending xs ≡ true)
    (λ e. refl) (λ e. sweep-ascending (missing_writers A c s) i (i ∷ []))

pub needed-bounds : (A : List Action) (c : ℕ) (s : List ℕ) (i : ℕ) → c < i → (j : ℕ) → is_in j (needed_for A c s i) ≡ true → (c < j) × (j ≤ i)
needed-bounds A c s i l =
    needed-sound A c s i (λ (j : ℕ). (c < j) × (j ≤ i)) (l, omega arith)
    (λ k j p m. let parts = missing_writers-parts A c s k j m in let b = missing_writers-lower A c s k j m in (parts.1.1.1.0, omega arith))

-- The target is the last.
pub needed-ends : (A : List Action) (c : ℕ) (s : List ℕ) (i : ℕ) → 0 < i → is_in i s ≡ false →
    (xs : List ℕ) × (needed_for A c s i ≡ xs ++ i ∷ [])
needed-ends A c s zero low h = absurd (omega arith)
needed-ends A c s (suc n) low h = (
  sweep (missing_writers A c s) n (suc n ∷ [] ++ missing_writers A c s (suc n)),
  needed-unsent A c s (suc n) h
      ∙ cond-true (is_in (suc n) (suc n ∷ [])) (sweep (missing_writers A c s) n (suc n ∷ [] ++ missing_writers A c s (suc n)) ++ suc n ∷ [])
      (sweep (missing_writers A c s) n (suc n ∷ [])) (is_in-head (suc n) []),
)

needed-complete : (A : List Action) (c : ℕ) (s : List ℕ) (i : ℕ) → 0 < i → is_in i s ≡ false → (j : ℕ) → IsNeeded A c s i j → is_in j (needed_for A c s i) ≡ true
needed-complete A c s i low h j target = needed-target A c s i low h
needed-complete A c s i low h j (writer {k} x n reads is above unsent) =
    needed-closed A c s i k j (needed-complete A c s i low h k n) (missing_writers-has A c s k j x reads is above unsent)

pub needed-iff : (A : List Action) (c : ℕ) (s : List ℕ) (i j : ℕ) → 0 < i → is_in i s ≡ false → (is_in j (needed_for A c s i) ≡ true) ↔ IsNeeded A c s i j
needed-iff A c s i j low h = (
  (λ m. needed-sound A c s i (IsNeeded A c s i) target
      (λ k j n g. let p = missing_writers-parts A c s k j g in writer p.0 n p.1.0 p.1.1.0 p.1.1.1.0 p.1.1.1.1) j m),
  (λ n. needed-complete A c s i low h j n),
)

-- A set with the target that is closed under missing writers has all that is needed.
pub needed-least : (A : List Action) (c : ℕ) (s : List ℕ) (i : ℕ) (p : ℕ → Bool) → p i ≡ true →
    ((k x : ℕ) → p k ≡ true → is_in x (read_set (action_at A k)) ≡ true → c < last_writer A x k → is_in (last_writer A x k) s ≡ false → p (last_writer A x k) ≡ true) →
    (j : ℕ) → is_in j (needed_for A c s i) ≡ true → p j ≡ true
needed-least A c s i p top step =
    needed-sound A c s i (λ (j : ℕ). p j ≡ true) top
    (λ k j h m.
    let q = missing_writers-parts A c s k j m in
    let is : j ≡ last_writer A q.0 k = q.1.1.0 in
    subst (λ (n : ℕ). p n ≡ true) (sym is)
    (step k q.0 h q.1.0 (subst (λ (n : ℕ). c < n) is q.1.1.1.0) (subst (λ (n : ℕ). is_in n s ≡ false) is q.1.1.1.1)))

-- With a greater commit, more sent, and the same actions above that commit up to the target, what is needed was needed before.
pub needed-into : (A B : List Action) (c d : ℕ) (s t : List ℕ) (i : ℕ) → c ≤ d → d < i → ((k : ℕ) → d < k → k ≤ i → action_at A k ≡ action_at B k) →
    ((j : ℕ) → d < j → is_in j s ≡ true → is_in j t ≡ true) → (j : ℕ) → is_in j (needed_for B d t i) ≡ true → is_in j (needed_for A c s i) ≡ true
needed-into A B c d s t i le l same more j h =
    elim (cases_Bool (is_in i s)) [
      | inl sent ↦ (let none : is_in j [] ≡ true = subst (λ (xs : List ℕ). is_in j xs ≡ true) (needed-sent B d t i (more i l sent)) h in cc)
      | inr unsent ↦
          (needed-sound B d t i (λ (k : ℕ). (is_in k (needed_for A c s i) ≡ true) × ((d < k) × (k ≤ i)))
          (needed-target A c s i (omega arith) unsent, (l, omega arith))
          (λ k j q m.
          let p = missing_writers-parts B d t k j m in
          let above : d < k = q.1.0 in
          let most : k ≤ i = q.1.1 in
          let is : j ≡ last_writer B p.0 k = p.1.1.0 in
          let over' : d < j = p.1.1.1.0 in
          let lower = missing_writers-lower B d t k j m in
          let reads : is_in p.0 (read_set (action_at A k)) ≡ true = subst (λ (a : Action). is_in p.0 (read_set a) ≡ true) (sym (same k above most)) p.1.0 in
          let alike : last_writer A p.0 k ≡ last_writer B p.0 k =
          elim (last_writer-agree A B d p.0 k (λ m a b. same m a (omega arith))) [ inl e ↦ e | inr e ↦ (let f = e.1 in absurd (omega arith)) ] in
          let free : is_in j s ≡ false =
          elim (cases_Bool (is_in j s)) [ inl y ↦ (let z : is_in j t ≡ true = more j over' y in let w : is_in j t ≡ false = p.1.1.1.1 in cc) | inr n ↦ n ] in
          (needed-closed A c s i k j q.0 (missing_writers-has A c s k j p.0 reads (is ∙ sym alike) (omega arith) free), (over', omega arith)))
          j h).0
    ]

-- What is needed depends only on the actions above the commit up to the target, and on what was sent above the commit.
pub needed-agree : (A B : List Action) (c : ℕ) (s t : List ℕ) (i : ℕ) → c < i → ((k : ℕ) → c < k → k ≤ i → action_at A k ≡ action_at B k) →
    ((j : ℕ) → c < j → is_in j s ≡ is_in j t) → needed_for A c s i ≡ needed_for B c t i
needed-agree A B c s t i l same alike =
    ascending_same (needed_for A c s i) (needed_for B c t i) (needed-ascending A c s i) (needed-ascending B c t i)
    (λ j m. needed-into B A c c t s i (omega arith) l (λ k a b. sym (same k a b)) (λ j a h. alike j a ∙ h) j m)
    (λ j m. needed-into A B c c s t i (omega arith) l same (λ j a h. sym (alike j a) ∙ h) j m)

pub needed-shorter : (A B : List Action) (c d : ℕ) (s t : List ℕ) (i : ℕ) → c ≤ d → d < i → ((k : ℕ) → d < k → k ≤ i → action_at A k ≡ action_at B k) →
    ((j : ℕ) → d < j → is_in j s ≡ true → is_in j t ≡ true) → length (needed_for B d t i) ≤ length (needed_for A c s i)
needed-shorter A B c d s t i le l same more =
    ascending_shorter (needed_for B d t i) (needed_for A c s i) (needed-ascending B d t i) (needed-ascending A c s i) (needed-into A B c d s t i le l same more)
