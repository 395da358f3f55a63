-- Influence: exactly the least set that it is said to be, and what a relay of the new action has.
use Rattle.std.proofs.Common.{◌≡◌, ℕ, suc, ◌<◌, ◌≤◌, ◌+◌, true, inl, inr, ◌↔◌, List, [], ◌∷◌, ◌++◌, map, filter, length, drop, replicate, refl, sym, ◌∙◌, ap, subst, arith, nat_lt, lt-ltb, ltb-true, length-append, length-drop, append_assoc}
use Rattle.std.proofs.lemmas.Bool.{cond-true, cases_lt}
use Rattle.std.proofs.lemmas.List.{append_cancel_right, length-replicate}
use Rattle.sv_world.specs.declared.action.Action.{Action}
use Rattle.sv_world.specs.Sets.{read_set}
use Rattle.sv_world.specs.Control.{is_in, blank, action_at, last_writer, missing_writers, needed_for, influence, chain_length, IsInfluence, direct, further, distance, influence_distance}
use Rattle.sv_world.specs.Trees.{greatest}
use Rattle.sv_world.specs.Faults.{is_ascending}
use Rattle.sv_world.proofs.Members.{is_in-head, is_in-tail, is_in-one, is_in-append_right, is_in-append_cases, is_in-filter, is_in-filter_parts}
use Rattle.sv_world.proofs.Ascending.{ascending-filter, ascending_same}
use Rattle.sv_world.proofs.Sweeps.{sweep, sweep-most, sweep-has, sweep-closed, sweep-sound, sweep-ascending, sweep-same}
use Rattle.sv_world.proofs.Writers.{action_at-append, action_at-last, action_at-above, last_writer-below, last_writer-same, missing_writers-parts, missing_writers-has, missing_writers-lower}
use Rattle.sv_world.proofs.Needs.{needed-agree, needed-shorter}

-- The writers that the new action lacks, with nothing sent.
abbrev wanted_by : List Action → ℕ → Action → List ℕ
wanted_by A c a = missing_writers (A ++ a ∷ []) c [] (suc (length A))

pub influence-ascending : (A : List Action) (c : ℕ) (a : Action) → is_ascending (influence A c a) ≡ true
influence-ascending A c a = sweep-ascending (missing_writers (A ++ a ∷ []) c []) (length A) (wanted_by A c a)

pub last_writer-before : (A : List Action) (a : Action) (x k : ℕ) → k ≤ suc (length A) → last_writer (A ++ a ∷ []) x k ≡ last_writer A x k
last_writer-before A a x k l = last_writer-same (A ++ a ∷ []) A x k (λ m low high. action_at-append A (a ∷ []) m (omega arith))

-- What the new action lacks itself, on the list without it.
wanted_by-parts : (A : List Action) (c : ℕ) (a : Action) (j : ℕ) → is_in j (wanted_by A c a) ≡ true →
    (x : ℕ) × ((is_in x (read_set a) ≡ true) × ((j ≡ last_writer A x (suc (length A))) × ((c < j) × (j ≤ length A))))
wanted_by-parts A c a j h =
    let p = missing_writers-parts (A ++ a ∷ []) c [] (suc (length A)) j h in
    let lower = missing_writers-lower (A ++ a ∷ []) c [] (suc (length A)) j h in (
      p.0,
      (
        subst (λ (b : Action). is_in p.0 (read_set b) ≡ true) (action_at-last A a) p.1.0,
        (p.1.1.0 ∙ last_writer-before A a p.0 (suc (length A)) (omega arith), (p.1.1.1.0, omega arith)),
      ),
    )

wanted_by-has : (A : List Action) (c : ℕ) (a : Action) (j x : ℕ) → is_in x (read_set a) ≡ true → j ≡ last_writer A x (suc (length A)) → c < j → is_in j (wanted_by A c a) ≡ true
wanted_by-has A c a j x reads is above =
    missing_writers-has (A ++ a ∷ []) c [] (suc (length A)) j x
    (subst (λ (b : Action). is_in x (read_set b) ≡ true) (sym (action_at-last A a)) reads)
    (is ∙ sym (last_writer-before A a x (suc (length A)) (omega arith))) above refl

-- And what an earlier position lacks.
earlier-parts : (A : List Action) (c : ℕ) (a : Action) (k j : ℕ) → k ≤ length A → is_in j (missing_writers (A ++ a ∷ []) c [] k) ≡ true →
    (x : ℕ) × ((is_in x (read_set (action_at A k)) ≡ true) × ((j ≡ last_writer A x k) × ((c < j) × (j < k))))
earlier-parts A c a k j l h =
    let p = missing_writers-parts (A ++ a ∷ []) c [] k j h in
    let lower = missing_writers-lower (A ++ a ∷ []) c [] k j h in (
      p.0,
      (
        subst (λ (b : Action). is_in p.0 (read_set b) ≡ true) (action_at-append A (a ∷ []) k l) p.1.0,
        (p.1.1.0 ∙ last_writer-before A a p.0 k (omega arith), (p.1.1.1.0, lower.1)),
      ),
    )

earlier-has : (A : List Action) (c : ℕ) (a : Action) (k j x : ℕ) → k ≤ length A → is_in x (read_set (action_at A k)) ≡ true → j ≡ last_writer A x k → c < j →
    is_in j (missing_writers (A ++ a ∷ []) c [] k) ≡ true
earlier-has A c a k j x l reads is above =
    missing_writers-has (A ++ a ∷ []) c [] k j x
    (subst (λ (b : Action). is_in x (read_set b) ≡ true) (sym (action_at-append A (a ∷ []) k l)) reads)
    (is ∙ sym (last_writer-before A a x k (omega arith))) above refl

-- What holds of each last writer above the commit that the action reads from, and passes on to each that a position reads from, holds of all of the influence.
pub influence-sound : (A : List Action) (c : ℕ) (a : Action) (P : ℕ → Type 0) →
    ((x : ℕ) → is_in x (read_set a) ≡ true → c < last_writer A x (suc (length A)) → P (last_writer A x (suc (length A)))) →
    ((k x : ℕ) → P k → is_in x (read_set (action_at A k)) ≡ true → c < last_writer A x k → P (last_writer A x k)) →
    (j : ℕ) → is_in j (influence A c a) ≡ true → P j
influence-sound A c a P start step j h =
    (sweep-sound (missing_writers (A ++ a ∷ []) c []) (λ (k : ℕ). (k ≤ length A) × P k)
    (λ k i p m.
    let q = earlier-parts A c a k i p.0 m in
    let most : k ≤ length A = p.0 in
    let below' : i < k = q.1.1.1.1 in
    (omega arith, subst P (sym q.1.1.0) (step k q.0 p.1 q.1.0 (subst (λ (n : ℕ). c < n) q.1.1.0 q.1.1.1.0))))
    (length A) (wanted_by A c a)
    (λ k l m. let q = wanted_by-parts A c a k m in
    (l, subst P (sym q.1.1.0) (start q.0 q.1.0 (subst (λ (n : ℕ). c < n) q.1.1.0 q.1.1.1.0))))
    j h).1

pub influence-bounds : (A : List Action) (c : ℕ) (a : Action) (j : ℕ) → is_in j (influence A c a) ≡ true → (c < j) × (j ≤ length A)
influence-bounds A c a j h = (
  influence-sound A c a (λ (k : ℕ). c < k) (λ x r l. l) (λ k x p r l. l) j h,
  (sweep-most (missing_writers (A ++ a ∷ []) c []) (length A) (wanted_by A c a) j h).1,
)

pub influence-direct : (A : List Action) (c : ℕ) (a : Action) (x : ℕ) → is_in x (read_set a) ≡ true → c < last_writer A x (suc (length A)) →
    is_in (last_writer A x (suc (length A))) (influence A c a) ≡ true
influence-direct A c a x reads above =
    let j = last_writer A x (suc (length A)) in
    let below' : j < suc (length A) = last_writer-below A x (suc (length A)) (omega arith) in
    sweep-has (missing_writers (A ++ a ∷ []) c []) (length A) (wanted_by A c a) j (wanted_by-has A c a j x reads refl above) (omega arith) (omega arith)

pub influence-closed : (A : List Action) (c : ℕ) (a : Action) (k x : ℕ) → is_in k (influence A c a) ≡ true → is_in x (read_set (action_at A k)) ≡ true →
    c < last_writer A x k → is_in (last_writer A x k) (influence A c a) ≡ true
influence-closed A c a k x h reads above =
    let most : k ≤ length A = (influence-bounds A c a k h).1 in
    sweep-closed (missing_writers (A ++ a ∷ []) c []) (missing_writers-lower (A ++ a ∷ []) c []) (length A) (wanted_by A c a) k (last_writer A x k) h
    (earlier-has A c a k (last_writer A x k) x most reads refl above)

influence-complete : (A : List Action) (c : ℕ) (a : Action) (j : ℕ) → IsInfluence A a j → c < j → is_in j (influence A c a) ≡ true
influence-complete A c a j (direct x reads is) above =
    subst (λ (n : ℕ). is_in n (influence A c a) ≡ true) (sym is) (influence-direct A c a x reads (subst (λ (n : ℕ). c < n) is above))
influence-complete A c a j (further {k} x n reads is) above =
    let low : 0 < last_writer A x k = omega arith in
    let below' : last_writer A x k < k = last_writer-below A x k low in
    let h : is_in k (influence A c a) ≡ true = influence-complete A c a k n (omega arith) in
    subst (λ (n : ℕ). is_in n (influence A c a) ≡ true) (sym is) (influence-closed A c a k x h reads (subst (λ (n : ℕ). c < n) is above))

pub influence-iff : (A : List Action) (c : ℕ) (a : Action) (j : ℕ) → (is_in j (influence A c a) ≡ true) ↔ ((c < j) × IsInfluence A a j)
influence-iff A c a j = (
  (λ h. (
    (influence-bounds A c a j h).0,
    influence-sound A c a (IsInfluence A a) (λ x r l. direct x r refl) (λ k x n r l. further x n r refl) j h,
  )),
  (λ p. influence-complete A c a j p.1 p.0),
)

pub influence-cut : (A : List Action) (c : ℕ) (a : Action) → influence A c a ≡ filter (λ j. nat_lt c j) (influence A 0 a)
influence-cut A c a =
    ascending_same (influence A c a) (filter (λ (j : ℕ). nat_lt c j) (influence A 0 a)) (influence-ascending A c a)
    (ascending-filter (λ (j : ℕ). nat_lt c j) (influence A 0 a) (influence-ascending A 0 a))
    (λ j h.
    let p = (influence-iff A c a j).0 h in
    let above : c < j = p.0 in
    is_in-filter (λ (k : ℕ). nat_lt c k) j (influence A 0 a) ((influence-iff A 0 a j).1 (omega arith, p.1)) (lt-ltb c j above))
    (λ j h.
    let p = is_in-filter_parts (λ (k : ℕ). nat_lt c k) j (influence A 0 a) h in
    (influence-iff A c a j).1 (ltb-true c j p.1, ((influence-iff A 0 a j).0 p.0).1))

pub needed-appended : (A : List Action) (c : ℕ) (a : Action) → needed_for (A ++ a ∷ []) c [] (suc (length A)) ≡ influence A c a ++ suc (length A) ∷ []
needed-appended A c a =
    let n = length A in
    let M = missing_writers (A ++ a ∷ []) c [] in
    let lower = missing_writers-lower (A ++ a ∷ []) c [] in
    let first : is_in (suc n) (suc n ∷ []) ≡ true = is_in-head (suc n) [] in
    cond-true (is_in (suc n) (suc n ∷ [])) (sweep M n (suc n ∷ [] ++ M (suc n)) ++ suc n ∷ []) (sweep M n (suc n ∷ [])) first
    ∙ ap (λ (xs : List ℕ). xs ++ suc n ∷ [])
    (sweep-same M lower n (suc n ∷ [] ++ M (suc n)) (M (suc n))
    (λ j l h. elim (is_in-append_cases j (suc n ∷ []) (M (suc n)) h) [
      | inl e ↦ (let f : j ≡ suc n = is_in-one j (suc n) e in absurd (omega arith))
      | inr r ↦ r
    ])
    (λ j l h. is_in-append_right j (suc n ∷ []) (M (suc n)) h)
    (λ h. let b = lower (suc n) 0 h in absurd (omega arith)))

pub length-above : (A : List Action) (c : ℕ) → c ≤ length A → length (replicate c blank ++ drop c A) ≡ length A
length-above A c l = length-append (replicate c blank) (drop c A) ∙ (let r = length-replicate c blank in let d = length-drop c A in omega arith)

-- Two lists of one length that agree above the commit give one influence.
pub influence-agree : (A B : List Action) (c : ℕ) (a : Action) → length A ≡ length B → c ≤ length A → ((k : ℕ) → c < k → action_at A k ≡ action_at B k) →
    influence A c a ≡ influence B c a
influence-agree A B c a e l same =
    append_cancel_right (influence A c a) (influence B c a) (suc (length A) ∷ [])
    (sym (needed-appended A c a)
    ∙ needed-agree (A ++ a ∷ []) (B ++ a ∷ []) c [] [] (suc (length A)) (omega arith)
    (λ k low high. elim (cases_lt k (suc (length A))) [
      | inl b ↦ action_at-append A (a ∷ []) k (omega arith) ∙ same k low ∙ sym (action_at-append B (a ∷ []) k (omega arith))
      | inr b ↦
          (let f : k ≡ suc (length A) = omega arith in
          let g : k ≡ suc (length B) = f ∙ ap suc e in
          ap (action_at (A ++ a ∷ [])) f ∙ action_at-last A a ∙ sym (action_at-last B a) ∙ sym (ap (action_at (B ++ a ∷ [])) g))
    ])
    (λ j low. refl)
    ∙ ap (λ (n : ℕ). needed_for (B ++ a ∷ []) c [] (suc n)) e
    ∙ needed-appended B c a
    ∙ ap (λ (n : ℕ). influence B c a ++ suc n ∷ []) (sym e))

pub influence-above : (A : List Action) (c : ℕ) (a : Action) → c ≤ length A → influence (replicate c blank ++ drop c A) c a ≡ influence A c a
influence-above A c a l =
    influence-agree (replicate c blank ++ drop c A) A c a (length-above A c l)
    (let e = length-above A c l in omega arith) (λ k low. action_at-above A c k low)

-- A function of the actions at positions above the commit alone gives one list.
pub map_same : {X : Type 0} (f g : ℕ → X) (xs : List ℕ) → ((j : ℕ) → is_in j xs ≡ true → f j ≡ g j) → map f xs ≡ map g xs
map_same f g [] same = refl
map_same f g (x ∷ xs) same =
    ap (λ z. z ∷ map f xs) (same x (is_in-head x xs)) ∙ ap (λ zs. g x ∷ zs) (map_same f g xs (λ j h. same j (is_in-tail j x xs h)))

pub influence_distance-above : (A : List Action) (c : ℕ) (a : Action) → c ≤ length A →
    influence_distance (replicate c blank ++ drop c A) c a ≡ influence_distance A c a
influence_distance-above A c a l =
    ap greatest
    (ap (map (λ (j : ℕ). distance a.origin (action_at (replicate c blank ++ drop c A) j).origin)) (influence-above A c a l)
    ∙ map_same (λ (j : ℕ). distance a.origin (action_at (replicate c blank ++ drop c A) j).origin) (λ (j : ℕ). distance a.origin (action_at A j).origin) (influence A c a)
    (λ j h. ap (λ (b : Action). distance a.origin b.origin) (action_at-above A c j (influence-bounds A c a j h).0)))

-- A relay of an action that was placed after A, at any later time and to any session, has at most one item more than the chain was then.
pub needed-chain : (A B : List Action) (c d : ℕ) (a : Action) (s : List ℕ) → c ≤ d → d ≤ length A →
    length (needed_for (A ++ a ∷ B) d s (suc (length A))) ≤ suc (chain_length A c a)
needed-chain A B c d a s le l =
    let shorter : length (needed_for (A ++ a ∷ B) d s (suc (length A))) ≤ length (needed_for (A ++ a ∷ []) c [] (suc (length A))) =
    needed-shorter (A ++ a ∷ []) (A ++ a ∷ B) c d [] s (suc (length A)) le (omega arith)
    (λ k low high. sym (action_at-append (A ++ a ∷ []) B k (let m = length-append A (a ∷ []) in omega arith))
    ∙ ap (λ (xs : List Action). action_at xs k) (append_assoc A (a ∷ []) B))
    (λ j low h. cc) in
    let e : length (needed_for (A ++ a ∷ []) c [] (suc (length A))) ≡ length (influence A c a) + 1 =
    ap length (needed-appended A c a) ∙ length-append (influence A c a) (suc (length A) ∷ []) in
    omega arith
