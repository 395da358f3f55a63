-- What a session lacks of objects at a position, said of the list of all actions.
use Rattle.std.proofs.Common.{◌≡◌, ℕ, zero, suc, ◌<◌, ◌≤◌, true, false, ◌⊎◌, inl, inr, ◌↔◌, List, [], ◌∷◌, ◌++◌, take, length, refl, sym, ◌∙◌, ap, subst, arith, nat_le, nat_lt, le-leb, leb-true, lt-ltb, ltb-true, not, ◌&&◌, map, filter, get_or-take}
use Rattle.std.proofs.lemmas.Bool.{cases_Bool, cases_eq, cases_lt, and_parts, and_from, not-true, not_from_false}
use Rattle.std.proofs.lemmas.List.{length-take-le}
use Rattle.sv_world.specs.declared.action.Action.{Action}
use Rattle.sv_world.specs.Sets.{read_set}
use Rattle.sv_world.specs.Control.{is_in, blank, action_at, last_writer, IsNeeded, missing_writers, wanted_up_to, needed_for, reading, with_reading, up_to, needed_to_see, head_to_see}
use Rattle.sv_world.specs.Faults.{is_ascending}
use Rattle.sv_world.proofs.Members.{is_in-head, is_in-one, is_in-append_left, is_in-append_right, is_in-append_cases, is_in-filter, is_in-filter_parts, is_in-map, is_in-map_from}
use Rattle.sv_world.proofs.Ascending.{ascending-filter, ascending-push, ascending_same}
use Rattle.sv_world.proofs.Sweeps.{sweep, sweep-has, sweep-closed, sweep-sound, sweep-ascending}
use Rattle.sv_world.proofs.Writers.{action_at-append, action_at-last, last_writer-below, last_writer-same, missing_writers-parts, missing_writers-has, missing_writers-lower}
use Rattle.sv_world.proofs.Bases.{head_for-iff}
use Rattle.sv_world.proofs.Needs.{needed-ascending, needed-bounds, needed-sound, needed-target, needed-closed, needed-iff}

-- ---- the list with the action that reads

read_set-reading : (xs : List ℕ) → read_set (reading xs) ≡ xs
read_set-reading [] = refl
read_set-reading (x ∷ xs) = ap (λ (ys : List ℕ). x ∷ ys) (read_set-reading xs)

pub with_reading-before : (A : List Action) (n : ℕ) (xs : List ℕ) (k : ℕ) → n ≤ length A → k ≤ n → action_at (with_reading A n xs) k ≡ action_at A k
with_reading-before A n xs zero l h = refl
with_reading-before A n xs (suc k) l h =
    let e : length (take n A) ≡ n = length-take-le n A l in
    action_at-append (take n A) (reading xs ∷ []) (suc k) (omega arith) ∙ get_or-take n A k blank (omega arith)

pub with_reading-last : (A : List Action) (n : ℕ) (xs : List ℕ) → n ≤ length A → action_at (with_reading A n xs) (suc n) ≡ reading xs
with_reading-last A n xs l =
    let e : length (take n A) ≡ n = length-take-le n A l in
    ap (λ (m : ℕ). action_at (with_reading A n xs) (suc m)) (sym e) ∙ action_at-last (take n A) (reading xs)

pub with_reading-reads : (A : List Action) (n : ℕ) (xs : List ℕ) → n ≤ length A → read_set (action_at (with_reading A n xs) (suc n)) ≡ xs
with_reading-reads A n xs l = ap read_set (with_reading-last A n xs l) ∙ read_set-reading xs

pub with_reading-writer : (A : List Action) (n : ℕ) (xs : List ℕ) (x k : ℕ) → n ≤ length A → k ≤ suc n →
    last_writer (with_reading A n xs) x k ≡ last_writer A x k
with_reading-writer A n xs x k l h = last_writer-same (with_reading A n xs) A x k (λ m low high. with_reading-before A n xs m l (omega arith))

-- ---- the positions up to n

pub up_to-has : (n : ℕ) (ps : List ℕ) (j : ℕ) → is_in j ps ≡ true → j ≤ n → is_in j (up_to n ps) ≡ true
up_to-has n ps j h l = is_in-filter (λ (p : ℕ). nat_le p n) j ps h (le-leb j n l)

pub up_to-parts : (n : ℕ) (ps : List ℕ) (j : ℕ) → is_in j (up_to n ps) ≡ true → (is_in j ps ≡ true) × (j ≤ n)
up_to-parts n ps j h = let p = is_in-filter_parts (λ (p : ℕ). nat_le p n) j ps h in (p.0, leb-true j n p.1)

pub up_to-free : (n : ℕ) (ps : List ℕ) (j : ℕ) → is_in j ps ≡ false → is_in j (up_to n ps) ≡ false
up_to-free n ps j h = elim (cases_Bool (is_in j (up_to n ps))) [ inl y ↦ (let p = up_to-parts n ps j y in let z : is_in j ps ≡ true = p.0 in cc) | inr no' ↦ no' ]

pub up_to-not : (n : ℕ) (ps : List ℕ) (j : ℕ) → j ≤ n → is_in j (up_to n ps) ≡ false → is_in j ps ≡ false
up_to-not n ps j l h = elim (cases_Bool (is_in j ps)) [ inl y ↦ (let z : is_in j (up_to n ps) ≡ true = up_to-has n ps j y l in cc) | inr no' ↦ no' ]

pub up_to-above : (n : ℕ) (ps : List ℕ) → is_in (suc n) (up_to n ps) ≡ false
up_to-above n ps =
    elim (cases_Bool (is_in (suc n) (up_to n ps))) [ inl y ↦ (let p = up_to-parts n ps (suc n) y in let l : suc n ≤ n = p.1 in absurd (omega arith)) | inr no' ↦ no' ]

-- Marks that are the same above the commit are the same up to n above it.
pub up_to-alike : (n c : ℕ) (s t : List ℕ) → ((j : ℕ) → c < j → is_in j s ≡ is_in j t) → (j : ℕ) → c < j → is_in j (up_to n s) ≡ is_in j (up_to n t)
up_to-alike n c s t alike j l =
    elim (cases_Bool (is_in j (up_to n s))) [
      | inl y ↦ (let p = up_to-parts n s j y in y ∙ sym (up_to-has n t j (sym (alike j l) ∙ p.0) p.1))
      | inr no' ↦ elim (cases_lt n j) [
        | inl over' ↦ no' ∙ sym (elim (cases_Bool (is_in j (up_to n t))) [ inl y ↦ (let p = up_to-parts n t j y in let m : j ≤ n = p.1 in absurd (omega arith)) | inr z ↦ z ])
        | inr under ↦ no' ∙ sym (up_to-free n t j (sym (alike j l) ∙ up_to-not n s j under no'))
      ]
    ]

-- ---- what is needed to see

pub see-ascending : (A : List Action) (c : ℕ) (s xs : List ℕ) (n : ℕ) → is_ascending (needed_to_see A c s xs n) ≡ true
see-ascending A c s xs n =
    ascending-filter (λ (p : ℕ). nat_le p n) (needed_for (with_reading A n xs) c (up_to n s) (suc n)) (needed-ascending (with_reading A n xs) c (up_to n s) (suc n))

pub see-parts : (A : List Action) (c : ℕ) (s xs : List ℕ) (n j : ℕ) → is_in j (needed_to_see A c s xs n) ≡ true →
    (is_in j (needed_for (with_reading A n xs) c (up_to n s) (suc n)) ≡ true) × (j ≤ n)
see-parts A c s xs n j h = up_to-parts n (needed_for (with_reading A n xs) c (up_to n s) (suc n)) j h

pub see-from : (A : List Action) (c : ℕ) (s xs : List ℕ) (n j : ℕ) → is_in j (needed_for (with_reading A n xs) c (up_to n s) (suc n)) ≡ true → j ≤ n →
    is_in j (needed_to_see A c s xs n) ≡ true
see-from A c s xs n j h l = up_to-has n (needed_for (with_reading A n xs) c (up_to n s) (suc n)) j h l

pub see-bounds : (A : List Action) (c : ℕ) (s xs : List ℕ) (n j : ℕ) → is_in j (needed_to_see A c s xs n) ≡ true → (c < j) × (j ≤ n)
see-bounds A c s xs n j h =
    let p = see-parts A c s xs n j h in
    let most : j ≤ n = p.1 in
    elim (needed-sound (with_reading A n xs) c (up_to n s) (suc n) (λ (k : ℕ). (k ≡ suc n) ⊎ (c < k)) (inl refl)
    (λ k i q m. inr (missing_writers-parts (with_reading A n xs) c (up_to n s) k i m).1.1.1.0) j p.0)
    [ inl e ↦ absurd (omega arith) | inr l ↦ (l, most) ]

pub see-none : (A : List Action) (c : ℕ) (s xs : List ℕ) (n : ℕ) → n ≤ c → needed_to_see A c s xs n ≡ []
see-none A c s xs n l =
    ascending_same (needed_to_see A c s xs n) [] (see-ascending A c s xs n) refl
    (λ j m. let b = see-bounds A c s xs n j m in absurd (omega arith)) (λ j m. cc)

pub see-iff : (A : List Action) (c : ℕ) (s xs : List ℕ) (n j : ℕ) →
    (is_in j (needed_to_see A c s xs n) ≡ true) ↔ ((j ≤ n) × IsNeeded (with_reading A n xs) c (up_to n s) (suc n) j)
see-iff A c s xs n j =
    let i = needed-iff (with_reading A n xs) c (up_to n s) (suc n) j (omega arith) (up_to-above n s) in (
      (λ h. let p = see-parts A c s xs n j h in (p.1, i.0 p.0)),
      (λ p. see-from A c s xs n j (i.1 p.1) p.0),
    )

pub see-ends : (A : List Action) (c : ℕ) (s xs : List ℕ) (n : ℕ) → c ≤ n →
    needed_for (with_reading A n xs) c (up_to n s) (suc n) ≡ needed_to_see A c s xs n ++ suc n ∷ []
see-ends A c s xs n l =
    let R = with_reading A n xs in
    let seen = needed_to_see A c s xs n in
    ascending_same (needed_for R c (up_to n s) (suc n)) (seen ++ suc n ∷ []) (needed-ascending R c (up_to n s) (suc n))
    (ascending-push seen (suc n) (see-ascending A c s xs n) (λ j m. let b = see-bounds A c s xs n j m in omega arith))
    (λ j m. let b = needed-bounds R c (up_to n s) (suc n) (omega arith) j m in
    let most : j ≤ suc n = b.1 in
    elim (cases_eq j (suc n)) [
      | inl e ↦ is_in-append_right j seen (suc n ∷ []) (subst (λ (k : ℕ). is_in j (k ∷ []) ≡ true) e (is_in-head j []))
      | inr ne ↦ is_in-append_left j seen (suc n ∷ []) (see-from A c s xs n j m (omega arith))
    ])
    (λ j m. elim (is_in-append_cases j seen (suc n ∷ []) m) [
      | inl h ↦ (see-parts A c s xs n j h).0
      | inr h ↦ subst (λ (k : ℕ). is_in k (needed_for R c (up_to n s) (suc n)) ≡ true) (sym (is_in-one j (suc n) h)) (needed-target R c (up_to n s) (suc n) (omega arith) (up_to-above n s))
    ])

-- The last writer of one of the objects is needed, where it is above the commit and was not sent.
pub see-direct : (A : List Action) (c : ℕ) (s xs : List ℕ) (n x : ℕ) → n ≤ length A → is_in x xs ≡ true → c < last_writer A x (suc n) →
    is_in (last_writer A x (suc n)) s ≡ false → is_in (last_writer A x (suc n)) (needed_to_see A c s xs n) ≡ true
see-direct A c s xs n x l h above free =
    let R = with_reading A n xs in
    let j = last_writer A x (suc n) in
    let low : 0 < j = omega arith in
    let under : j < suc n = last_writer-below A x (suc n) low in
    let most : j ≤ n = omega arith in
    see-from A c s xs n j
    (needed-closed R c (up_to n s) (suc n) (suc n) j (needed-target R c (up_to n s) (suc n) (omega arith) (up_to-above n s))
    (missing_writers-has R c (up_to n s) (suc n) j x (ap (is_in x) (with_reading-reads A n xs l) ∙ h)
    (sym (with_reading-writer A n xs x (suc n) l (omega arith))) above (up_to-free n s j free)))
    most

-- And so is that of what a needed position reads.
pub see-closed : (A : List Action) (c : ℕ) (s xs : List ℕ) (n k x : ℕ) → n ≤ length A → is_in k (needed_to_see A c s xs n) ≡ true →
    is_in x (read_set (action_at A k)) ≡ true → c < last_writer A x k → is_in (last_writer A x k) s ≡ false →
    is_in (last_writer A x k) (needed_to_see A c s xs n) ≡ true
see-closed A c s xs n k x l h reads above free =
    let R = with_reading A n xs in
    let p = see-parts A c s xs n k h in
    let high : k ≤ n = p.1 in
    let j = last_writer A x k in
    let low : 0 < j = omega arith in
    let under : j < k = last_writer-below A x k low in
    see-from A c s xs n j
    (needed-closed R c (up_to n s) (suc n) k j p.0
    (missing_writers-has R c (up_to n s) k j x (ap (λ (a : Action). is_in x (read_set a)) (with_reading-before A n xs k l high) ∙ reads)
    (sym (with_reading-writer A n xs x k l (omega arith))) above (up_to-free n s j free)))
    (omega arith)

sound-step : (A : List Action) (c : ℕ) (s xs : List ℕ) (n : ℕ) (P : ℕ → Type 0) → n ≤ length A →
    ((x : ℕ) → is_in x xs ≡ true → c < last_writer A x (suc n) → is_in (last_writer A x (suc n)) s ≡ false → P (last_writer A x (suc n))) →
    ((k x : ℕ) → P k → is_in x (read_set (action_at A k)) ≡ true → c < last_writer A x k → is_in (last_writer A x k) s ≡ false → P (last_writer A x k)) →
    (k j : ℕ) → (k ≡ suc n) ⊎ ((k ≤ n) × P k) → is_in j (missing_writers (with_reading A n xs) c (up_to n s) k) ≡ true → (j ≡ suc n) ⊎ ((j ≤ n) × P j)
sound-step A c s xs n P l start step k j (inl e) m =
    let R = with_reading A n xs in
    let m' : is_in j (missing_writers R c (up_to n s) (suc n)) ≡ true = subst (λ (i : ℕ). is_in j (missing_writers R c (up_to n s) i) ≡ true) e m in
    let p = missing_writers-parts R c (up_to n s) (suc n) j m' in
    let lower = missing_writers-lower R c (up_to n s) (suc n) j m' in
    let most : j ≤ n = omega arith in
    let is : j ≡ last_writer A p.0 (suc n) = p.1.1.0 ∙ with_reading-writer A n xs p.0 (suc n) l (omega arith) in
    let free : is_in j s ≡ false = up_to-not n s j most p.1.1.1.1 in
    inr (
      most,
      subst P (sym is) (start p.0 (sym (ap (is_in p.0) (with_reading-reads A n xs l)) ∙ p.1.0)
          (subst (λ (i : ℕ). c < i) is p.1.1.1.0) (subst (λ (i : ℕ). is_in i s ≡ false) is free)),
    )
sound-step A c s xs n P l start step k j (inr q) m =
    let R = with_reading A n xs in
    let p = missing_writers-parts R c (up_to n s) k j m in
    let lower = missing_writers-lower R c (up_to n s) k j m in
    let high : k ≤ n = q.0 in
    let most : j ≤ n = omega arith in
    let is : j ≡ last_writer A p.0 k = p.1.1.0 ∙ with_reading-writer A n xs p.0 k l (omega arith) in
    let free : is_in j s ≡ false = up_to-not n s j most p.1.1.1.1 in
    inr (
      most,
      subst P (sym is) (step k p.0 q.1 (sym (ap (λ (a : Action). is_in p.0 (read_set a)) (with_reading-before A n xs k l high)) ∙ p.1.0)
          (subst (λ (i : ℕ). c < i) is p.1.1.1.0) (subst (λ (i : ℕ). is_in i s ≡ false) is free)),
    )

-- What holds of those and passes on to these holds of all.
pub see-sound : (A : List Action) (c : ℕ) (s xs : List ℕ) (n : ℕ) (P : ℕ → Type 0) → n ≤ length A →
    ((x : ℕ) → is_in x xs ≡ true → c < last_writer A x (suc n) → is_in (last_writer A x (suc n)) s ≡ false → P (last_writer A x (suc n))) →
    ((k x : ℕ) → P k → is_in x (read_set (action_at A k)) ≡ true → c < last_writer A x k → is_in (last_writer A x k) s ≡ false → P (last_writer A x k)) →
    (j : ℕ) → is_in j (needed_to_see A c s xs n) ≡ true → P j
see-sound A c s xs n P l start step j h =
    let R = with_reading A n xs in
    let p = see-parts A c s xs n j h in
    let most : j ≤ n = p.1 in
    elim (needed-sound R c (up_to n s) (suc n) (λ (k : ℕ). (k ≡ suc n) ⊎ ((k ≤ n) × P k)) (inl refl) (sound-step A c s xs n P l start step) j p.0) [
      | inl e ↦ absurd (omega arith)
      | inr q ↦ q.1
    ]

-- ---- the base values that go with it

-- Those of the objects that are read as committed, and those that the needed positions read so.
pub see_head-iff : (objects : ℕ) (A : List Action) (c : ℕ) (s g xs : List ℕ) (n x : ℕ) → c ≤ n → n ≤ length A → (is_in x (head_to_see objects A c s g xs n) ≡ true) ↔
    ((x < objects) × ((is_in x g ≡ false) × (((is_in x xs ≡ true) × (last_writer A x (suc n) ≤ c))
    ⊎ ((k : ℕ) × ((is_in k (needed_to_see A c s xs n) ≡ true) × ((is_in x (read_set (action_at A k)) ≡ true) × (last_writer A x k ≤ c)))))))
see_head-iff objects A c s g xs n x le l =
    let R = with_reading A n xs in
    let i = head_for-iff objects R c (up_to n s) g (suc n) x in (
      (λ h.
          let p = i.0 h in
          let k = p.1.1.0 in
          let b = needed-bounds R c (up_to n s) (suc n) (omega arith) k p.1.1.1.0 in
          let most : k ≤ suc n = b.1 in
          let writer : last_writer R x k ≡ last_writer A x k = with_reading-writer A n xs x k l most in (
            p.0,
            (
              p.1.0,
              elim (cases_eq k (suc n)) [
                | inl e ↦ inl (
                  sym (ap (is_in x) (with_reading-reads A n xs l)) ∙ subst (λ (m : ℕ). is_in x (read_set (action_at R m)) ≡ true) e p.1.1.1.1.0,
                  subst (λ (m : ℕ). last_writer A x m ≤ c) e (subst (λ (m : ℕ). m ≤ c) writer p.1.1.1.1.1),
                )
                | inr ne ↦
                    (let high : k ≤ n = omega arith in
                    inr (
                      k,
                      (
                        see-from A c s xs n k p.1.1.1.0 high,
                        (
                          sym (ap (λ (a : Action). is_in x (read_set a)) (with_reading-before A n xs k l high)) ∙ p.1.1.1.1.0,
                          subst (λ (m : ℕ). m ≤ c) writer p.1.1.1.1.1,
                        ),
                      ),
                    ))
              ],
            ),
          )),
      (λ p. i.1 (
        p.0,
        (
          p.1.0,
          elim p.1.1 [
            | inl q ↦ (
              suc n,
              (
                needed-target R c (up_to n s) (suc n) (omega arith) (up_to-above n s),
                (
                  ap (is_in x) (with_reading-reads A n xs l) ∙ q.0,
                  subst (λ (m : ℕ). m ≤ c) (sym (with_reading-writer A n xs x (suc n) l (omega arith))) q.1,
                ),
              ),
            )
            | inr q ↦
                (let k = q.0 in
                let b = see-parts A c s xs n k q.1.0 in
                let high : k ≤ n = b.1 in (
                  k,
                  (
                    b.0,
                    (
                      ap (λ (a : Action). is_in x (read_set a)) (with_reading-before A n xs k l high) ∙ q.1.1.0,
                      subst (λ (m : ℕ). m ≤ c) (sym (with_reading-writer A n xs x k l (omega arith))) q.1.1.1,
                    ),
                  ),
                ))
          ],
        ),
      )),
    )

-- ---- as a sweep

-- It is the sweep from n downwards that begins with the missing writers of the objects.
pub see-sweep : (A : List Action) (c : ℕ) (s xs : List ℕ) (n : ℕ) (w : List ℕ) → n ≤ length A →
    ((j : ℕ) → is_in j w ≡ is_in j (filter (λ k. nat_lt c k && not (is_in k s)) (map (λ x. last_writer A x (suc n)) xs))) →
    wanted_up_to A c s n w ≡ needed_to_see A c s xs n
see-sweep A c s xs n w l same =
    let M = missing_writers A c s in
    let lower = missing_writers-lower A c s in
    let test = λ (k : ℕ). nat_lt c k && not (is_in k s) in
    let writers = map (λ (x : ℕ). last_writer A x (suc n)) xs in
    ascending_same (sweep M n w) (needed_to_see A c s xs n) (sweep-ascending M n w) (see-ascending A c s xs n)
    (sweep-sound M (λ (k : ℕ). is_in k (needed_to_see A c s xs n) ≡ true)
    (λ k i p h.
    let q = missing_writers-parts A c s k i h in
    let is : i ≡ last_writer A q.0 k = q.1.1.0 in
    subst (λ (m : ℕ). is_in m (needed_to_see A c s xs n) ≡ true) (sym is)
    (see-closed A c s xs n k q.0 l p q.1.0 (subst (λ (m : ℕ). c < m) is q.1.1.1.0) (subst (λ (m : ℕ). is_in m s ≡ false) is q.1.1.1.1)))
    n w
    (λ k u m.
    let kept = is_in-filter_parts (λ (k : ℕ). nat_lt c k && not (is_in k s)) k writers (sym (same k) ∙ m) in
    let tests = and_parts (nat_lt c k) (not (is_in k s)) kept.1 in
    let from = is_in-map_from (λ (x : ℕ). last_writer A x (suc n)) k xs kept.0 in
    let is : k ≡ last_writer A from.0 (suc n) = from.1.1 in
    subst (λ (m : ℕ). is_in m (needed_to_see A c s xs n) ≡ true) (sym is)
    (see-direct A c s xs n from.0 l from.1.0 (subst (λ (m : ℕ). c < m) is (ltb-true c k tests.0))
    (subst (λ (m : ℕ). is_in m s ≡ false) is (not-true (is_in k s) tests.1)))))
    (see-sound A c s xs n (λ (k : ℕ). is_in k (sweep M n w) ≡ true) l
    (λ x h above free.
    let j = last_writer A x (suc n) in
    let low : 0 < j = omega arith in
    let under : j < suc n = last_writer-below A x (suc n) low in
    sweep-has M n w j
    (same j ∙ is_in-filter (λ (k : ℕ). nat_lt c k && not (is_in k s)) j writers (is_in-map (λ (y : ℕ). last_writer A y (suc n)) x xs h)
    (and_from (nat_lt c j) (not (is_in j s)) (lt-ltb c j above) (not_from_false (is_in j s) free)))
    low (omega arith))
    (λ k x p reads above free.
    sweep-closed M lower n w k (last_writer A x k) p (missing_writers-has A c s k (last_writer A x k) x reads refl above free)))
