-- The chain by last writers: of the influence, what the positions that wait to be taken still give.
use Rattle.std.proofs.Common.{◌≡◌, ℕ, suc, ◌<◌, ◌≤◌, ◌+◌, true, Bool, ◌||◌, inl, inr, List, [], ◌∷◌, ◌++◌, map, filter, length, drop, max, refl, sym, ◌∙◌, ap, subst, nat_lt, arith, lt-ltb, ltb-true, append-nil}
use Rattle.std.proofs.lemmas.List.{drop_all, map-append}
use Rattle.std.proofs.lemmas.List.Elements.{filter-append}
use Rattle.sv_world.specs.declared.action.Action.{Action}
use Rattle.sv_world.specs.Sets.{read_set}
use Rattle.sv_world.specs.Control.{is_in, action_at, last_writer, missing_writers, wanted_up_to, influence, chain_length}
use Rattle.sv_world.specs.Trees.{greatest}
use Rattle.sv_world.specs.Faults.{is_ascending}
use Rattle.sv_world.proofs.Influences.{influence-ascending, influence-bounds, last_writer-before}
use Rattle.sv_world.proofs.Members.{is_in-head, is_in-append_left, is_in-append_right, is_in-append_cases, is_in-filter, is_in-filter_parts, is_in-map, is_in-map_from, same_test}
use Rattle.sv_world.proofs.Sweeps.{sweep-same, sweep-has}
use Rattle.sv_world.proofs.Writers.{action_at-append, action_at-last, last_writer-below, missing_writers-parts, missing_writers-has, missing_writers-lower}
use Rattle.sv_queue.proofs.Members.{is_in-append}
use Rattle.sv_influence.specs.Writers.{writers_of}
use Rattle.sv_influence.proofs.Counts.{ascending-few}
use Rattle.sv_influence.proofs.Growth.{ascending-last, sweep-pop, whole-nil}
use Rattle.sv_influence.proofs.Looks.{members-move}
use Rattle.sv_influence.proofs.Takes.{is_in-swap}

-- What each position makes wanted.
abbrev makes : List Action → ℕ → Action → ℕ → List ℕ
makes A c a = missing_writers (A ++ a ∷ []) c []

-- What is left to take where these are wanted.
abbrev pub left : List Action → ℕ → Action → List ℕ → List ℕ
left A c a wanted = wanted_up_to (A ++ a ∷ []) c [] (length A) wanted

-- Each last writer is above the commit.
abbrev pub AreAbove : List Action → ℕ → Type 0
AreAbove A c = (x k : ℕ) → 0 < last_writer A x k → c < last_writer A x k

abbrev pub AreWithin : ℕ → ℕ → List ℕ → Type 0
AreWithin c n xs = (j : ℕ) → is_in j xs ≡ true → (c < j) × (j ≤ n)

-- A step of the look at what is read.
pub writers_of-step : (A : List Action) (k o w : ℕ) (xs ys old new' : List ℕ) → ys ≡ o ∷ xs → w ≡ last_writer A o k →
    ((j : ℕ) → is_in j new' ≡ is_in j (filter (λ (n : ℕ). nat_lt 0 n) (w ∷ []) ++ old)) → (j : ℕ) → is_in j (writers_of A k xs ++ new') ≡ is_in j (writers_of A k ys ++ old)
writers_of-step A k o w xs ys old new' e is h j =
    members-move j (writers_of A k (o ∷ [])) (writers_of A k xs) old new'
    (h j ∙ ap (λ (n : ℕ). is_in j (filter (λ (m : ℕ). nat_lt 0 m) (n ∷ []) ++ old)) is)
    ∙ ap (λ (zs : List ℕ). is_in j (zs ++ old))
    (sym (ap (writers_of A k) e ∙ filter-append (λ (n : ℕ). nat_lt 0 n) (last_writer A o k ∷ []) (map (λ (x : ℕ). last_writer A x k) xs)))

pub writers_of-end : (A : List Action) (k : ℕ) (xs old : List ℕ) (i j : ℕ) → length xs ≤ i → is_in j old ≡ is_in j (writers_of A k (drop i xs) ++ old)
writers_of-end A k xs old i j l = ap (λ (ys : List ℕ). is_in j (writers_of A k ys ++ old)) (sym (drop_all i xs l))

writers_of-parts : (A : List Action) (k j : ℕ) (xs : List ℕ) → is_in j (writers_of A k xs) ≡ true →
    (x : ℕ) × ((is_in x xs ≡ true) × ((j ≡ last_writer A x k) × (0 < j)))
writers_of-parts A k j xs h =
    let kept = is_in-filter_parts (λ (m : ℕ). nat_lt 0 m) j (map (λ (x : ℕ). last_writer A x k) xs) h in
    let from = is_in-map_from (λ (x : ℕ). last_writer A x k) j xs kept.0 in
    (from.0, (from.1.0, (from.1.1, ltb-true 0 j kept.1)))

writers_of-has : (A : List Action) (k j x : ℕ) (xs : List ℕ) → is_in x xs ≡ true → j ≡ last_writer A x k → 0 < j → is_in j (writers_of A k xs) ≡ true
writers_of-has A k j x xs reads is low =
    is_in-filter (λ (m : ℕ). nat_lt 0 m) j (map (λ (y : ℕ). last_writer A y k) xs)
    (subst (λ (m : ℕ). is_in m (map (λ (y : ℕ). last_writer A y k) xs) ≡ true) (sym is) (is_in-map (λ (y : ℕ). last_writer A y k) x xs reads))
    (lt-ltb 0 j low)

writers_of-missing : (A B : List Action) (c k j : ℕ) (xs : List ℕ) → AreAbove A c → ((x : ℕ) → last_writer B x k ≡ last_writer A x k) → read_set (action_at B k) ≡ xs →
    is_in j (writers_of A k xs) ≡ is_in j (missing_writers B c [] k)
writers_of-missing A B c k j xs up same is =
    same_test (is_in j (writers_of A k xs)) (is_in j (missing_writers B c [] k))
    (λ h.
    let p = writers_of-parts A k j xs h in
    let e : j ≡ last_writer A p.0 k = p.1.1.0 in
    let low : 0 < j = p.1.1.1 in
    let over' : c < last_writer A p.0 k = up p.0 k (omega arith) in
    missing_writers-has B c [] k j p.0 (subst (λ (ys : List ℕ). is_in p.0 ys ≡ true) (sym is) p.1.0) (e ∙ sym (same p.0)) (omega arith) refl)
    (λ h.
    let p = missing_writers-parts B c [] k j h in
    let low : c < j = p.1.1.1.0 in
    writers_of-has A k j p.0 xs (subst (λ (ys : List ℕ). is_in p.0 ys ≡ true) is p.1.0) (p.1.1.0 ∙ same p.0) (omega arith))

made-earlier : (A : List Action) (c : ℕ) (a : Action) (k j : ℕ) → AreAbove A c → k ≤ length A →
    is_in j (writers_of A k (read_set (action_at A k))) ≡ is_in j (makes A c a k)
made-earlier A c a k j up l =
    writers_of-missing A (A ++ a ∷ []) c k j (read_set (action_at A k)) up (λ x. last_writer-before A a x k (omega arith)) (ap read_set (action_at-append A (a ∷ []) k l))

made-first : (A : List Action) (c : ℕ) (a : Action) (j : ℕ) → AreAbove A c →
    is_in j (writers_of A (suc (length A)) (read_set a)) ≡ is_in j (makes A c a (suc (length A)))
made-first A c a j up =
    writers_of-missing A (A ++ a ∷ []) c (suc (length A)) j (read_set a) up (λ x. last_writer-before A a x (suc (length A)) (omega arith)) (ap read_set (action_at-last A a))

writers_of-within : (A : List Action) (c k j : ℕ) (xs : List ℕ) → AreAbove A c → is_in j (writers_of A k xs) ≡ true → (c < j) × (j < k)
writers_of-within A c k j xs up h =
    let p = writers_of-parts A k j xs h in
    let e : j ≡ last_writer A p.0 k = p.1.1.0 in
    let low : 0 < j = p.1.1.1 in
    let over' : c < last_writer A p.0 k = up p.0 k (omega arith) in
    let under : last_writer A p.0 k < k = last_writer-below A p.0 k (omega arith) in
    (omega arith, omega arith)

-- At first it is the whole influence.
pub left-first : (A : List Action) (c : ℕ) (a : Action) (k : ℕ) (wanted old : List ℕ) → AreAbove A c → k ≡ suc (length A) → old ≡ [] →
    ((j : ℕ) → is_in j wanted ≡ is_in j (writers_of A k (read_set a) ++ old)) → left A c a wanted ≡ influence A c a
left-first A c a k wanted old up at none is =
    let same : (j : ℕ) → is_in j wanted ≡ is_in j (makes A c a (suc (length A))) =
    λ j. is j ∙ ap (λ (xs : List ℕ). is_in j (writers_of A k (read_set a) ++ xs)) none
    ∙ ap (is_in j) (append-nil (writers_of A k (read_set a)))
    ∙ ap (λ (n : ℕ). is_in j (writers_of A n (read_set a))) at ∙ made-first A c a j up in
    sweep-same (makes A c a) (missing_writers-lower (A ++ a ∷ []) c []) (length A) wanted (makes A c a (suc (length A)))
    (λ j l m. sym (same j) ∙ m) (λ j l m. same j ∙ m)
    (λ m. let b = missing_writers-lower (A ++ a ∷ []) c [] (suc (length A)) 0 m in absurd (omega arith))

pub within-first : (A : List Action) (c : ℕ) (a : Action) (k : ℕ) (wanted old : List ℕ) → AreAbove A c → k ≡ suc (length A) → old ≡ [] →
    ((j : ℕ) → is_in j wanted ≡ is_in j (writers_of A k (read_set a) ++ old)) → AreWithin c (length A) wanted
within-first A c a k wanted old up at none is j m =
    let h = subst (λ (xs : List ℕ). is_in j (writers_of A k (read_set a) ++ xs) ≡ true) none (sym (is j) ∙ m) in
    let b = writers_of-within A c k j (read_set a) up (ap (is_in j) (sym (append-nil (writers_of A k (read_set a)))) ∙ h) in
    (b.0, omega arith)

pub taken-within : (c n p : ℕ) (wanted rest : List ℕ) → AreWithin c n wanted → wanted ≡ rest ++ p ∷ [] → (c < p) × (p ≤ n)
taken-within c n p wanted rest within e = within p (subst (λ (xs : List ℕ). is_in p xs ≡ true) (sym e) (is_in-append_right p rest (p ∷ []) (is_in-head p [])))

rest-within : (c n p : ℕ) (wanted rest : List ℕ) → AreWithin c n wanted → wanted ≡ rest ++ p ∷ [] → AreWithin c n rest
rest-within c n p wanted rest within e j m = within j (subst (λ (xs : List ℕ). is_in j xs ≡ true) (sym e) (is_in-append_left j rest (p ∷ []) m))

-- With the greatest taken, and what it reads from wanted in its place, it is as much without that one.
pub left-next : (A : List Action) (c : ℕ) (a b : Action) (p : ℕ) (wanted rest new' : List ℕ) → AreAbove A c → AreWithin c (length A) wanted → is_ascending wanted ≡ true →
    wanted ≡ rest ++ p ∷ [] → b ≡ action_at A p → ((j : ℕ) → is_in j new' ≡ is_in j (writers_of A p (read_set b) ++ rest)) → left A c a wanted ≡ left A c a new' ++ p ∷ []
left-next A c a b p wanted rest new' up within h e placed is =
    let at = taken-within c (length A) p wanted rest within e in
    let low : c < p = at.0 in
    ap (left A c a) e
    ∙ sweep-pop (makes A c a) (missing_writers-lower (A ++ a ∷ []) c []) (length A) rest new' p (omega arith) at.1
    (λ j m.
    let low' : c < j = (rest-within c (length A) p wanted rest within e j m).0 in
    (omega arith, ascending-last rest p (subst (λ (xs : List ℕ). is_ascending xs ≡ true) e h) j m))
    (λ j. is j ∙ is_in-append j (writers_of A p (read_set b)) rest
    ∙ ap (λ (t : Bool). t || is_in j rest) (ap (λ (d : Action). is_in j (writers_of A p (read_set d))) placed ∙ made-earlier A c a p j up at.1)
    ∙ sym (is_in-append j (makes A c a p) rest) ∙ is_in-swap j (makes A c a p) rest)

pub within-next : (A : List Action) (c : ℕ) (b : Action) (p : ℕ) (wanted rest new' : List ℕ) → AreAbove A c → AreWithin c (length A) wanted →
    wanted ≡ rest ++ p ∷ [] → ((j : ℕ) → is_in j new' ≡ is_in j (writers_of A p (read_set b) ++ rest)) → AreWithin c (length A) new'
within-next A c b p wanted rest new' up within e is j m =
    let high : p ≤ length A = (taken-within c (length A) p wanted rest within e).1 in
    elim (is_in-append_cases j (writers_of A p (read_set b)) rest (sym (is j) ∙ m)) [
      | inl l ↦ (let d = writers_of-within A c p j (read_set b) up l in let under : j < p = d.1 in (d.0, omega arith))
      | inr r ↦ rest-within c (length A) p wanted rest within e j r
    ]

pub left-some : (A : List Action) (c : ℕ) (a : Action) (p : ℕ) (wanted rest : List ℕ) → AreWithin c (length A) wanted → wanted ≡ rest ++ p ∷ [] → 0 < length (left A c a wanted)
left-some A c a p wanted rest within e =
    let at = taken-within c (length A) p wanted rest within e in
    let low : c < p = at.0 in
    some_of p (left A c a wanted)
    (sweep-has (makes A c a) (length A) wanted p (subst (λ (xs : List ℕ). is_in p xs ≡ true) (sym e) (is_in-append_right p rest (p ∷ []) (is_in-head p []))) (omega arith) at.1)
  where
    some_of : (j : ℕ) (xs : List ℕ) → is_in j xs ≡ true → 0 < length xs
    some_of j [] h = cc
    some_of j (x ∷ xs) h = omega arith

-- Where none is wanted nothing is left.
pub left-none : (A : List Action) (c : ℕ) (a : Action) (wanted rest : List ℕ) → wanted ≡ rest ++ [] → rest ≡ [] → left A c a wanted ≡ []
left-none A c a wanted rest e none =
    ap (left A c a) (e ∙ append-nil rest ∙ none) ∙ whole-nil (makes A c a) (length A)

pub chain-few : (A : List Action) (c : ℕ) (a : Action) → chain_length A c a ≤ length A
chain-few A c a =
    let few : length (influence A c a) + 0 ≤ length A =
    ascending-few 0 (length A) (influence A c a) (influence-ascending A c a)
    (λ j m. let b = influence-bounds A c a j m in let low : c < j = b.0 in (omega arith, b.1)) (omega arith) in
    omega arith

pub max-none : (n : ℕ) → max 0 n ≡ n
max-none n = omega arith

greatest-push : (xs : List ℕ) (y : ℕ) → greatest (xs ++ y ∷ []) ≡ max (greatest xs) y
greatest-push [] y = omega arith
greatest-push (x ∷ xs) y = let more = greatest-push xs y in omega arith

pub greatest-left : (f : ℕ → ℕ) (old new' : List ℕ) (p far : ℕ) → old ≡ new' ++ p ∷ [] → max (max (f p) far) (greatest (map f new')) ≡ max far (greatest (map f old))
greatest-left f old new' p far e =
    let g : greatest (map f old) ≡ max (greatest (map f new')) (f p) = ap (λ (xs : List ℕ). greatest (map f xs)) e ∙ ap greatest (map-append f new' (p ∷ [])) ∙ greatest-push (map f new') (f p) in
    omega arith
