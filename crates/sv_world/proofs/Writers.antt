-- Last writers, and those of them that a session lacks.
use Rattle.std.proofs.Common.{◌≡◌, ℕ, zero, suc, ◌<◌, ◌≤◌, ◌-◌, ◌+◌, true, false, not, ◌&&◌, ◌⊎◌, inl, inr, List, [], ◌∷◌, ◌++◌, map, length, drop, replicate, refl, sym, ◌∙◌, ap, subst, arith, nat_lt, lt-ltb, ltb-true, slice_index_or, get_or-drop}
use Rattle.std.proofs.lemmas.Bool.{cond_both, cond-true, cond-false, cases_Bool, cases_lt, cases_eq, and_parts, and_from, not_from_false, not-true}
use Rattle.std.proofs.lemmas.List.{get_or-append_right, get_or_append_left, get_or_push, length-replicate}
use Rattle.sv_world.specs.declared.action.Action.{Action}
use Rattle.sv_world.specs.Sets.{read_set, write_set}
use Rattle.sv_world.specs.Control.{is_in, blank, action_at, last_writer, missing_writers}
use Rattle.sv_world.proofs.Members.{is_in-filter, is_in-filter_parts, is_in-map, is_in-map_from}
use Rattle.sv_world.proofs.Sweeps.{AreLower}

pub action_at-append : (A B : List Action) (k : ℕ) → k ≤ length A → action_at (A ++ B) k ≡ action_at A k
action_at-append A B zero l = refl
action_at-append A B (suc k) l = get_or_append_left A B blank k (omega arith)

pub action_at-last : (A : List Action) (a : Action) → action_at (A ++ a ∷ []) (suc (length A)) ≡ a
action_at-last A a = get_or_push A a blank (length A) refl

pub action_at-above : (A : List Action) (c k : ℕ) → c < k → action_at (replicate c blank ++ drop c A) k ≡ action_at A k
action_at-above A c zero l = absurd (omega arith)
action_at-above A c (suc k) l =
    get_or-append_right (replicate c blank) (drop c A) c k blank (length-replicate c blank) (omega arith)
    ∙ get_or-drop c A (k - c) blank
    ∙ ap (λ (n : ℕ). slice_index_or A n blank) (let e : c + (k - c) ≡ k = omega arith in e)

pub last_writer-most : (A : List Action) (x n : ℕ) → last_writer A x (suc n) ≤ n
last_writer-most A x zero = cond_both (is_in x (write_set (action_at A zero))) zero zero (λ (m : ℕ). m ≤ 0) (λ e. omega arith) (λ e. omega arith)
last_writer-most A x (suc n) =
    let less = last_writer-most A x n in
    cond_both (is_in x (write_set (action_at A (suc n)))) (suc n) (last_writer A x (suc n)) (λ (m : ℕ). m ≤ suc n) (λ e. omega arith) (λ e. omega arith)

pub last_writer-below : (A : List Action) (x i : ℕ) → 0 < last_writer A x i → last_writer A x i < i
last_writer-below A x zero l = absurd (omega arith)
last_writer-below A x (suc n) l = let most = last_writer-most A x n in omega arith

pub last_writer-writes : (A : List Action) (x i : ℕ) → 0 < last_writer A x i → is_in x (write_set (action_at A (last_writer A x i))) ≡ true
last_writer-writes A x zero l = absurd (omega arith)
last_writer-writes A x (suc n) l =
    let less = last_writer-writes A x n in
    cond_both (is_in x (write_set (action_at A n))) n (last_writer A x n) (λ (m : ℕ). 0 < m → is_in x (write_set (action_at A m)) ≡ true) (λ e k. e) (λ e k. less k) l

pub last_writer-unwritten : (A : List Action) (x i j : ℕ) → last_writer A x i < j → j < i → is_in x (write_set (action_at A j)) ≡ false
last_writer-unwritten A x zero j l h = absurd (omega arith)
last_writer-unwritten A x (suc n) j l h =
    let less = last_writer-unwritten A x n j in
    cond_both (is_in x (write_set (action_at A n))) n (last_writer A x n) (λ (m : ℕ). m < j → is_in x (write_set (action_at A j)) ≡ false)
    (λ e k. absurd (omega arith))
    (λ e k. elim (cases_eq j n) [ inl s ↦ subst (λ (m : ℕ). is_in x (write_set (action_at A m)) ≡ false) (sym s) e | inr s ↦ less k (omega arith) ])
    l

-- A position below i that writes the object, with none after it below i that does, is the last writer.
pub last_writer-is : (A : List Action) (x i j : ℕ) → j < i → is_in x (write_set (action_at A j)) ≡ true →
    ((k : ℕ) → j < k → k < i → is_in x (write_set (action_at A k)) ≡ false) → last_writer A x i ≡ j
last_writer-is A x zero j l w none = absurd (omega arith)
last_writer-is A x (suc n) j l w none =
    let less = last_writer-is A x n j in
    elim (cases_eq j n) [
      | inl s ↦ cond-true (is_in x (write_set (action_at A n))) n (last_writer A x n) (subst (λ (m : ℕ). is_in x (write_set (action_at A m)) ≡ true) s w) ∙ sym s
      | inr s ↦ cond-false (is_in x (write_set (action_at A n))) n (last_writer A x n) (none n (omega arith) (omega arith))
          ∙ less (omega arith) w (λ k a b. none k a (omega arith))
    ]

-- The object has no writer from low on below i, so its last writer is that below low.
pub last_writer-earlier : (A : List Action) (x low i : ℕ) → low ≤ i → ((k : ℕ) → low ≤ k → k < i → is_in x (write_set (action_at A k)) ≡ false) →
    last_writer A x i ≡ last_writer A x low
last_writer-earlier A x low zero l none = ap (last_writer A x) (let e : zero ≡ low = omega arith in e)
last_writer-earlier A x low (suc n) l none =
    let less = last_writer-earlier A x low n in
    elim (cases_eq low (suc n)) [
      | inl s ↦ ap (last_writer A x) (sym s)
      | inr s ↦ cond-false (is_in x (write_set (action_at A n))) n (last_writer A x n) (none n (omega arith) (omega arith))
          ∙ less (omega arith) (λ k a b. none k a (omega arith))
    ]

-- In two lists that agree above the commit, and below i, the last writers are the same or both at or below the commit.
pub last_writer-agree : (A B : List Action) (c x i : ℕ) → ((k : ℕ) → c < k → k < i → action_at A k ≡ action_at B k) →
    (last_writer A x i ≡ last_writer B x i) ⊎ ((last_writer A x i ≤ c) × (last_writer B x i ≤ c))
last_writer-agree A B c x zero same = inl refl
last_writer-agree A B c x (suc n) same =
    let less = last_writer-agree A B c x n (λ k a b. same k a (omega arith)) in
    let t = is_in x (write_set (action_at A n)) in
    let u = is_in x (write_set (action_at B n)) in
    elim (cases_lt c n) [
      | inl l ↦
          (let e : t ≡ u = ap (λ (a : Action). is_in x (write_set a)) (same n l (omega arith)) in
          elim (cases_Bool t) [
            | inl yes' ↦ inl (cond-true t n (last_writer A x n) yes' ∙ sym (cond-true u n (last_writer B x n) (sym e ∙ yes')))
            | inr no' ↦
                (let a = cond-false t n (last_writer A x n) no' in
                let b = cond-false u n (last_writer B x n) (sym e ∙ no') in
                elim less [ inl s ↦ inl (a ∙ s ∙ sym b) | inr s ↦ inr (subst (λ (m : ℕ). m ≤ c) (sym a) s.0, subst (λ (m : ℕ). m ≤ c) (sym b) s.1) ])
          ])
      | inr l ↦ (let a = last_writer-most A x n in let b = last_writer-most B x n in inr (omega arith, omega arith))
    ]

-- In two lists that agree below i it is the same.
pub last_writer-same : (A B : List Action) (x i : ℕ) → ((k : ℕ) → 0 < k → k < i → action_at A k ≡ action_at B k) → last_writer A x i ≡ last_writer B x i
last_writer-same A B x i same = elim (last_writer-agree A B 0 x i same) [ inl e ↦ e | inr e ↦ omega arith ]

pub missing_writers-parts : (A : List Action) (c : ℕ) (s : List ℕ) (k j : ℕ) → is_in j (missing_writers A c s k) ≡ true →
    (x : ℕ) × ((is_in x (read_set (action_at A k)) ≡ true) × ((j ≡ last_writer A x k) × ((c < j) × (is_in j s ≡ false))))
missing_writers-parts A c s k j h =
    let kept = is_in-filter_parts (λ (m : ℕ). nat_lt c m && not (is_in m s)) j (map (λ (x : ℕ). last_writer A x k) (read_set (action_at A k))) h in
    let tests = and_parts (nat_lt c j) (not (is_in j s)) kept.1 in
    let from = is_in-map_from (λ (x : ℕ). last_writer A x k) j (read_set (action_at A k)) kept.0 in
    (from.0, (from.1.0, (from.1.1, (ltb-true c j tests.0, not-true (is_in j s) tests.1))))

pub missing_writers-has : (A : List Action) (c : ℕ) (s : List ℕ) (k j x : ℕ) → is_in x (read_set (action_at A k)) ≡ true → j ≡ last_writer A x k →
    c < j → is_in j s ≡ false → is_in j (missing_writers A c s k) ≡ true
missing_writers-has A c s k j x reads is above unsent =
    is_in-filter (λ (m : ℕ). nat_lt c m && not (is_in m s)) j (map (λ (x : ℕ). last_writer A x k) (read_set (action_at A k)))
    (subst (λ (m : ℕ). is_in m (map (λ (x : ℕ). last_writer A x k) (read_set (action_at A k))) ≡ true) (sym is)
    (is_in-map (λ (x : ℕ). last_writer A x k) x (read_set (action_at A k)) reads))
    (and_from (nat_lt c j) (not (is_in j s)) (lt-ltb c j above) (not_from_false (is_in j s) unsent))

pub missing_writers-lower : (A : List Action) (c : ℕ) (s : List ℕ) → AreLower (missing_writers A c s)
missing_writers-lower A c s k j h =
    let parts = missing_writers-parts A c s k j h in
    let is : j ≡ last_writer A parts.0 k = parts.1.1.0 in
    let above : c < j = parts.1.1.1.0 in
    let low : 0 < last_writer A parts.0 k = omega arith in
    let below' : last_writer A parts.0 k < k = last_writer-below A parts.0 k low in
    (omega arith, omega arith)
