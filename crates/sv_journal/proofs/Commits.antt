-- The commit is that of an accepted action, and never falls.
use Rattle.std.proofs.Common.{◌≡◌, ℕ, zero, suc, ◌<◌, ◌≤◌, Bool, true, false, ◌&&◌, List, [], ◌∷◌, length, Option, Some, None, ◌⊎◌, inl, inr, refl, sym, ap, subst, arith, length-append}
use Rattle.std.specs.Prelude.{if◌then◌else◌, ◌==◌, is_some}
use Rattle.std.proofs.lemmas.Bool.{cond_both, cases_eq, cases_lt, cases_Bool, cond-true, eq-eqb, eqb-true, and_parts, and_from}
use Rattle.sv_journal.specs.declared.entry.Entry.{Entry}
use Rattle.sv_journal.specs.History.{either, is_relay, is_noted, reports, client_of, outcomes_of, Authored, new_action, accepted, result_at, run_length, commit_of}

pub run_within : (test : ℕ → Bool) (n : ℕ) → run_length test n ≤ n
run_within test zero = omega arith
run_within test (suc n) = cond_both ((run_length test n == n) && test (suc n)) (suc n) (run_length test n) (λ m. m ≤ suc n)
    (λ _. omega arith) (λ _. omega (arith, run_within test n))

pub commit_within : (h : List Entry) → commit_of h ≤ length (accepted h)
commit_within h = run_within (λ p. is_some (result_at h p)) (length (accepted h))

pub run_passes : (test : ℕ → Bool) (n p : ℕ) → 0 < p → p ≤ run_length test n → test p ≡ true
run_passes test zero p l u = absurd (omega arith)
run_passes test (suc n) p l u =
    let less = run_passes test n p l in
    cond_both ((run_length test n == n) && test (suc n)) (suc n) (run_length test n) (λ (m : ℕ). p ≤ m → test p ≡ true)
    (λ e v.
    let q = and_parts (run_length test n == n) (test (suc n)) e in
    let all : run_length test n ≡ n = eqb-true (run_length test n) n q.0 in
    elim (cases_eq p (suc n)) [
      | inl s ↦ subst (λ (i : ℕ). test i ≡ true) (sym s) q.1
      | inr s ↦ less (omega arith)
    ])
    (λ e v. less v)
    u

-- All up to the commit have results.
pub committed_has : (h : List Entry) (p : ℕ) → 0 < p → p ≤ commit_of h → is_some (result_at h p) ≡ true
committed_has h p l u = run_passes (λ p. is_some (result_at h p)) (length (accepted h)) p l u

-- how many actions an entry adds
pub accepted_grow : (e : Entry) (h : List Entry) → length (accepted h) ≤ length (accepted (e ∷ h))
accepted_grow e h = omega (arith, length-append (accepted h) (if is_relay e.reply then new_action (client_of h e.session) (λ k. suc (length (outcomes_of h k))) e.request else []))

-- ---- The commit never falls

step_up : (f : ℕ → Bool) (n : ℕ) → run_length f n ≤ run_length f (suc n)
step_up f n = cond_both ((run_length f n == n) && f (suc n)) (suc n) (run_length f n) (λ m. run_length f n ≤ m)
    (λ _. omega (arith, run_within f n)) (λ _. omega arith)

all_pass : (f g : ℕ → Bool) → ((p : ℕ) → f p ≡ true → g p ≡ true) → (n : ℕ) → run_length f n ≡ n → run_length g n ≡ n
all_pass f g h zero e = refl
all_pass f g h (suc n) e = go (cases_Bool ((run_length f n == n) && f (suc n))) (all_pass f g h n) e
  where
    go : (((run_length f n == n) && f (suc n)) ≡ true) ⊎ (((run_length f n == n) && f (suc n)) ≡ false) → (run_length f n ≡ n → run_length g n ≡ n) →
        (if (run_length f n == n) && f (suc n) then suc n else run_length f n) ≡ suc n → (if (run_length g n == n) && g (suc n) then suc n else run_length g n) ≡ suc n
    go (inl t) ih e =
        let parts = and_parts (run_length f n == n) (f (suc n)) t in
        let all : run_length g n ≡ n = ih (eqb-true (run_length f n) n parts.0) in
        cond-true ((run_length g n == n) && g (suc n)) (suc n) (run_length g n) (and_from (run_length g n == n) (g (suc n)) (eq-eqb (run_length g n) n all) (h (suc n) parts.1))
    go (inr t) ih e = absurd (omega (arith, rw t at e, run_within f n))

more_pass : (f g : ℕ → Bool) → ((p : ℕ) → f p ≡ true → g p ≡ true) → (n : ℕ) → run_length f n ≤ run_length g n
more_pass f g h zero = omega arith
more_pass f g h (suc n) = go (cases_Bool ((run_length f n == n) && f (suc n))) (more_pass f g h n)
  where
    go : (((run_length f n == n) && f (suc n)) ≡ true) ⊎ (((run_length f n == n) && f (suc n)) ≡ false) → run_length f n ≤ run_length g n → run_length f (suc n) ≤ run_length g (suc n)
    go (inl t) ih =
        let all = all_pass f g h (suc n) (cond-true ((run_length f n == n) && f (suc n)) (suc n) (run_length f n) t) in
        omega (arith, all, run_within f (suc n))
    go (inr t) ih = rw t (omega (arith, ih, step_up g n))

result_stays : {X : Type 0} (a b : Option X) → is_some a ≡ true → is_some (either a b) ≡ true
result_stays None b e = cc
result_stays (Some x) b e = refl

more_numbers : (g : ℕ → Bool) (n m : ℕ) → n ≤ m → run_length g n ≤ run_length g m
more_numbers g n zero le = let e : n ≡ 0 = omega (arith, le) in rw e (omega arith)
more_numbers g n (suc m) le = go (cases_lt m n) (λ l. more_numbers g n m l)
  where
    go : (m < n) ⊎ (n ≤ m) → (n ≤ m → run_length g n ≤ run_length g m) → run_length g n ≤ run_length g (suc m)
    go (inl over) ih = let e : n ≡ suc m = omega (arith, le, over) in omega (arith, ap (run_length g) e)
    go (inr l) ih = omega (arith, ih l, step_up g m)

-- what an entry after h adds
abbrev pub new_by : Entry → List Entry → List Authored
new_by e h = if is_relay e.reply then new_action (client_of h e.session) (λ k. suc (length (outcomes_of h k))) e.request else []

pub commit_grows : (e : Entry) (h : List Entry) → commit_of h ≤ commit_of (e ∷ h)
commit_grows e h =
    let f = λ (p : ℕ). is_some (result_at h p) in
    let g = λ (p : ℕ). is_some (result_at (e ∷ h) p) in
    let stays = more_pass f g (λ p t. result_stays (result_at h p) (if is_noted e.reply then reports p e.request else None) t) (length (accepted h)) in
    let grows = more_numbers g (length (accepted h)) (length (accepted (e ∷ h))) (omega (arith, length-append (accepted h) (new_by e h))) in
    omega (arith, stays, grows)
