-- The commit is the greatest position up to which all have results.
use Rattle.std.proofs.Common.{◌≡◌, ℕ, zero, suc, ◌<◌, ◌≤◌, Bool, true, inl, inr, ℤ, List, length, Option, Some, None, is_some, refl, sym, ap, subst, arith}
use Rattle.std.proofs.lemmas.Bool.{cases_eq}
use Rattle.sv_journal.specs.declared.entry.Entry.{Entry}
use Rattle.sv_journal.specs.History.{accepted, result_at, commit_of}
use Rattle.sv_journal.proofs.Commits.{committed_has, commit_within}
use Rattle.law_system.proofs.Commits.{run-least}
use Rattle.law_journal.specs.Committed.{AllHaveResults, CommitIsTheGreatest, NextHasNoResult}

-- ---- The commit

abbrev has_result : List Entry → ℕ → Bool
has_result h p = is_some (result_at h p)

pub all-to-commit : (h : List Entry) → AllHaveResults h (commit_of h)
all-to-commit h p low high =
    let most : commit_of h ≤ length (accepted h) = commit_within h in
    (omega arith, committed_has h p (omega arith) high)

within : (h : List Entry) (n : ℕ) → AllHaveResults h n → n ≤ length (accepted h)
within h zero all = omega arith
within h (suc n) all = (all (suc n) (omega arith) (omega arith)).0

pub commit-greatest : (h : List Entry) (m : ℕ) → AllHaveResults h m → m ≤ commit_of h
commit-greatest h m all =
    run-least (has_result h) (length (accepted h)) m (within h m all) (λ p low high. (all p (omega arith) high).1)

pub commit_is_the_greatest : CommitIsTheGreatest
commit_is_the_greatest h = record { holds = all-to-commit h; greatest = commit-greatest h }

-- ---- The next position

one-more : (h : List Entry) → commit_of h < length (accepted h) → is_some (result_at h (suc (commit_of h))) ≡ true → AllHaveResults h (suc (commit_of h))
one-more h more here p low high =
    elim (cases_eq p (suc (commit_of h))) [
      | inl same ↦ (omega arith, subst (λ (i : ℕ). is_some (result_at h i) ≡ true) (sym same) here)
      | inr other ↦ (omega arith, committed_has h p (omega arith) (omega arith))
    ]

pub next_has_no_result : NextHasNoResult
next_has_no_result h more = go (result_at h (suc (commit_of h))) refl
  where
    go : (o : Option (List (List ℤ))) → result_at h (suc (commit_of h)) ≡ o → result_at h (suc (commit_of h)) ≡ None
    go None is = is
    go (Some values) is =
        let over : suc (commit_of h) ≤ commit_of h =
        commit-greatest h (suc (commit_of h)) (one-more h more (ap (λ (x : Option (List (List ℤ))). is_some x) is)) in
        absurd (omega arith)
