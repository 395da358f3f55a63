-- A law of the brief summary.
use Rattle.std.specs.Prelude.{◌≡◌, ℕ, zero, suc, ◌+◌, ◌<◌, List, [], ◌∷◌, Some}
use Rattle.sv_journal.specs.declared.entry.Entry.{Entry}
use Rattle.sv_journal.specs.History.{Outcome, Accepted, Dropped, Denied, client_of, outcomes_of}
use Rattle.sv_report.specs.Drops.{dropped_count}

-- How many of a client's outcomes tell that its action was dropped.
abbrev pub dropped_of : List Outcome → ℕ
dropped_of [] = 0
dropped_of (Accepted p ∷ os) = dropped_of os
dropped_of (Dropped chain far ∷ os) = suc (dropped_of os)
dropped_of (Denied object ∷ os) = dropped_of os

-- The sum over the numbers below n.
abbrev pub sum_below : ℕ → (ℕ → ℕ) → ℕ
sum_below zero f = 0
sum_below (suc n) f = sum_below n f + f n

-- The new Submits that were dropped are the dropped outcomes of all clients, where all their numbers are below n.
abbrev pub DropsAreOutcomes : Type 0
DropsAreOutcomes = (n : ℕ) (h : List Entry) → ((s k : ℕ) → client_of h s ≡ Some k → k < n) →
    dropped_count h ≡ sum_below n (λ k. dropped_of (outcomes_of h k))
