-- What running jobs means.
use Rattle.std.specs.Prelude.{◌≡◌, ℕ, ◌≤◌, Option, IfSome, List, [], ◌∷◌, ◌++◌}
use Rattle.sv_bytes.specs.Faults.{Rose}
use Rattle.sv_link.specs.declared.crews.Ran.{Ran}
use Rattle.sv_link.specs.declared.crews.Ran.TheVariants.{Done, Failed, Memory}

module _ {A J : Type 0} where
  -- where all jobs ran, P holds of what they gave, in the order of the jobs
  abbrev pub IfDone : Ran A J → (List A → Type 0) → Type 0
  IfDone (Done outs) P = P outs.items
  IfDone Failed P = Unit {0}
  IfDone (Memory jobs) P = Unit {0}

  -- the number of jobs is noted just where all of them ran
  abbrev pub RanMore : List ℕ → List ℕ → ℕ → Ran A J → Type 0
  RanMore before now count (Done outs) = now ≡ before ++ count ∷ []
  RanMore before now count Failed = now ≡ before
  RanMore before now count (Memory jobs) = now ≡ before

  -- a crew's count of faults rises just where it answers that it failed
  abbrev pub CrewCause : ℕ → ℕ → Ran A J → Type 0
  CrewCause before now (Done outs) = now ≡ before
  CrewCause before now Failed = Rose before now
  CrewCause before now (Memory jobs) = now ≡ before

  -- where there was no memory the jobs are given back, all of them in order
  abbrev pub LeavesJobs : List J → Ran A J → Type 0
  LeavesJobs given (Done outs) = Unit {0}
  LeavesJobs given Failed = Unit {0}
  LeavesJobs given (Memory jobs) = jobs.items ≡ given

  -- all of so many jobs run only where the crew itself refuses the start of none of them
  abbrev pub RefusedNone : Option ℕ → ℕ → Ran A J → Type 0
  RefusedNone refused count (Done outs) = IfSome refused (λ place. count ≤ place)
  RefusedNone refused count Failed = Unit {0}
  RefusedNone refused count (Memory jobs) = Unit {0}
