-- What a run on threads moved.
use Rattle.std.specs.Prelude.{ℕ, List}

-- What is kept of the connections that are over, each as a `T`, and the numbers of jobs that a crew ran: before a run, and after it.
pub record Moved (T : Type 0) : Type 0 where
  pub kept_before : List T
  pub kept_now : List T
  pub ran_before : List ℕ
  pub ran_now : List ℕ

abbrev pub moved : {T : Type 0} → List T → List T → List ℕ → List ℕ → Moved T
moved kept_before kept_now ran_before ran_now =
    record { kept_before = kept_before; kept_now = kept_now; ran_before = ran_before; ran_now = ran_now }
