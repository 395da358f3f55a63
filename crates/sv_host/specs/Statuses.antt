-- The statuses of a call of `host`, and what is told at its end.
use Rattle.std.specs.Prelude.{◌≡◌, ◌⊎◌, ℕ, List, Option}
use Rattle.sv_bytes.specs.Writing.{GrewOrRose}
use Rattle.sv_host.specs.Lines.{ending_line, status_of}
use Rattle.sv_host.specs.declared.ending.HostEnd.{HostEnd}
use Rattle.sv_host.specs.declared.ending.HostEnd.TheVariants as endings

-- It ends for its words or for a file.
abbrev pub IsEarly : HostEnd → Type 0
IsEarly endings.Words = Unit {0}
IsEarly (endings.World line) = Unit {0}
IsEarly (endings.Keys name line) = Unit {0}
IsEarly (endings.File name) = Unit {0}
IsEarly _ = ⊥

-- The statuses of a call.
abbrev pub IsStatus : ℕ → Type 0
IsStatus n = (n ≡ 0) ⊎ (n ≡ 2) ⊎ (n ≡ 3) ⊎ (n ≡ 4) ⊎ (n ≡ 5) ⊎ (n ≡ 6) ⊎ (n ≡ 8) ⊎ (n ≡ 13) ⊎ (n ≡ 14)

-- The line of an ending was told last. For the words or for a file it is the only one.
pub record IsToldLast {E : Type 0} (taken : E → Option (List ℕ)) (faults : E → ℕ) (old new : E) (ending : HostEnd) : Type 0 where
  pub middle : E
  pub only : IsEarly ending → middle ≡ old
  pub told : GrewOrRose (taken middle) (taken new) (faults middle) (faults new) (ending_line ending)

-- There is an ending of this status that is so.
pub record EndsBy (IsSo : HostEnd → Type 0) (status : ℕ) : Type 0 where
  pub ending : HostEnd
  pub status_is : status ≡ status_of ending
  pub so : IsSo ending
