-- A state that is put behind the log.
use Rattle.std.specs.Prelude.{◌≡◌, ◌⊎◌, ◌<◌, ◌≤◌, ℕ, List, [], ◌++◌}
use Rattle.sv_log.specs.Pictures.{Picture}
use Rattle.sv_log.specs.Chains.{StateFile, sum_line, HasLog, KeepsLog}

-- the state after the line of this number that has these bytes and the line of their sum
abbrev pub summed : ℕ → List ℕ → StateFile
summed number bytes = (number, bytes ++ sum_line bytes)

-- The newest state where one was put after the line of this number: the old one stays where no line is behind it.
abbrev pub IsPutState : StateFile → ℕ → List ℕ → StateFile → Type 0
IsPutState old number bytes new = ((number ≤ old.0) × (new ≡ old)) ⊎ ((old.0 < number) × (new ≡ summed number bytes))

-- the log of before, with a text from low to high, or one with the new state and no text behind it
abbrev pub KeepsOrPuts : List ℕ → StateFile → List ℕ → List ℕ → ℕ → List ℕ → Picture → Type 0
KeepsOrPuts world old low high number bytes p = KeepsLog world old low high p ⊎ ((old.0 < number) × HasLog world (summed number bytes) [] p)
