-- How the calls of an object in memory are counted.
use Rattle.std.specs.Prelude.{ℕ, ◌+◌, ◌-◌, ◌^◌, min}

-- the number of the call that follows so many: the count stops at 2 ^ 64 - 1
abbrev pub next_call : ℕ → ℕ
next_call made = min (made + 1) (2 ^ 64 - 1)
