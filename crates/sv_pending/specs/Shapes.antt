-- Pending actions whose kept values have the numbers of their world.
use Rattle.std.specs.Prelude.{ℕ, ℤ, ◌≡◌, List, [], ◌∷◌, length, All}
use Rattle.std.specs.Option.{IfSome}
use Rattle.sv_world.specs.Sets.{write_set}
use Rattle.sv_pending.specs.Pending.{PendingAction, Overlaid, Unwritten, Unknown, KeptValues}

-- a value has so many numbers
abbrev pub IsLong : ℕ → List ℤ → Type 0
IsLong attrs v = length v ≡ attrs

-- a kept result has one value for each written object, each of so many numbers
abbrev pub KeepsShaped : ℕ → PendingAction → Type 0
KeepsShaped attrs p = IfSome p.kept (λ vs. (length vs ≡ length (write_set p.action)) × All (IsLong attrs) vs)

abbrev pub AreShaped : ℕ → List PendingAction → Type 0
AreShaped attrs [] = Unit {0}
AreShaped attrs (p ∷ ps) = KeepsShaped attrs p × AreShaped attrs ps

abbrev pub ShowsShaped : ℕ → Overlaid → Type 0
ShowsShaped attrs Unwritten = Unit {0}
ShowsShaped attrs Unknown = Unit {0}
ShowsShaped attrs (KeptValues v) = length v ≡ attrs
