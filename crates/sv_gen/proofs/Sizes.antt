-- Products of pairs and rounds.
use Rattle.std.proofs.Common.{ℕ, ◌≤◌, ◌<◌, ◌*◌, ◌/◌, ◌+◌, arith}
use Rattle.std.proofs.Math.Nat.{mul-le-mul_left, mul-le-mul_right}

pub product_le : (a b x y : ℕ) → a ≤ x → b ≤ y → a * b ≤ x * y
product_le a b x y l m = omega (arith, mul-le-mul_left a m, mul-le-mul_right y l)

pub objects_fit : (pairs rounds : ℕ) → pairs ≤ 16 → rounds ≤ 12 → pairs * rounds ≤ 192
objects_fit pairs rounds l m = product_le pairs rounds 16 12 l m

pub groups_fit : (client rounds : ℕ) → client < 32 → rounds ≤ 12 → client / 2 * rounds ≤ 180
groups_fit client rounds l m = product_le (client / 2) rounds 15 12 (omega arith) m
