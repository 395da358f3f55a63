-- A mask of 16 bits against places in a list.
use Rattle.std.proofs.Common.{◌≡◌, ℕ, ◌/◌, ◌^◌, ◌<◌, ◌≤◌, false, nat_le, nat_lt, refl, arith}
use Rattle.std.proofs.Math.Nat.{div-eq_of_lt, div-lt_iff_lt-mul}
use Rattle.std.proofs.Math.Pow.{pow_mono}
use Rattle.std.proofs.lemmas.Nat.{pow_pos}
use Rattle.sv_world.specs.Sets.{is_in_mask}

-- No bit stands at a place from 16 on.
pub past_mask : (mask k : ℕ) → mask < 65536 → 16 ≤ k → mask / 2 ^ k ≡ 0
past_mask mask k small past =
    let grows : 2 ^ 16 ≤ 2 ^ k = pow_mono past in
    div-eq_of_lt (omega (arith, small, grows))

pub no_bit_past : (mask k : ℕ) → mask < 65536 → 16 ≤ k → is_in_mask mask k ≡ false
no_bit_past mask k small past = rw (past_mask mask k small past) refl

-- A bit stands at a place or above it where the mask is at least that power.
pub bits_above : (mask k : ℕ) → nat_lt 0 (mask / 2 ^ k) ≡ nat_le (2 ^ k) mask
bits_above mask k =
    let below = div-lt_iff_lt-mul {k = 2 ^ k} {x = mask} {y = 1} (pow_pos k) in
    grind (arith, below.0, below.1)

pub none_above : (mask k : ℕ) → mask < 65536 → 16 ≤ k → nat_le (2 ^ k) mask ≡ false
none_above mask k small past =
    let grows : 2 ^ 16 ≤ 2 ^ k = pow_mono past in
    grind (arith, grows)
