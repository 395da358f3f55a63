-- Arithmetic of numbers of 64 bits, which gives none where it is void.
use Rattle.std.specs.Prelude.{ℤ, ◌+ℤ◌, ◌-ℤ◌, ◌*ℤ◌, int_div, int_rem, Option, Some, None, if◌then◌else◌}
use Rattle.sv_world.specs.Ranges.{is_i64, is_zero}

abbrev pub in_i64 : ℤ → Option ℤ
in_i64 z = if is_i64 z then Some z else None

abbrev pub sum_of : ℤ → ℤ → Option ℤ
sum_of x y = in_i64 (x +ℤ y)

abbrev pub difference_of : ℤ → ℤ → Option ℤ
difference_of x y = in_i64 (x -ℤ y)

abbrev pub product_of : ℤ → ℤ → Option ℤ
product_of x y = in_i64 (x *ℤ y)

-- The quotient, cut towards zero. It is void by zero, and of the least number by -1.
abbrev pub quotient_of : ℤ → ℤ → Option ℤ
quotient_of x y = if is_zero y then None else in_i64 (int_div x y)

-- The remainder, with the sign of the left operand. It is void where the quotient is.
abbrev pub remainder_of : ℤ → ℤ → Option ℤ
remainder_of x y = if is_zero y then None else if is_i64 (int_div x y) then Some (int_rem x y) else None
