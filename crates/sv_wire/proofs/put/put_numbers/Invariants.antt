-- The loop invariant of `put_numbers`.
use Rattle.std.proofs.Common.{◌≡◌, ◌++◌, take, flat_map}
use Rattle.sv_wire.specs.Spelling.{int_bytes}
use Rattle.std.specs.Int.{w64}
use Rattle.sv_wire.proofs.put.put_numbers.Given as goal

abbrev pub invariant-loop-number : goal.invariant-loop-number
invariant-loop-number l = l.out.items ≡ l.fn.out.items ++ flat_map (int_bytes w64) (take l.number-index l.numbers)
