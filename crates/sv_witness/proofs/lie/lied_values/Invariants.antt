-- The loop invariant of `lied_values`.
use Rattle.std.proofs.Common.{◌≡◌, map, take}
use Rattle.sv_witness.specs.Lies.{lied_value}
use Rattle.sv_witness.proofs.lie.lied_values.Given as goal

abbrev pub invariant-loop-value : goal.invariant-loop-value
invariant-loop-value l = l.lies.items ≡ map lied_value (take l.value-index l.values)
