-- What is left, behind the values so far, gives what all gives.
use Rattle.std.proofs.Common.{◌≡◌, ◌-◌, []}
use Rattle.sv_lines.specs.Reading.{values_by}
use Rattle.sv_lines.proofs.lists.joined_values.Given as goal

abbrev pub invariant-loop : goal.invariant-loop
invariant-loop l = values_by (l.turns - l.counter) l.values l.left ≡ values_by l.turns [] l.text
