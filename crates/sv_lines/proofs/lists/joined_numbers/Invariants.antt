-- What is left, behind the numbers so far, gives what all gives.
use Rattle.std.proofs.Common.{◌≡◌, ◌-◌, [], ◌∷◌}
use Rattle.sv_lines.specs.Reading.{joined_by, signed_read}
use Rattle.sv_lines.proofs.lists.joined_numbers.Given as goal

abbrev pub invariant-loop : goal.invariant-loop
invariant-loop l = joined_by signed_read (41 ∷ []) (44 ∷ []) (l.turns - l.counter) l.value l.left ≡ joined_by signed_read (41 ∷ []) (44 ∷ []) l.turns [] l.text
