-- What is left, behind the results so far, gives what all gives.
use Rattle.std.proofs.Common.{◌≡◌, ◌-◌, [], ◌∷◌}
use Rattle.sv_lines.specs.Reading.{joined_by, result_read}
use Rattle.sv_lines.proofs.lists.joined_results.Given as goal

abbrev pub invariant-loop : goal.invariant-loop
invariant-loop l = joined_by result_read (93 ∷ []) (32 ∷ []) (l.turns - l.counter) l.results l.left ≡ joined_by result_read (93 ∷ []) (32 ∷ []) l.turns [] l.text
