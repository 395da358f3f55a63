-- What is left, behind the objects so far, gives what all gives.
use Rattle.std.proofs.Common.{◌≡◌, ◌-◌, [], ◌∷◌}
use Rattle.sv_lines.specs.Reading.{joined_by, object_read}
use Rattle.sv_lines.proofs.lists.joined_objects.Given as goal

abbrev pub invariant-loop : goal.invariant-loop
invariant-loop l = joined_by object_read (93 ∷ []) (32 ∷ []) (l.turns - l.counter) l.objects l.left ≡ joined_by object_read (93 ∷ []) (32 ∷ []) l.turns [] l.text
