-- The objects so far were printed.
use Rattle.std.proofs.Common.{◌≡◌, ◌++◌, take, string_bytes}
use Rattle.sv_text.specs.Canonical.{spaced_objects}
use Rattle.sv_text.proofs.printer.put_objects.Given as goal

abbrev pub invariant-loop-object : goal.invariant-loop-object
invariant-loop-object l = string_bytes l.out ≡ string_bytes l.fn.out ++ spaced_objects (take l.object-index l.objects)
