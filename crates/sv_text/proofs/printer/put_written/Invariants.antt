-- What is printed, with the written objects that are left, is the whole.
use Rattle.std.proofs.Common.{◌≡◌, ◌++◌, drop, string_bytes}
use Rattle.sv_text.specs.Canonical.{spaced_objects, written}
use Rattle.sv_text.proofs.printer.put_written.Given as goal

abbrev pub invariant-loop-read : goal.invariant-loop-read
invariant-loop-read l = string_bytes l.out ++ spaced_objects (written (drop l.read-index l.reads) l.left) ≡ string_bytes l.fn.out ++ spaced_objects (written l.reads l.mask)
