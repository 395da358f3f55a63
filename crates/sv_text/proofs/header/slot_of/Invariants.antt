-- The object is found in the reads that are left as in all.
use Rattle.std.proofs.Common.{◌≡◌, drop}
use Rattle.sv_text.specs.Reading.{slot_from}
use Rattle.sv_text.proofs.header.slot_of.Given as goal

abbrev pub invariant-loop-slot : goal.invariant-loop-slot
invariant-loop-slot l = slot_from l.slot (drop l.slot l.reads) l.object ≡ slot_from 0 l.reads l.object
