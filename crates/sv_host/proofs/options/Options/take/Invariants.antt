-- What is asked for by the words that are left is what is asked for by all.
use Rattle.std.proofs.Common.{◌≡◌, map, string_bytes, length}
use Rattle.sv_host.specs.Words.{asked_by, taken}
use Rattle.sv_host.proofs.options.Options.take.Given as goal

abbrev pub invariant-loop-word : goal.invariant-loop-word
invariant-loop-word l = taken (map string_bytes l.rest) (asked_by l.self) ≡ taken (map string_bytes l.words) (asked_by l.fn.self)

abbrev pub decreases-loop-word : goal.decreases-loop-word
decreases-loop-word l = length l.rest
