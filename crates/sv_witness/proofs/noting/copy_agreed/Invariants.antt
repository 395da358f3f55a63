-- The loop invariant and the ghost arguments of `copy_agreed`.
use Rattle.std.proofs.Common.{◌≡◌, ◌++◌, drop}
use Rattle.sv_witness.specs.Kept.{agreed_results}
use Rattle.sv_witness.proofs.noting.copy_agreed.Given as goal

abbrev pub invariant-loop-found : goal.invariant-loop-found
invariant-loop-found l =
    l.copies.items ++ agreed_results l.queue l.reports (drop l.found-index l.counted) ≡ agreed_results l.queue l.reports l.counted

abbrev pub ghosts-brings : goal.ghosts-brings
ghosts-brings a = record { name = a.blank.name; parts = a.blank.parts }
