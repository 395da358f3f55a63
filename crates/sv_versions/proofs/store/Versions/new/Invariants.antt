-- The loop invariant of `Versions::new`.
use Rattle.std.proofs.Common.{◌≡◌, [], replicate}
use Rattle.sv_versions.proofs.store.Versions.new.Given as goal

abbrev pub invariant-loop : goal.invariant-loop
invariant-loop l = l.histories.items ≡ replicate l.counter []
