-- The loop invariant of `awaited_at_join`.
use Rattle.std.proofs.Common.{◌≡◌, ◌∷◌, replicate}
use Rattle.sv_client.specs.declared.kinds.Awaited.TheVariants as kinds
use Rattle.sv_client.proofs.asking.awaited_at_join.Given as goal

abbrev pub invariant-loop : goal.invariant-loop
invariant-loop l = l.awaited.items ≡ kinds.Join ∷ replicate l.counter kinds.Submit
