-- The loop invariant and the measure of `joining`.
use Rattle.std.proofs.Common.{◌≡◌, ◌++◌, length, map}
use Rattle.sv_client.specs.Traces.{submit_of}
use Rattle.sv_client.proofs.asking.joining.Given as goal

abbrev pub invariant-loop-alloc : goal.invariant-loop-alloc
invariant-loop-alloc l = l.requests.items ++ map submit_of l.rest.items ≡ l.initial.requests.items ++ map submit_of l.initial.rest.items

abbrev pub decreases-loop-alloc : goal.decreases-loop-alloc
decreases-loop-alloc l = length l.rest.items
