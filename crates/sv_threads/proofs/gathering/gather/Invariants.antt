-- What the tasks so far left was taken in, and there is room for the others.
use Rattle.std.proofs.Common.{◌≡◌, ◌++◌, length}
use Rattle.std.specs.List.{AllByRecursion, flat_map}
use Rattle.sv_threads.specs.Tasks.{serviced_of, played_of}
use Rattle.sv_threads.specs.RunRemains.{ends_of, RemainsHaveRoom, HasFewSessions, Gathered, JoinedPasses, IsOfLock}
use Rattle.sv_threads.proofs.gathering.gather.Given as goal

abbrev pub invariant-loop-out : goal.invariant-loop-out
invariant-loop-out g l =
    let rest = l.out-iterator.rest.items in
    record {
      all : l.yielded ++ rest ≡ l.fn.outs.items;
      gathered : Gathered l.yielded l.left;
      joined : JoinedPasses (serviced_of l.yielded) l.initial.keeper l.keeper;
      passes : AllByRecursion (IsOfLock l.lock) (serviced_of rest);
      numbers : AllByRecursion HasFewSessions (played_of rest);
      room : RemainsHaveRoom (length (serviced_of rest)) (length (flat_map ends_of (played_of rest))) (length (played_of rest)) l.left;
    }
