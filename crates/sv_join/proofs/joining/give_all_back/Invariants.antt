-- The ends that are still to be given back.
use Rattle.std.proofs.Common.{◌≡◌, ◌+◌, ◌<◌, ◌++◌, length}
use Rattle.std.specs.List.{AllByRecursion}
use Rattle.sv_join.specs.Joining.{passages_of}
use Rattle.sv_join.proofs.joining.give_all_back.Given as goal

abbrev pub invariant-loop-steady : goal.invariant-loop-steady
invariant-loop-steady g l =
    let E = g.D.E.End in
    let rest = l.steady-iterator.rest.items in
    record {
      own : AllByRecursion (λ s. (E.told s.end).pair < g.D.Door.made l.door) rest;
      owed : g.D.Door.owed l.fn.door + length rest ≡ g.D.Door.owed l.door + length l.fn.ends.items;
      given : g.D.Door.given l.door ++ passages_of (λ s. E.told s.end) (λ s. E.faults s.end) rest ≡ g.D.Door.given l.fn.door ++ passages_of (λ s. E.told s.end) (λ s. E.faults s.end) l.fn.ends.items;
      faults : g.D.Door.faults l.door ≡ g.D.Door.faults l.fn.door;
    }
