-- The sessions whose ends are still to be given back.
use Rattle.std.proofs.Common.{◌≡◌, ◌+◌, ◌≤◌, ◌++◌, length}
use Rattle.std.specs.List.{AllByRecursion}
use Rattle.sv_serve.specs.Giving.{kept_unserved, IsUnservedOf}
use Rattle.sv_serve.proofs.accepting.give_back_all.Given as goal

abbrev pub invariant-loop-service : goal.invariant-loop-service
invariant-loop-service g l =
    let rest = l.service-iterator.rest.items in
    let told = g.D.E.End.told in
    let faults = g.D.E.End.faults in
    record {
      given : g.D.Door.given l.door ++ kept_unserved told faults rest ≡ g.D.Door.given l.initial.door ++ kept_unserved told faults l.fn.services.items;
      own : AllByRecursion (IsUnservedOf told (g.D.Door.made l.initial.door)) rest;
      enough : length rest ≤ g.D.Door.owed l.door;
      owed : g.D.Door.owed l.initial.door + length rest ≡ g.D.Door.owed l.door + length l.fn.services.items;
      made : g.D.Door.made l.door ≡ g.D.Door.made l.initial.door;
      faults : g.D.Door.faults l.door ≡ g.D.Door.faults l.initial.door;
    }
