-- The sessions that are still to be taken in.
use Rattle.std.proofs.Common.{◌≡◌, ◌+◌, ◌≤◌, ◌++◌, length}
use Rattle.std.specs.List.{AllByRecursion, list_any}
use Rattle.sv_threads.specs.RunRemains.{is_memory, IsOfLock, JoinedPasses}
use Rattle.sv_serve.specs.Giving.{kept_served, IsServedOf}
use Rattle.sv_serve.proofs.taking.take_in.Given as goal

abbrev pub invariant-loop-session : goal.invariant-loop-session
invariant-loop-session g l =
    let rest = l.session-iterator.rest.items in
    let told = g.D.E.End.told in
    let faults = g.D.E.End.faults in
    record {
      all : l.yielded ++ rest ≡ l.fn.served.items;
      joined : JoinedPasses l.yielded l.initial.keeper l.keeper;
      given : g.D.Door.given l.door ≡ g.D.Door.given l.initial.door ++ kept_served told faults l.yielded;
      passes : AllByRecursion (IsOfLock l.lock) rest;
      own : AllByRecursion (IsServedOf told (g.D.Door.made l.initial.door)) rest;
      enough : length rest ≤ g.D.Door.owed l.door;
      owed : g.D.Door.owed l.initial.door + length rest ≡ g.D.Door.owed l.door + length l.fn.served.items;
      made : g.D.Door.made l.door ≡ g.D.Door.made l.initial.door;
      faults : g.D.Door.faults l.door ≡ g.D.Door.faults l.initial.door;
      lacked : l.lacked ≡ list_any (λ y. is_memory y.out) l.yielded;
    }
