-- The sessions whose connections were accepted so far.
use Rattle.std.proofs.Common.{◌≡◌, ℕ, ◌+◌, ◌≤◌, length, false}
use Rattle.std.specs.Vec.{vec_capacity}
use Rattle.law_system.specs.Places.{EachPlace}
use Rattle.sv_threads.specs.Given.{keeper_after, setting, IsService}
use Rattle.sv_serve.proofs.accepting.ServeShared.accept_all.Given as goal

abbrev pub invariant-loop : goal.invariant-loop
invariant-loop g l =
    let run = setting l.self.lock.now l.self.scenario.now (g.D.Door.made l.initial.door) (g.D.Door.sure l.initial.door l.self.port) false in
    record {
      keeper : l.keeper ≡ keeper_after l.counter l.self.lock.now l.self.scenario.now;
      count : length l.services.items ≡ l.counter;
      room : l.count ≤ vec_capacity l.services;
      services : EachPlace (IsService g.D.E.End.told g.D.E.End.faults g.D.E.End.calm run) l.services.items;
      made : g.D.Door.made l.door ≡ g.D.Door.made l.initial.door + l.counter;
      owed : g.D.Door.owed l.door ≡ g.D.Door.owed l.initial.door + l.counter;
      given : g.D.Door.given l.door ≡ g.D.Door.given l.initial.door;
      faults : g.D.Door.faults l.door ≡ g.D.Door.faults l.initial.door;
      sure : (p : ℕ) → g.D.Door.sure l.initial.door p → g.D.Door.sure l.door p;
    }
