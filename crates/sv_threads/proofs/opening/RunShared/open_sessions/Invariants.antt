-- The sessions so far were opened, each with its pair and its pass.
use Rattle.std.proofs.Common.{◌≡◌, ◌+◌, length}
use Rattle.std.specs.Vec.{vec_capacity}
use Rattle.sv_link.specs.declared.side.Side.TheVariants.{Client}
use Rattle.law_system.specs.Places.{EachPlace}
use Rattle.sv_threads.specs.Given.{keeper_after, setting, IsEndOf, IsService}
use Rattle.sv_threads.proofs.opening.RunShared.open_sessions.Given as goal

abbrev pub invariant-loop : goal.invariant-loop
invariant-loop g l =
    let told = g.N.E.End.told in
    let faults = g.N.E.End.faults in
    let calm = g.N.E.End.calm in
    let run = setting l.self.lock.now l.self.scenario.now (g.N.Net.made l.initial.net) (g.N.Net.calm l.initial.net) (g.W.Teller.telling l.self.teller.now).watched in
    record {
      keeper : l.keeper ≡ keeper_after l.counter l.self.lock.now l.self.scenario.now;
      service_count : length l.services.items ≡ l.counter;
      end_count : length l.ends.items ≡ l.counter;
      services : EachPlace (IsService told faults calm run) l.services.items;
      ends : EachPlace (IsEndOf told faults calm run Client) l.ends.items;
      made : g.N.Net.made l.net ≡ g.N.Net.made l.initial.net + l.counter;
      owed : g.N.Net.owed l.net ≡ g.N.Net.owed l.initial.net + l.counter;
      settled : (g.N.Net.settled l.net ≡ g.N.Net.settled l.initial.net) × (g.N.Net.unmatched l.net ≡ g.N.Net.unmatched l.initial.net);
      service_room : vec_capacity l.services ≡ vec_capacity l.initial.services;
      end_room : vec_capacity l.ends ≡ vec_capacity l.initial.ends;
      faults : g.N.Net.faults l.net ≡ g.N.Net.faults l.initial.net;
      calm : g.N.Net.calm l.initial.net → g.N.Net.calm l.net;
    }
