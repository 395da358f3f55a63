-- The clients so far are the first.
use Rattle.std.proofs.Common.{◌≡◌, ◌++◌, List, drop}
use Rattle.sv_threads.specs.declared.opening.Entrant.{Entrant}
use Rattle.sv_threads.specs.Opening.{EachEntrant}
use Rattle.sv_threads.proofs.opening.RunShared.make_entrants.Given as goal

abbrev pub invariant-loop-plan : goal.invariant-loop-plan
invariant-loop-plan g l =
    let plans = l.self.scenario.now.clients in
    record {
      entrants : (more : List (Entrant g.row.E.Denot)) → EachEntrant l.self.scenario.now.world.shape l.number (drop l.plan-index plans) more → EachEntrant l.self.scenario.now.world.shape 0 plans (l.entrants.items ++ more);
      number : l.number ≡ l.plan-index;
    }
