-- The clients so far have the first ends, and the others are left.
use Rattle.std.proofs.Common.{◌≡◌, ◌+◌, ◌≤◌, ◌++◌, List, length, drop, vec_len}
use Rattle.std.specs.Vec.{vec_capacity}
use Rattle.std.specs.List.{flat_map}
use Rattle.std.specs.Vec.Iter.{into_iter_items}
use Rattle.sv_scenario.specs.Sessions.{sessions_in, session_count}
use Rattle.sv_threads.specs.declared.tasks.Part.{Part}
use Rattle.sv_threads.specs.Places.{EachClient}
use Rattle.sv_threads.specs.Given.{ends_given, IsPartOf}
use Rattle.sv_threads.specs.Opening.{EachEntrant}
use Rattle.sv_threads.proofs.opening.RunShared.open_parts.Given as goal

abbrev pub invariant-loop-plan : goal.invariant-loop-plan
invariant-loop-plan g l =
    let plans = l.self.scenario.now.clients in
    record {
      parts : (more : List (Part g.row.E.Denot g.row.W.Denot)) → EachClient (IsPartOf g.W.Teller.telling l.self.scenario.now.world.shape (g.W.Teller.telling l.self.teller.now).watched) l.plan-index l.first (drop l.plan-index plans) more → EachClient (IsPartOf g.W.Teller.telling l.self.scenario.now.world.shape (g.W.Teller.telling l.self.teller.now).watched) 0 0 plans (l.parts.items ++ more);
      ends : flat_map ends_given l.parts.items ++ into_iter_items l.left ≡ l.fn.ends.items;
      waiting : EachEntrant l.self.scenario.now.world.shape l.plan-index (drop l.plan-index plans) (into_iter_items l.waiting);
      many : length (into_iter_items l.waiting) + l.plan-index ≡ length plans;
      room : vec_len l.parts + length (into_iter_items l.waiting) ≤ vec_capacity l.parts;
      first : l.first + sessions_in (drop l.plan-index plans) ≡ session_count l.self.scenario.now;
      left : length (into_iter_items l.left) ≡ sessions_in (drop l.plan-index plans);
    }
