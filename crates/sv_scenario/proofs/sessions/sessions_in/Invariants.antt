-- The sessions so far and those that are left make all.
use Rattle.std.proofs.Common.{◌≡◌, ◌+◌, drop}
use Rattle.sv_scenario.specs.Sessions.{sessions_in}
use Rattle.sv_scenario.proofs.sessions.sessions_in.Given as goal

abbrev pub invariant-loop-plan : goal.invariant-loop-plan
invariant-loop-plan l = l.count + sessions_in (drop l.plan-index l.plans) ≡ sessions_in l.plans
