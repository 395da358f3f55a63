-- The sessions so far are few, and with those that are left they make all.
use Rattle.std.proofs.Common.{◌≡◌, ◌+◌, ◌≤◌, drop}
use Rattle.sv_scenario.specs.Sessions.{sessions_in}
use Rattle.sv_scenario.proofs.sessions.has_few_sessions.Given as goal

abbrev pub invariant-loop-plan : goal.invariant-loop-plan
invariant-loop-plan l = record {
  count : l.count + sessions_in (drop l.plan-index l.plans) ≡ sessions_in l.plans;
  few : l.count ≤ 64;
}
