-- The cuts so far and those that are left make all.
use Rattle.std.proofs.Common.{◌≡◌, ◌+◌, ◌≤◌, drop}
use Rattle.sv_scenario.specs.Sessions.{cuts_in}
use Rattle.sv_scenario.proofs.sessions.cuts_in.Given as goal

abbrev pub invariant-loop-step : goal.invariant-loop-step
invariant-loop-step l = record {
  count : l.count + cuts_in (drop l.step-index l.steps) ≡ cuts_in l.steps;
  few : l.count ≤ l.step-index;
}
