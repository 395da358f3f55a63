-- The loop invariant of `take_clients`.
use Rattle.std.proofs.Common.{◌≡◌, ◌+◌, ◌++◌, take, drop, reverse}
use Rattle.std.specs.List.{flat_map}
use Rattle.sv_scenario.specs.Sessions.{sessions_in, session_count}
use Rattle.sv_report.specs.Report.{trace_text}
use Rattle.sv_check.specs.Serving.{entries_of}
use Rattle.sv_check.specs.Parts.{AreFirstTraces}
use Rattle.sv_check.proofs.clients.take_clients.Given as goal

abbrev pub invariant-loop-plan : goal.invariant-loop-plan
invariant-loop-plan l = record {
  traces : AreFirstTraces l.scenario.world.shape (reverse (entries_of l.served)) (take l.plan-index l.scenario.clients) l.traces;
  text : l.text ≡ flat_map (trace_text (entries_of l.served)) l.traces ++ l.rest;
  number : l.number ≡ l.plan-index;
  start : l.first ≡ sessions_in (take l.plan-index l.scenario.clients);
  left : l.first + sessions_in (drop l.plan-index l.scenario.clients) ≡ session_count l.scenario;
}
