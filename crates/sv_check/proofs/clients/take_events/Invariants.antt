-- The loop invariant of `take_events`.
use Rattle.sv_check.specs.Serving.{entries_of}
use Rattle.sv_check.proofs.Acted.{TookEvents}
use Rattle.sv_check.proofs.clients.take_events.Given as goal

abbrev pub invariant-loop : goal.invariant-loop
invariant-loop l = TookEvents (entries_of l.served) l.fn.actor l.actor l.text l.rest l.counter
