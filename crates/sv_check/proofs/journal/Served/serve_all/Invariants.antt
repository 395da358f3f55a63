-- The loop invariant of `Served::serve_all`.
use Rattle.sv_check.proofs.JournalLines.{IsServing}
use Rattle.sv_check.proofs.journal.Served.serve_all.Given as goal

abbrev pub invariant-loop : goal.invariant-loop
invariant-loop l = IsServing l.scenario l.self l.text l.rest l.counter
