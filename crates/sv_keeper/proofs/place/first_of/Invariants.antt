-- What is left may begin later than the greatest one so far.
use Rattle.sv_keeper.proofs.Placed.{Goes}
use Rattle.sv_keeper.proofs.place.first_of.Given as goal

abbrev pub invariant-loop-start : goal.invariant-loop-start
invariant-loop-start l = Goes l.fn.closed l.fn.last l.fn.number l.start-index l.first
