-- The counts of faults, by whether the text was written.
use Rattle.sv_ending.proofs.Counts.{wrote, broke}
use Rattle.sv_join.proofs.top.decide.Goals as goal

pub returns-in-Ok-clause-raises : goal.returns-in-Ok-clause-raises
returns-in-Ok-clause-raises g c = wrote _ _ _ _ _ _ _ _ c.if-write_all.ensures.cause (c.in-Ok.ensures.raises _)

pub returns-in-Ok-2-clause-raises : goal.returns-in-Ok-2-clause-raises
returns-in-Ok-2-clause-raises g c = (c.if-write_all.ensures.cause, broke _ _ _ _ _ _ _ _ (c.in-Ok.ensures.raises (g.K.Sink.faults c.args.out.now)))

pub returns-in-Err-clause-raises : goal.returns-in-Err-clause-raises
returns-in-Err-clause-raises g c = c.in-Err.ensures.raises _
