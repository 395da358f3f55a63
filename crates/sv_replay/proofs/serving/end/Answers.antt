-- A session has its End but once.
use Rattle.sv_replay.proofs.serving.end.Goals as goal

pub step-requires-clause-first : goal.step-requires-clause-first
step-requires-clause-first g c = λ _. c.requires.running
