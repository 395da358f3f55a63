-- Turns keep scheduled runs sound.
use Rattle.law_schedule.proofs.SoundPlain.{opening-plain, turns-plain, rounds-plain, run-plain}
use Rattle.law_schedule.proofs.sound.turns_keep_runs_sound.Goals as goal

pub returns-clause-opening : goal.returns-clause-opening
returns-clause-opening c = opening-plain

pub returns-clause-turns : goal.returns-clause-turns
returns-clause-turns c = λ scenario run turn good known sound. turns-plain scenario good run turn known sound

pub returns-clause-rounds : goal.returns-clause-rounds
returns-clause-rounds c = λ scenario run good sound. rounds-plain scenario good run sound

pub returns-clause-run : goal.returns-clause-run
returns-clause-run c = run-plain
