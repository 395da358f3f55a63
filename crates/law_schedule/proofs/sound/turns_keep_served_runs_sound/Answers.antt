-- Turns keep runs over any server sound.
use Rattle.law_schedule.proofs.SoundLaws.{opening-sound, turns-sound, rounds-sound, run-sound}
use Rattle.law_schedule.proofs.SoundOwned.{session-owned}
use Rattle.law_schedule.proofs.sound.turns_keep_served_runs_sound.Goals as goal

pub returns-clause-opening : goal.returns-clause-opening
returns-clause-opening c = opening-sound

pub returns-clause-turns : goal.returns-clause-turns
returns-clause-turns c = λ server scenario run turn keeps good known sound. turns-sound server keeps scenario good run turn known sound

pub returns-clause-rounds : goal.returns-clause-rounds
returns-clause-rounds c = λ server scenario run keeps good sound. rounds-sound server keeps scenario good run sound

pub returns-clause-run : goal.returns-clause-run
returns-clause-run c = λ server scenario keeps good. run-sound server keeps scenario good

pub returns-clause-owned : goal.returns-clause-owned
returns-clause-owned c = λ server scenario run i p s hears good sound at client. session-owned server hears scenario run good sound i p at s client
