-- Runs over any server end.
use Rattle.law_schedule.specs.Serving.{run_served}
use Rattle.law_schedule.proofs.SoundLaws.{run-sound}
use Rattle.law_schedule.proofs.DoneRecords.{served-done, served-ended, served-scripts, scripts-whole}
use Rattle.law_schedule.proofs.DoneSound.{stay-sound}
use Rattle.law_schedule.proofs.done.served_runs_end.Goals as goal

pub returns-clause-done : goal.returns-clause-done
returns-clause-done c = λ server scenario keeps taken good. served-done server scenario good taken (stay-sound server keeps scenario good)

pub returns-clause-ended : goal.returns-clause-ended
returns-clause-ended c = λ server scenario keeps taken good. served-ended server scenario good taken (stay-sound server keeps scenario good)

pub returns-clause-scripts : goal.returns-clause-scripts
returns-clause-scripts c = λ server scenario keeps taken good.
    scripts-whole c.steps_are_done_in_order.ensures.whole server scenario good (run_served server scenario) (run-sound server keeps scenario good)
    (served-scripts server scenario good taken (stay-sound server keeps scenario good))
