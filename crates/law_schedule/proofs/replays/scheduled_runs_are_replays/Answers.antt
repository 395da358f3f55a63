-- The record of a scheduled run is full.
use Rattle.std.proofs.Common.{refl}
use Rattle.law_schedule.specs.Serving.{traces_of}
use Rattle.law_schedule.specs.Schedule.{scheduled_run}
use Rattle.law_schedule.proofs.replays.scheduled_runs_are_replays.Goals as goal

pub returns : goal.returns
returns c = λ scenario good. record {
  full = c.runs_leave_full_records.ensures scenario (scheduled_run scenario).history (traces_of (scheduled_run scenario)) good
      (c.scheduled_runs_end.ensures.traffic scenario good) (c.scheduled_runs_end.ensures.scripts scenario good);
  scheduled = record { journal = refl; traces = refl };
}
