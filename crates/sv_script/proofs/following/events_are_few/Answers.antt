-- What is proved by hand of `events_are_few`.
use Rattle.sv_script.proofs.Counts.{events-few, events-of_traces_few}
use Rattle.sv_script.proofs.following.events_are_few.Goals as goal

pub returns-clause-events : goal.returns-clause-events
returns-clause-events c = events-few

pub returns-clause-traces : goal.returns-clause-traces
returns-clause-traces c = events-of_traces_few
