-- Replicas equal serial execution.
use Rattle.law_system.proofs.Trusted.{values-serial, relays-sufficient, seen-cuts}
use Rattle.law_system.proofs.truth.replicas_equal_serial_execution.Goals as goal

pub returns-clause-values : goal.returns-clause-values
returns-clause-values c = values-serial

pub returns-clause-relays : goal.returns-clause-relays
returns-clause-relays c = relays-sufficient

pub returns-clause-seen : goal.returns-clause-seen
returns-clause-seen c = seen-cuts
