-- What a client keeps that has its trace.
use Rattle.std.specs.Prelude.{◌≡◌, ◌≤◌, reverse}
use Rattle.sv_world.specs.Limits.{most_sessions}
use Rattle.sv_client.specs.declared.client.Client.TheInside.{Inside}
use Rattle.sv_client.specs.Traces.{joins, makes}
use Rattle.sv_client.specs.Proper.{IsGoodIdentity, most_made}

-- The events that were written down are all that the client did, and they are no more than a trace may have.
pub record IsRecorded (c : Inside) : Type 0 where
  pub identity : IsGoodIdentity c.lean.who
  pub events : reverse c.events.items ≡ c.lean.events
  pub few_sessions : joins c.lean.events ≤ most_sessions
  pub few_made : makes c.lean.events ≤ most_made
