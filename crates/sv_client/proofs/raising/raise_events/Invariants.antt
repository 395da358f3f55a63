-- The loop invariant of `raise_events`.
use Rattle.std.proofs.Common.{◌≡◌, ◌++◌, map, take, drop}
use Rattle.sv_client.specs.Seen.{raised}
use Rattle.sv_client.proofs.raising.raise_events.Given as goal

abbrev pub invariant-loop-place : goal.invariant-loop-place
invariant-loop-place l = l.events ≡ map (raised l.first) (take l.place l.initial.events) ++ drop l.place l.initial.events
