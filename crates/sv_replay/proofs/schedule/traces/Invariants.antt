-- The traces so far are those of the first players.
use Rattle.std.proofs.Common.{◌≡◌, map}
use Rattle.law_schedule.specs.Players.{trace_of_player}
use Rattle.sv_replay.specs.Machine.{player_of}
use Rattle.sv_replay.proofs.schedule.traces.Given as goal

abbrev pub invariant-loop-player : goal.invariant-loop-player
invariant-loop-player l = l.traces ≡ map trace_of_player (map player_of l.yielded)
