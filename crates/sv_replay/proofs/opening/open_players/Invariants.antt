-- The clients so far, and the plans that are left, make the players of all.
use Rattle.std.proofs.Common.{◌≡◌, ◌+◌, ◌++◌, map, drop}
use Rattle.std.specs.List.{AllByRecursion}
use Rattle.sv_scenario.specs.Sessions.{sessions_in, session_count}
use Rattle.law_schedule.specs.Players.{players_from}
use Rattle.sv_replay.specs.Machine.{player_of, AreFlags}
use Rattle.sv_replay.proofs.opening.open_players.Given as goal

abbrev pub invariant-loop-plan : goal.invariant-loop-plan
invariant-loop-plan l = record {
  opened : map player_of l.players.items ++ players_from l.scenario.world.shape l.number l.first (drop l.plan-index l.scenario.clients) ≡ players_from l.scenario.world.shape 0 0 l.scenario.clients;
  flags : AllByRecursion AreFlags l.players.items;
  number : l.number ≡ l.plan-index;
  first : l.first + sessions_in (drop l.plan-index l.scenario.clients) ≡ session_count l.scenario;
}
