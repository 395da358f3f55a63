-- The machine that plays a scenario, and the run that it stands for.
-- A history is the list of a journal's entries with the latest first; events stand with the latest first too.
use Rattle.std.specs.Prelude.{◌≡◌, ℕ, ◌<◌, Bool, true, false, ◌||◌, List, ◌∷◌, ◌++◌, map, length, slice_index_or, All}
use Rattle.sv_world.specs.Limits.{most_sessions}
use Rattle.sv_wire.specs.declared.message.Reply.{Reply}
use Rattle.sv_wire.specs.declared.message.Request.{Request}
use Rattle.sv_client.specs.declared.trace.Event.{Event}
use Rattle.sv_client.specs.Seen.{raised, newly_asked}
use Rattle.sv_scenario.specs.declared.scenario.Scenario.{Scenario}
use Rattle.sv_scenario.specs.declared.scenario.Step.{Step}
use Rattle.sv_scenario.specs.Limits.{IsGoodScenario}
use Rattle.sv_scenario.specs.Sessions.{session_count}
use Rattle.sv_script.specs.Following.{must_join, is_welcomed}
use Rattle.law_schedule.specs.Players.{Player, at_player, take_turns}
use Rattle.law_schedule.specs.Serving.{Run, Server, all_served}
use Rattle.law_schedule.specs.Schedule.{rules_of}
use Rattle.law_schedule.specs.Served.{IsSoundOver}
use Rattle.sv_replay.specs.declared.machine.Machine.{Machine}
use Rattle.sv_replay.specs.declared.playing.Playing.{Playing}
use Rattle.sv_exchange.specs.View.{ExchangeView, new_exchange}
use Rattle.sv_replay.specs.Players.{session_of, IsFit, Moves, is_closing, IsChannel}
use Rattle.sv_replay.specs.Serving.{ServerView}
use Rattle.sv_replay.specs.Playable.{IsPlayable}

-- ---- Players

-- The player that a client with its place in its script stands for. The client itself counts its sessions from 0.
abbrev pub player_of : Playing → Player
player_of p = record {
  who = p.client.who;
  first = p.first;
  events = map (raised p.first) p.client.events;
  left = p.left.now;
  closed = p.closed;
}

-- What is kept of a client's events says what they do.
pub record AreFlags (p : Playing) : Type 0 where
  pub between : p.between ≡ must_join p.client.events
  pub welcomed : p.welcomed ≡ is_welcomed p.client.events

-- A client in a session that has its Welcome, with an open link.
pub record IsInSession (p : Playing) : Type 0 where
  pub fit : IsFit most_sessions (player_of p)
  pub linked : p.closed ≡ false
  pub joined : must_join p.client.events ≡ false
  pub welcomed : is_welcomed p.client.events ≡ true

-- A client did an event, with these steps left: what it asks is sent, and its end is closed after a Cut or a Quit.
pub record Does (e : Event) (rest : List Step) (closed : Bool) (old new : Playing) (c d : ExchangeView) : Type 0 where
  pub who : new.client.who ≡ old.client.who
  pub events : new.client.events ≡ e ∷ old.client.events
  pub first : new.first ≡ old.first
  pub left : new.left.now ≡ rest
  pub closed_is : new.closed ≡ closed
  pub flags : AreFlags new
  pub channel : d ≡ record c { requests = c.requests ++ newly_asked old.client.who old.client.events e; closed = c.closed || is_closing e }

-- A turn made a client the next player, by what it did over its session's connection.
pub record MovedPlayer (next : Player) (old new : Playing) (c d : ExchangeView) : Type 0 where
  pub player : player_of new ≡ next
  pub flags : AreFlags new
  pub sent : List Request
  pub taken : List Reply
  pub closing : Bool
  pub moves : Moves (session_of (player_of old)) (player_of old) next sent taken closing
  pub requests : d.requests ≡ c.requests ++ sent
  pub replies : c.replies ≡ taken ++ d.replies
  pub closed : d.closed ≡ (c.closed || closing)
  pub stopped : d.stopped ≡ c.stopped

-- ---- The machine

-- A scenario's run so far: who serves it, the clients, and their connections.
pub record Stage : Type 0 where
  pub scenario : Scenario
  pub serves : ServerView
  pub players : List Playing
  pub channels : List ExchangeView

-- What a machine has of a run, where this is seen of its server.
abbrev pub stage_of : {S : Type 0} → (S → ServerView) → Machine S → Stage
stage_of view m = record { scenario = m.scenario.now; serves = view m.server; players = m.players.items; channels = m.channels.items }

abbrev pub run_of : Stage → Run
run_of m = record { history = m.serves.history; players = map player_of m.players }

-- The machine is in step with the run that it stands for, which is a sound one of its scenario over its server.
pub record IsMachine (m : Stage) : Type 0 where
  pub good : IsGoodScenario m.scenario
  pub playable : IsPlayable m.scenario m.serves.server
  pub rules : m.serves.rules ≡ rules_of m.scenario
  pub sound : IsSoundOver m.serves.server m.scenario (run_of m)
  pub flags : All AreFlags m.players
  pub count : length m.channels ≡ session_count m.scenario
  pub channels : (s : ℕ) → s < session_count m.scenario → IsChannel (run_of m) s (slice_index_or m.channels s new_exchange)

-- The machine went on to a run of the same scenario over the same server.
pub record Became (old new : Stage) (run : Run) : Type 0 where
  pub scenario : new.scenario ≡ old.scenario
  pub server : new.serves.server ≡ old.serves.server
  pub machine : IsMachine new
  pub run_is : run_of new ≡ run

-- It went on to what this makes of its run.
abbrev pub Went : (Server → Scenario → Run → Run) → Stage → Stage → Type 0
Went step old new = Became old new (step old.serves.server old.scenario (run_of old))

-- On the way from one machine to a run: what is left to do makes it of the run so far.
pub record Heads (start now : Stage) (left : Run → Run) (goal : Run) : Type 0 where
  pub scenario : now.scenario ≡ start.scenario
  pub server : now.serves.server ≡ start.serves.server
  pub machine : IsMachine now
  pub arrives : left (run_of now) ≡ goal

-- All that a session has to do was done.
abbrev pub after_session : Server → ℕ → Run → Run
after_session server s run = record run { history = all_served server run.players run.history s }

-- All replies that wait for a client were taken.
abbrev pub after_take : ℕ → Run → Run
after_take k run = record run { players = at_player run.players k (take_turns run.history) }
