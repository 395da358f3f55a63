-- What one player does in a run over its session's connection, and what each session's connection holds.
-- A history is the list of a journal's entries with the latest first; events stand with the latest first too.
use Rattle.std.specs.Prelude.{◌≡◌, ◌⊎◌, ℕ, ◌+◌, ◌-◌, ◌<◌, ◌≤◌, Bool, true, false, ◌==◌, ◌||◌, List, [], ◌++◌, length, drop, Some, None, slice_get, if◌then◌else◌}
use Rattle.std.specs.List.{list_any, flat_map}
use Rattle.sv_wire.specs.declared.message.Reply.{Reply}
use Rattle.sv_wire.specs.declared.message.Request.{Request}
use Rattle.sv_journal.specs.History.{accepted}
use Rattle.sv_client.specs.declared.trace.Event.{Event}
use Rattle.sv_client.specs.declared.trace.Event.TheVariants as events
use Rattle.sv_client.specs.Traces.{joins, asked, got}
use Rattle.sv_client.specs.Taking.{Identity, first_fault_of_reply}
use Rattle.sv_client.specs.Proper.{AreProper}
use Rattle.sv_script.specs.Following.{must_join}
use Rattle.law_system.specs.Fits.{is_join_of, requests_in, replies_in}
use Rattle.law_schedule.specs.Players.{Player, asked_in_run, has_closed, takes}
use Rattle.law_schedule.specs.Serving.{Run, is_stopped}
use Rattle.sv_exchange.specs.View.{ExchangeView}

-- The session that a player is in, or joins next.
abbrev pub session_of : Player → ℕ
session_of p = if must_join p.events then p.first + joins p.events else (p.first + joins p.events) - 1

-- A player of one of so many sessions, as it stands in any sound run.
pub record IsFit (sessions : ℕ) (p : Player) : Type 0 where
  pub proper : AreProper p.who p.first p.events
  pub begun : must_join p.events ≡ false → 1 ≤ joins p.events
  pub known : session_of p < sessions

-- The first of the replies that wait is one that a client takes.
abbrev pub IsNextFine : Identity → List Event → List Reply → Type 0
IsNextFine who t replies = (reply : Reply) → slice_get replies 0 ≡ Some reply → first_fault_of_reply who t reply ≡ None

-- A player takes the first of the replies that wait in its session, if its link is open.
abbrev pub taken_from : List Reply → Player → Player
taken_from replies p = if p.closed || must_join p.events then p else takes p (session_of p) (slice_get replies 0)

abbrev pub asked_by_player : Player → ℕ → List Request
asked_by_player p s = asked p.who.client p.who.interest p.events s

-- What one player did over the connection of session n, which it began: it sent requests, took replies, and perhaps closed its end.
pub record Moves (n : ℕ) (p q : Player) (sent : List Request) (taken : List Reply) (closing : Bool) : Type 0 where
  pub asks : (s : ℕ) → asked_by_player q s ≡ asked_by_player p s ++ (if n == s then sent else [])
  pub gets : (s : ℕ) → got q.events s ≡ got p.events s ++ (if n == s then taken else [])
  pub closes : (s : ℕ) → has_closed s q ≡ (has_closed s p || (if n == s then closing else false))
  pub begun : (list_any (is_join_of n) q.events ≡ true) ⊎ ((sent ≡ []) × (taken ≡ []))

abbrev pub is_closing : Event → Bool
is_closing events.Cut = true
is_closing events.Quit = true
is_closing _ = false

-- ---- Connections

abbrev pub got_in_run : List Player → ℕ → List Reply
got_in_run players s = flat_map (λ (p : Player). got p.events s) players

-- The connection of a session holds what the players asked in it and the journal does not have yet, and what the journal answered and they
-- did not take yet.
pub record IsChannel (run : Run) (s : ℕ) (c : ExchangeView) : Type 0 where
  pub asked : length (requests_in run.history s) ≤ length (asked_in_run run.players s)
  pub requests : c.requests ≡ drop (length (requests_in run.history s)) (asked_in_run run.players s)
  pub got : length (got_in_run run.players s) ≤ length (replies_in (accepted run.history) run.history s)
  pub replies : c.replies ≡ drop (length (got_in_run run.players s)) (replies_in (accepted run.history) run.history s)
  pub closed : c.closed ≡ list_any (has_closed s) run.players
  pub stopped : c.stopped ≡ is_stopped run.history s
