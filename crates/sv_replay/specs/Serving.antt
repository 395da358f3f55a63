-- A server as a run sees it, and what a session's turn makes of it and of the session's connection.
-- A history is the list of a journal's entries with the latest first.
use Rattle.std.specs.Prelude.{◌≡◌, ℕ, ℤ, Bool, true, false, is_some, List, [], ◌∷◌, ◌++◌, if◌then◌else◌}
use Rattle.sv_wire.specs.declared.message.Reply.{Reply}
use Rattle.sv_wire.specs.declared.message.Request.{Request}
use Rattle.sv_wire.specs.declared.message.Request.TheVariants as requests
use Rattle.sv_wire.specs.Laws.{IsReply}
use Rattle.sv_journal.specs.declared.entry.Entry.{Entry}
use Rattle.sv_journal.specs.History.{accepted, full_reply, committed_of}
use Rattle.sv_journal.specs.Answer.{Rules}
use Rattle.sv_journal.specs.Sessions.{is_ended}
use Rattle.sv_sequencer.specs.Step.{SequencerView, history}
use Rattle.sv_session.specs.Requests.{stop_of}
use Rattle.law_schedule.specs.Serving.{Server, served, serves_next}
use Rattle.law_schedule.specs.Schedule.{plain_server}
use Rattle.sv_exchange.specs.View.{ExchangeView}

-- ---- Servers

-- What it was opened with, how it answers, and what it was asked so far.
pub record ServerView : Type 0 where
  pub rules : Rules
  pub server : Server
  pub history : List Entry

-- The reply to a request, as it is sent.
abbrev pub whole_reply : Server → List Entry → ℕ → Request → Reply
whole_reply server h s request = full_reply (accepted (served server h s request)) (server.answers h s request)

-- A step entered a request with its reply, and answered the reply in full.
pub record Answers (old new : ServerView) (s : ℕ) (request : Request) (reply : Reply) : Type 0 where
  pub rules : new.rules ≡ old.rules
  pub server : new.server ≡ old.server
  pub entries : new.history ≡ served old.server old.history s request
  pub whole : reply ≡ whole_reply old.server old.history s request

-- A sequencer answers by the table.
abbrev pub sequencer_view : SequencerView → ServerView
sequencer_view v = record { rules = v.rules; server = plain_server v.rules; history = history v }

-- The values of all objects at its commit.
abbrev pub sequencer_world : SequencerView → List (List ℤ)
sequencer_world v = committed_of v.rules.world.values (history v)

-- ---- A session's turn

-- The history after a session's turn, by what its connection holds.
abbrev pub next_history : Server → List Entry → ℕ → ExchangeView → List Entry
next_history server h s c = if is_ended h s then h
    else if c.stopped then served server h s requests.End
    else serves_next server h s c.closed c.requests

-- The connection after the next of these waiting requests was answered, or else the End.
abbrev pub answered : Server → List Entry → ℕ → ExchangeView → List Request → ExchangeView
answered server h s c [] = if c.closed then record c { stopped = true } else c
answered server h s c (request ∷ waiting) = record c {
  requests = waiting;
  replies = c.replies ++ whole_reply server h s request ∷ [];
  stopped = is_some (stop_of (server.answers h s request));
}

-- The connection after a session's turn.
abbrev pub next_channel : Server → List Entry → ℕ → ExchangeView → ExchangeView
next_channel server h s c = if is_ended h s then c
    else if c.stopped then record c { stopped = true }
    else answered server h s c c.requests

-- The connection after a request, which was taken from it, was answered.
abbrev pub with_answer : Server → List Entry → ℕ → Request → ExchangeView → ExchangeView
with_answer server h s request c = record c {
  replies = c.replies ++ whole_reply server h s request ∷ [];
  stopped = is_some (stop_of (server.answers h s request));
}

-- What the session's turn replies is a message.
abbrev pub AnswersMessage : Server → List Entry → ℕ → ExchangeView → Type 0
AnswersMessage server h s c = (request : Request) (waiting : List Request) → is_ended h s ≡ false → c.stopped ≡ false → c.requests ≡ request ∷ waiting →
    IsReply (whole_reply server h s request)

abbrev pub one_if : Bool → ℕ
one_if true = 1
one_if false = 0

-- A request of a session was entered with its reply, and left its connection like this.
pub record Entered (s : ℕ) (request : Request) (old new : ServerView) (c after : ExchangeView) : Type 0 where
  pub rules : new.rules ≡ old.rules
  pub server : new.server ≡ old.server
  pub entries : new.history ≡ served old.server old.history s request
  pub channel : c ≡ after

-- A session had its turn.
pub record HadTurn (s : ℕ) (old new : ServerView) (c d : ExchangeView) : Type 0 where
  pub rules : new.rules ≡ old.rules
  pub server : new.server ≡ old.server
  pub entries : new.history ≡ next_history old.server old.history s c
  pub channel : d ≡ next_channel old.server old.history s c
