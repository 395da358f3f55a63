-- What the threads of a run leave.
use Rattle.std.specs.Prelude.{◌≡◌, ◌≢◌, ℕ, suc, ◌+◌, ◌<◌, ◌≤◌, Bool, true, false, List, [], ◌∷◌, ◌++◌, map, length, reverse, IsSome, vec_len}
use Rattle.std.specs.List.{AllByRecursion, flat_map, list_any}
use Rattle.std.specs.Vec.{vec_capacity}
use mathlib.Core.List.{IsPrefix}
use Rattle.sv_world.specs.Limits.{most_sessions}
use Rattle.sv_link.specs.Ends.{Told, new_end}
use Rattle.sv_link.specs.Nets.{Transcript, transcript_of, BothArrived, counted}
use Rattle.sv_link.specs.declared.side.Side.TheVariants.{Server, Client}
use Rattle.sv_journal.specs.declared.entry.Entry.{Entry}
use Rattle.sv_journal.specs.Answer.{Legal}
use Rattle.sv_lock.specs.Histories.{AreJust, AreBelow}
use Rattle.sv_lock.specs.Passes.{LockView, session_number}
use Rattle.sv_client.specs.declared.trace.Trace.{Trace}
use Rattle.sv_client.specs.Seen.{new_client}
use Rattle.sv_scenario.specs.declared.scenario.Plan.{Plan}
use Rattle.sv_scenario.specs.Sessions.{sessions_of_plan}
use Rattle.sv_session.specs.Serving.{SessionPass, Served, SessionCause}
use Rattle.sv_session.specs.declared.outcome.SessionOut.{SessionOut}
use Rattle.sv_session.specs.declared.outcome.SessionOut.TheVariants as session_outs
use Rattle.sv_player.specs.Stops.{is_cut}
use Rattle.sv_player.specs.Played.{IsTraceOf, HasFollowed, AreDone, IsCause, lines_told}
use Rattle.sv_player.specs.declared.outcome.PlayerOut.{PlayerOut}
use Rattle.sv_player.specs.declared.outcome.PlayerCause.{PlayerCause}
use Rattle.sv_player.specs.declared.outcome.PlayerCause.TheVariants as causes
use Rattle.law_traffic.specs.Sessions.{Over}
use Rattle.sv_threads.specs.declared.tasks.Serviced.{Serviced}
use Rattle.sv_threads.specs.declared.tasks.TaskOut.{TaskOut}
use Rattle.sv_threads.specs.declared.tasks.TaskOut.TheVariants as outs
use Rattle.sv_threads.specs.declared.gathering.ClientEnd.{ClientEnd}
use Rattle.sv_threads.specs.declared.gathering.RunRemains.{RunRemains}
use Rattle.law_system.specs.Places.{EachPlace}
use Rattle.sv_threads.specs.Tasks.{serviced_of, played_of}
use Rattle.sv_threads.specs.Given.{Setting, IsEndOf, pass_of}

-- the session's loop had no memory
abbrev pub is_memory : SessionOut → Bool
is_memory session_outs.Memory = true
is_memory _ = false

-- the player had no memory
abbrev pub is_unplayed : PlayerCause → Bool
is_unplayed causes.Memory = true
is_unplayed _ = false

-- the task had no memory
abbrev pub is_lacking : {E : Type 0} → TaskOut E → Bool
is_lacking (outs.Served y) = is_memory y.out
is_lacking (outs.Played y) = is_unplayed y.cause

-- the number of a session, and its entries
abbrev pub own_of : {E : Type 0} → Serviced E → ℕ × List Entry
own_of y = (session_number y.pass, y.pass.mine)

-- the clients' ends of a trace's sessions from s on
abbrev pub ends_from : {E : Type 0} → Trace → ℕ → List E → List (ClientEnd E)
ends_from trace s [] = []
ends_from trace s (end ∷ ends) = record { end = end; cut = is_cut (reverse trace.events) s } ∷ ends_from trace (suc s) ends

abbrev pub ends_of : {E : Type 0} → PlayerOut E → List (ClientEnd E)
ends_of y = ends_from y.trace y.trace.first y.ends.items

-- there is room for so many servers' ends, clients' ends, and clients more
pub record RemainsHaveRoom {E : Type 0} (servers ends clients : ℕ) (left : RunRemains E) : Type 0 where
  pub servers_fit : vec_len left.servers + servers ≤ vec_capacity left.servers
  pub ends_fit : vec_len left.clients + ends ≤ vec_capacity left.clients
  pub traces_fit : vec_len left.traces + clients ≤ vec_capacity left.traces
  pub lines_fit : vec_len left.lines + clients ≤ vec_capacity left.lines

-- the client's sessions have numbers that there may be
abbrev pub HasFewSessions : {E : Type 0} → PlayerOut E → Type 0
HasFewSessions y = y.trace.first + length y.ends.items ≤ most_sessions

-- what tasks left, in order; it is noted just where one of them had no memory
pub record Gathered {E : Type 0} (os : List (TaskOut E)) (left : RunRemains E) : Type 0 where
  pub servers : left.servers.items ≡ map (λ (y : Serviced E). y.end) (serviced_of os)
  pub clients : left.clients.items ≡ flat_map ends_of (played_of os)
  pub traces : left.traces.items ≡ map (λ (y : PlayerOut E). y.trace) (played_of os)
  pub lines : left.lines.items ≡ map (λ (y : PlayerOut E). y.lines) (played_of os)
  pub lacked : left.lacked ≡ list_any is_lacking os

-- the pass was made by a split of this lock
pub record IsOfLock {E : Type 0} (lock : LockView) (y : Serviced E) : Type 0 where
  pub own : y.pass.lock ≡ lock.id
  pub session : IsSome y.pass.session

-- what a keeper knows that took a pass in
pub record KeeperKnows (keeper : SessionPass) : Type 0 where
  pub just : AreJust (λ (e : Entry). e.session) keeper.seen keeper.ended
  pub below : AreBelow (λ (e : Entry). e.session) keeper.made keeper.seen
  pub legal : Legal keeper.base (reverse keeper.seen)

-- the keeper took in the passes of these sessions, in order
pub record JoinedPasses {E : Type 0} (ys : List (Serviced E)) (old new : SessionPass) : Type 0 where
  pub lock : new.lock ≡ old.lock
  pub session : new.session ≡ old.session
  pub base : new.base ≡ old.base
  pub made : new.made ≡ old.made
  pub ended : new.ended ≡ old.ended ++ map own_of ys
  pub seen : AllByRecursion (λ (y : Serviced E). IsPrefix y.pass.seen new.seen) ys
  pub knows : 0 < length ys → KeeperKnows new

module _ {E : Type 0} (told : E → Told) (faults : E → ℕ) where
  -- a session that is over
  abbrev pub over_of : Serviced E → ClientEnd E → Over
  over_of y z = record { server = told y.end; server_faults = faults y.end; client = told z.end; client_faults = faults z.end; out = y.out }

  abbrev pub overs_of : List (Serviced E) → List (ClientEnd E) → List Over
  overs_of [] zs = []
  overs_of (y ∷ ys) [] = []
  overs_of (y ∷ ys) (z ∷ zs) = over_of y z ∷ overs_of ys zs

  -- the transcripts of pairs, in order
  abbrev pub transcripts_of : List E → List (ClientEnd E) → List Transcript
  transcripts_of [] zs = []
  transcripts_of (server ∷ servers) [] = []
  transcripts_of (server ∷ servers) (z ∷ zs) =
      transcript_of (told server) (faults server) (told z.end) (faults z.end) ∷ transcripts_of servers zs

  -- the two ends of a pair agree
  pub record EndsAgree (server : E) (z : ClientEnd E) : Type 0 where
    pub arrived : BothArrived (told server) (told z.end)
    pub faultless : counted z.cut (faults server) (faults z.end) ≡ 0

module _ {E : Type 0} (told : E → Told) (faults : E → ℕ) (calm : E → Type 0) (run : Setting) where
  -- session s was served
  pub record IsServiced (s : ℕ) (y : Serviced E) : Type 0 where
    pub served : Served (new_end (run.pairs + s) Server) (pass_of s run.lock run.scenario) y.out (told y.end) y.pass
    pub cause : SessionCause 0 (faults y.end) y.out
    pub calm_is : run.calm → calm y.end

  -- the client of number k played, from session s on
  pub record HasPlayed (k s : ℕ) (plan : Plan) (y : PlayerOut E) : Type 0 where
    pub before : List E
    pub count : length before ≡ sessions_of_plan plan
    pub new : EachPlace (λ j end. IsEndOf told faults calm run Client (s + j) end) before
    pub trace : IsTraceOf (new_client (record { 0 = k }) run.scenario.world.shape plan.interest) s y.trace
    pub follows : HasFollowed run.scenario.world.shape plan.steps y.trace y.cause
    pub ends : AreDone told faults calm y.trace y.cause s before y.ends.items
    pub last : s + sessions_of_plan plan ≤ most_sessions
    pub lines : y.cause ≢ causes.Memory → y.lines.items ≡ lines_told run.watched y.trace
    pub cause : IsCause told faults calm run.scenario.world.shape y.trace s before y.ends.items y.cause
