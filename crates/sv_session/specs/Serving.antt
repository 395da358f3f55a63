-- What a session's loop does: what it takes from its end, what it answers, and why it stops.
use Rattle.std.specs.Prelude.{◌≡◌, ◌≢◌, ℕ, ◌<◌, ◌≤◌, Bool, true, false, List, [], ◌∷◌, ◌++◌, length, reverse, All, Some, None, IsSome}
use mathlib.Core.List.{IsPrefix}
use Rattle.sv_bytes.specs.Faults.{Rose}
use Rattle.sv_frame.specs.Frames.{too_long}
use Rattle.sv_frame.specs.Streams.{split_frames}
use Rattle.sv_wire.specs.declared.message.Request.TheVariants as requests
use Rattle.sv_journal.specs.declared.entry.Entry.{Entry}
use Rattle.sv_journal.specs.declared.entry.Logged.TheVariants as logged
use Rattle.sv_journal.specs.Sessions.{is_end}
use Rattle.sv_journal.specs.Answer.{Rules, MayBeSession, Legal}
use Rattle.sv_journal.specs.Laws.{AreWithinLimits}
use Rattle.sv_journal.specs.History.{entry_of}
use Rattle.sv_lock.specs.Histories.{entries_of}
use Rattle.sv_lock.specs.Passes.{LockView, PassView, session_number}
use Rattle.sv_link.specs.Ends.{Told}
use Rattle.sv_session.specs.Requests.{requests_read, entry_requests, due_frames, stop_after, StopsFor}
use Rattle.sv_session.specs.declared.outcome.SessionOut.{SessionOut}
use Rattle.sv_session.specs.declared.outcome.SessionOut.TheVariants as outs

abbrev pub SessionPass : Type 0
SessionPass = PassView Rules Entry

-- A session may be served by this pass: a split of this lock made it, for one of the sessions of a sequencer within the limits, and the
-- session had no End.
pub record MayServe (lock : LockView) (pass : SessionPass) : Type 0 where
  pub own : pass.lock ≡ lock.id
  pub session : IsSome pass.session
  pub number : MayBeSession pass.base.sessions (session_number pass)
  pub limits : AreWithinLimits pass.base
  pub unended : All (λ (e : Entry). is_end e.request ≡ false) pass.mine

-- What no call of the lock changes of a pass.
pub record IsSamePass (before after : SessionPass) : Type 0 where
  pub lock : after.lock ≡ before.lock
  pub session : after.session ≡ before.session
  pub base : after.base ≡ before.base
  pub made : after.made ≡ before.made
  pub ended : after.ended ≡ before.ended

-- The loop went on after each of these entries, but maybe for the last.
pub record LoopBreaksOff (entries : List Entry) : Type 0 where
  pub before : List Entry
  pub last : List Entry
  pub are : entries ≡ before ++ last
  pub few : length last ≤ 1
  pub on : stop_after before ≡ None

-- The loop went on after each reply, every request that came was answered, and what is left is less than a frame.
pub record TookAll (stream : List ℕ) (answered : List Entry) : Type 0 where
  pub on : stop_after answered ≡ None
  pub all : entry_requests answered ≡ requests_read stream
  pub rest : too_long (split_frames stream).1 ≡ None

-- What an outcome says of the bytes that came, the requests that were answered, what was sent, and what was due.
abbrev pub ExplainsOut : SessionOut → List ℕ → List Entry → List ℕ → List ℕ → Type 0
ExplainsOut outs.Closed stream answered sent due = TookAll stream answered × (sent ≡ due)
ExplainsOut outs.LinkFault stream answered sent due = LoopBreaksOff answered
ExplainsOut outs.Memory stream answered sent due = LoopBreaksOff answered
ExplainsOut reason stream answered sent due = StopsFor reason answered × (sent ≡ due)

-- The end's answer Ended is the last that is read.
abbrev pub ended_by : SessionOut → Bool → Bool
ended_by outs.Closed before = true
ended_by _ before = before

-- The end's count of faults rises just where the link failed.
abbrev pub SessionCause : ℕ → ℕ → SessionOut → Type 0
SessionCause before now out = (out ≡ outs.LinkFault → Rose before now) × (out ≢ outs.LinkFault → now ≡ before)

-- What the loop did, from its first read to its End.
pub record Served (old : Told) (before : SessionPass) (out : SessionOut) (new : Told) (after : SessionPass) : Type 0 where
  -- the bytes that came, the bytes that were sent, and the entries of the requests, End left out
  pub received : List ℕ
  pub sent : List ℕ
  pub answered : List Entry
  pub told : new ≡ record old { sent = old.sent ++ sent; received = old.received ++ received; ended = ended_by out old.ended; closed = true }
  pub same : IsSamePass before after
  pub goes_on : IsPrefix before.seen after.seen
  pub lawful : Legal after.base (reverse after.seen)
  pub just : entries_of (λ (e : Entry). e.session) (session_number after) after.seen ≡ after.mine
  pub mine : after.mine ≡ (before.mine ++ answered) ++ entry_of (session_number before) requests.End logged.Bye ∷ []
  pub no_other : All (λ (e : Entry). is_end e.request ≡ false) answered
  pub requests : IsPrefix (entry_requests answered) (requests_read received)
  pub replies : IsPrefix sent (due_frames after.seen answered)
  pub cause : ExplainsOut out received answered sent (due_frames after.seen answered)
  pub exactly : (reason : SessionOut) → stop_after answered ≡ Some reason → sent ≡ due_frames after.seen answered → out ≡ reason
