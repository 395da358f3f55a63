-- One session of a run, once it is over: what its loop and its player promise, and what settling its pair of ends showed.
-- A journal has its entries in order here, the earliest first.
use Rattle.std.specs.Prelude.{◌≡◌, ◌≢◌, ℕ, List, [], reverse, All}
use mathlib.Core.List.{IsPrefix}
use Rattle.sv_link.specs.Ends.{Told, new_end}
use Rattle.sv_link.specs.Nets.{Transcript, transcript_of, BothArrived, counted}
use Rattle.sv_link.specs.declared.side.Side.TheVariants.{Server}
use Rattle.sv_wire.specs.Laws.{IsRequest}
use Rattle.sv_journal.specs.declared.entry.Entry.{Entry}
use Rattle.sv_client.specs.declared.trace.Trace.{Trace}
use Rattle.sv_client.specs.Traces.{requests_of}
use Rattle.sv_lock.specs.Histories.{entries_of}
use Rattle.sv_lock.specs.Passes.{session_number}
use Rattle.sv_session.specs.Serving.{SessionPass, Served, SessionCause}
use Rattle.sv_session.specs.declared.outcome.SessionOut.{SessionOut}
use Rattle.sv_session.specs.declared.outcome.SessionOut.TheVariants as outs
use Rattle.sv_player.specs.Carried.{request_frames, BeginsWithReplies}
use Rattle.sv_player.specs.Stops.{is_cut}
use Rattle.sv_player.specs.Played.{replies_of}

-- A session that is over: its two ends with their counts of faults, and why its loop stopped.
pub record Over : Type 0 where
  pub server : Told
  pub server_faults : ℕ
  pub client : Told
  pub client_faults : ℕ
  pub out : SessionOut

-- what is kept of it once its pair is settled
abbrev pub transcript : Over → Transcript
transcript x = transcript_of x.server x.server_faults x.client x.client_faults

-- The loop of session s, which stopped for this cause, served a new end by a new pass: the end as it is now, with its count of faults. The
-- journal has all that the pass had seen and, of this session, the pass's own entries alone.
pub record IsSessionServed (journal : List Entry) (s : ℕ) (out : SessionOut) (end : Told) (faults : ℕ) : Type 0 where
  pub pair : ℕ
  pub before : SessionPass
  pub after : SessionPass
  pub new : before.mine ≡ []
  pub number : session_number before ≡ s
  pub served : Served (new_end pair Server) before out end after
  pub cause : SessionCause 0 faults out
  pub memory : out ≢ outs.Memory
  pub seen : IsPrefix after.seen journal
  pub just : entries_of (λ (e : Entry). e.session) s journal ≡ after.mine

-- The client sent all that it asked in session s, each request a message, and received the replies that it got, and this after them.
pub record IsCarried (L : Trace) (s : ℕ) (x : Over) : Type 0 where
  pub sent : x.client.sent ≡ request_frames (requests_of L s)
  pub messages : All IsRequest (requests_of L s)
  pub rest : List ℕ
  pub received : BeginsWithReplies x.client.received (replies_of L s) rest

-- The two ends matched: each received what the other sent, as far as it went, and no fault counts.
pub record EndsMatched (L : Trace) (s : ℕ) (x : Over) : Type 0 where
  pub arrived : BothArrived x.server x.client
  pub faultless : counted (is_cut (reverse L.events) s) x.server_faults x.client_faults ≡ 0

-- Session s of the trace is done.
pub record IsSessionDone (journal : List Entry) (L : Trace) (s : ℕ) (x : Over) : Type 0 where
  pub served : IsSessionServed journal s x.out x.server x.server_faults
  pub carried : IsCarried L s x
  pub settled : EndsMatched L s x
