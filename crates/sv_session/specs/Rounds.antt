-- Where a session's loop stands, and what one round makes of it: a request is answered, or the end is read.
use Rattle.std.specs.Prelude.{◌≡◌, ◌≢◌, ◌⊎◌, ℕ, false, List, [], ◌∷◌, ◌++◌, length, reverse, All, Option, Some, None, IsSome}
use mathlib.Core.List.{IsPrefix}
use Rattle.sv_frame.specs.Streams.{split_frames}
use Rattle.sv_wire.specs.declared.message.Reply.{Reply}
use Rattle.sv_wire.specs.declared.message.Request.{Request}
use Rattle.sv_wire.specs.declared.message.Request.TheVariants as requests
use Rattle.sv_wire.specs.Grammar.{IsWireReply}
use Rattle.sv_wire.specs.Spelling.{reply_bytes}
use Rattle.sv_journal.specs.declared.entry.Entry.{Entry}
use Rattle.sv_journal.specs.History.{accepted, logged_of}
use Rattle.sv_journal.specs.Sessions.{is_end}
use Rattle.sv_journal.specs.Text.{NamesAccepted}
use Rattle.sv_link.specs.Ends.{Told, sending, receiving}
use Rattle.sv_session.specs.Requests.{requests_read, entry_requests, reply_payload, due_frames, stop_of, stop_after}
use Rattle.sv_session.specs.Serving.{SessionPass, IsSamePass, ExplainsOut, ended_by}
use Rattle.sv_session.specs.declared.outcome.SessionOut.{SessionOut}
use Rattle.sv_session.specs.declared.outcome.SessionOut.TheVariants as outs

-- what the end tells, what the pass knows, the bytes that came and were not taken, and the bytes of replies that were not written
pub record Stand : Type 0 where
  pub told : Told
  pub pass : SessionPass
  pub inbox : List ℕ
  pub outbox : List ℕ

abbrev pub stand : Told → SessionPass → List ℕ → List ℕ → Stand
stand told pass inbox outbox = record { told = told; pass = pass; inbox = inbox; outbox = outbox }

-- ---- Requests that are taken

-- a stream begins with these requests, however it goes on; and this is what it goes on from
pub record BeginsWithRequests (stream : List ℕ) (taken : List Request) (rest : List ℕ) : Type 0 where
  pub asked : (more : List ℕ) → requests_read (stream ++ more) ≡ taken ++ requests_read (rest ++ more)
  pub left : (more : List ℕ) → (split_frames (stream ++ more)).1 ≡ (split_frames (rest ++ more)).1

-- a request was taken off. Where it is Bad nothing more is said of what is left
pub record TakesOffRequest (old : List ℕ) (request : Request) (new : List ℕ) : Type 0 where
  pub first : (after : List Request) × (requests_read old ≡ request ∷ after)
  pub next : request ≢ requests.Bad → BeginsWithRequests old (request ∷ []) new
  pub asked : is_end request ≡ false

-- ---- Requests that are stepped

-- the replies of these entries name positions that were accepted
abbrev pub AllNameAccepted : List Entry → List Entry → Type 0
AllNameAccepted seen entries = All (λ (e : Entry). NamesAccepted (length (accepted (reverse seen))) e.reply) entries

-- a pass went on, and has these entries more of its own
pub record StepsOn (before : SessionPass) (entries : List Entry) (after : SessionPass) : Type 0 where
  pub same : IsSamePass before after
  pub goes_on : IsPrefix before.seen after.seen
  pub mine : after.mine ≡ before.mine ++ entries
  pub named : AllNameAccepted after.seen entries

-- a request was stepped, and this is its reply in full
pub record Steps (before : SessionPass) (request : Request) (reply : Reply) (after : SessionPass) : Type 0 where
  pub entry : Entry
  pub on : StepsOn before (entry ∷ []) after
  pub asks : entry.request ≡ request
  pub told : entry.reply ≡ logged_of reply
  pub whole : reply_bytes reply ≡ reply_payload after.seen entry
  pub message : IsWireReply reply
  pub leave : stop_of entry.reply ≡ Some outs.Left → request ≡ requests.Leave
  pub bad : request ≡ requests.Bad → IsSome (stop_of entry.reply)

-- ---- Replies that are posted

-- the link failed, or there was no memory
abbrev pub IsBroken : SessionOut → Type 0
IsBroken out = (out ≡ outs.LinkFault) ⊎ (out ≡ outs.Memory)

-- bytes were sent, and what is left to send waits
pub record PostsOn (old : Told) (due : List ℕ) (new : Told) (left : List ℕ) : Type 0 where
  pub sent : List ℕ
  pub told : new ≡ sending old sent
  pub all : sent ++ left ≡ due

-- The front of what was due was sent: all of it, and there was this reason to stop; or not all, and the link failed or there was no memory.
pub record PostsLast (old : Told) (due : List ℕ) (stop : Option SessionOut) (out : SessionOut) (new : Told) : Type 0 where
  pub sent : List ℕ
  pub told : new ≡ sending old sent
  pub part : IsPrefix sent due
  pub why : ((stop ≡ Some out) × (sent ≡ due)) ⊎ (IsBroken out × (sent ≢ due))

-- ---- Reading on

-- all that was due was sent, and more bytes came
pub record ReadsOn (old : Told) (due : List ℕ) (inbox : List ℕ) (new : Told) (after : List ℕ) : Type 0 where
  pub bytes : List ℕ
  pub told : new ≡ receiving (sending old due) bytes
  pub grew : after ≡ inbox ++ bytes

-- No more bytes came: the end answered Ended, and all that was due was sent; or the link failed or there was no memory.
pub record ReadsLast (old : Told) (due : List ℕ) (out : SessionOut) (new : Told) : Type 0 where
  pub sent : List ℕ
  pub told : new ≡ record old { sent = old.sent ++ sent; ended = ended_by out old.ended }
  pub part : IsPrefix sent due
  pub why : ((out ≡ outs.Closed) × (sent ≡ due)) ⊎ IsBroken out

-- ---- Rounds

-- The loop goes on from where it stood to where it stands.
pub record LoopGoesOn (a b : Stand) : Type 0 where
  pub received : List ℕ
  pub sent : List ℕ
  pub answered : List Entry
  pub told : b.told ≡ record a.told { sent = a.told.sent ++ sent; received = a.told.received ++ received }
  pub steps : StepsOn a.pass answered b.pass
  pub no_end : All (λ (e : Entry). is_end e.request ≡ false) answered
  pub requests : BeginsWithRequests (a.inbox ++ received) (entry_requests answered) b.inbox
  pub replies : sent ++ b.outbox ≡ a.outbox ++ due_frames b.pass.seen answered
  pub on : stop_after answered ≡ None

-- The loop ends.
pub record Halts (a : Stand) (out : SessionOut) (new : Told) (after : SessionPass) : Type 0 where
  pub received : List ℕ
  pub sent : List ℕ
  pub answered : List Entry
  pub told : new ≡ record a.told { sent = a.told.sent ++ sent; received = a.told.received ++ received; ended = ended_by out a.told.ended }
  pub steps : StepsOn a.pass answered after
  pub no_end : All (λ (e : Entry). is_end e.request ≡ false) answered
  pub requests : IsPrefix (entry_requests answered) (requests_read (a.inbox ++ received))
  pub replies : IsPrefix sent (a.outbox ++ due_frames after.seen answered)
  pub cause : ExplainsOut out (a.inbox ++ received) answered sent (a.outbox ++ due_frames after.seen answered)
  pub exactly : (reason : SessionOut) → stop_after answered ≡ Some reason → sent ≡ a.outbox ++ due_frames after.seen answered → out ≡ reason
