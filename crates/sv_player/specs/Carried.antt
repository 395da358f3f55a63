-- What one end of a connection carried, against what its client asked and got in that session.
-- Events stand with the latest first.
use Rattle.std.specs.Prelude.{◌≡◌, ℕ, false, List, ◌++◌, map, Result, Ok, All}
use Rattle.std.specs.List.{AllByRecursion}
use mathlib.Core.List.{IsPrefix}
use Rattle.sv_frame.specs.Frames.{frames_of, FitsFrame}
use Rattle.sv_link.specs.Ends.{Told, sending}
use Rattle.sv_link.specs.declared.side.Side.{Side}
use Rattle.sv_wire.specs.declared.fault.Malformed.{Malformed}
use Rattle.sv_wire.specs.declared.message.Request.{Request}
use Rattle.sv_wire.specs.declared.message.Reply.{Reply}
use Rattle.sv_wire.specs.Messages.{reply_at}
use Rattle.sv_wire.specs.Laws.{IsRequest}
use Rattle.sv_wire.specs.Spelling.{request_bytes}
use Rattle.sv_client.specs.declared.trace.Event.{Event}
use Rattle.sv_client.specs.Traces.{asked, got}
use Rattle.sv_client.specs.Taking.{Identity}

-- the frames of requests, one after the other
unfoldable pub request_frames : List Request → List ℕ
request_frames requests = frames_of (map request_bytes requests)

abbrev pub was_read : Reply → Result Reply Malformed
was_read reply = Ok reply

-- a stream begins with the frames of payloads that are read as these replies, in order, and this comes after them
pub record BeginsWithReplies (stream : List ℕ) (replies : List Reply) (rest : List ℕ) : Type 0 where
  pub payloads : List (List ℕ)
  pub whole : stream ≡ frames_of payloads ++ rest
  pub fit : AllByRecursion FitsFrame payloads
  pub read : map reply_at payloads ≡ map was_read replies

-- ---- Ends

-- which end of which pair it is
abbrev pub which_end : Told → ℕ × Side
which_end end = (end.pair, end.side)

-- ---- Sending

-- bytes were put behind what waited, and a front part of it all was sent
pub record Posted (old : Told) (waiting more : List ℕ) (new : Told) (left : List ℕ) : Type 0 where
  pub sent : List ℕ
  pub told : new ≡ sending old sent
  pub all : sent ++ left ≡ waiting ++ more

-- sending ended early: a front part was sent of what waited and what was to follow
pub record PostedPart (old : Told) (waiting more : List ℕ) (new : Told) : Type 0 where
  pub sent : List ℕ
  pub told : new ≡ sending old sent
  pub part : IsPrefix sent (waiting ++ more)

-- ---- An end, against the events of its client

-- The end of session s is open; it sent what was asked, each request a message, but for what waits; and it received the replies that were
-- got, and this after them.
pub record IsLinked (who : Identity) (t : List Event) (s : ℕ) (end : Told) (reader outbox : List ℕ) : Type 0 where
  pub open_is : end.closed ≡ false
  pub sent : end.sent ++ outbox ≡ request_frames (asked who.client who.interest t s)
  pub messages : All IsRequest (asked who.client who.interest t s)
  pub received : BeginsWithReplies end.received (got t s) reader

-- Whatever stopped the client, the end of session s sent a front part of what was asked, and received the replies that were got.
pub record IsLinkedInPart (who : Identity) (t : List Event) (s : ℕ) (end : Told) : Type 0 where
  pub sent : IsPrefix end.sent (request_frames (asked who.client who.interest t s))
  pub rest : List ℕ
  pub received : BeginsWithReplies end.received (got t s) rest
