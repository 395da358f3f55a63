-- What the two ends of a session moved, against the journal and the client's trace.
-- A history is the list of a journal's entries with the latest first.
use Rattle.std.specs.Prelude.{◌≡◌, ◌⊎◌, ℕ, Bool, true, false, List, [], ◌∷◌, ◌++◌, map, reverse, IsSome}
use mathlib.Core.List.{IsPrefix}
use Rattle.sv_frame.specs.Frames.{frames_of}
use Rattle.sv_frame.specs.Streams.{incoming_items}
use Rattle.sv_frame.specs.Streams.StreamItem.{Payload}
use Rattle.sv_link.specs.Nets.{Transcript}
use Rattle.sv_wire.specs.declared.message.Request.{Request}
use Rattle.sv_wire.specs.declared.message.Reply.{Reply}
use Rattle.sv_wire.specs.Spelling.{request_bytes, reply_bytes}
use Rattle.sv_journal.specs.declared.entry.Entry.{Entry}
use Rattle.sv_journal.specs.History.{accepted, logged_of}
use Rattle.sv_session.specs.Requests.{stop_of}
use Rattle.sv_client.specs.declared.trace.Trace.{Trace}
use Rattle.sv_client.specs.Traces.{requests_of}
use Rattle.law_system.specs.Fits.{requests_in, replies_in}
use Rattle.sv_player.specs.Carried.{request_frames}
use Rattle.sv_player.specs.Stops.{is_cut}
use Rattle.sv_player.specs.Played.{replies_of}

-- the frames of replies, one after the other
unfoldable pub reply_frames : List Reply → List ℕ
reply_frames replies = frames_of (map reply_bytes replies)

-- the last of these replies is one after which a session's loop stops
pub record EndsWithStop (all : List Reply) : Type 0 where
  pub before : List Reply
  pub last : Reply
  pub are : all ≡ before ++ last ∷ []
  pub stop : IsSome (stop_of (logged_of last))

-- The end was told that no more will come, and each payload that it received is that of one of these requests, in order.
pub record CameWhole (ended : Bool) (received : List ℕ) (requests : List Request) : Type 0 where
  pub ended_is : ended ≡ true
  pub items : incoming_items received ≡ map Payload (map request_bytes requests)

-- The bytes of session s are those of the requests that the trace asked and the replies that the journal has, in full, as far as they went.
pub record IsTraffic (h : List Entry) (L : Trace) (s : ℕ) (x : Transcript) : Type 0 where
  pub asked : x.client_sent ≡ request_frames (requests_of L s)
  pub arrived : IsPrefix x.server_received x.client_sent
  pub stepped : IsPrefix (request_frames (requests_in h s)) x.server_received
  pub replied : IsPrefix x.server_sent (reply_frames (replies_in (accepted h) h s))
  pub whole : is_cut (reverse L.events) s ≡ false → x.server_sent ≡ reply_frames (replies_in (accepted h) h s)
  pub returned : IsPrefix x.client_received x.server_sent
  pub got : IsPrefix (reply_frames (replies_of L s)) x.client_received
  pub end : x.server_faulty ≡ false → EndsWithStop (replies_in (accepted h) h s) ⊎ CameWhole x.server_ended x.server_received (requests_in h s)
