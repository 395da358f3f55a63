-- What the connection of a session moved, against the journal, whatever its peer sent.
-- A history is the list of a journal's entries with the latest first.
use Rattle.std.specs.Prelude.{◌≡◌, ◌⊎◌, ℕ, true, false, List, None}
use mathlib.Core.List.{IsPrefix}
use Rattle.sv_frame.specs.Frames.{too_long}
use Rattle.sv_frame.specs.Streams.{split_frames}
use Rattle.sv_journal.specs.declared.entry.Entry.{Entry}
use Rattle.sv_journal.specs.History.{accepted}
use Rattle.sv_session.specs.Requests.{requests_read}
use Rattle.law_system.specs.Fits.{requests_in, replies_in}
use Rattle.law_traffic.specs.Traffic.{reply_frames, EndsWithStop}
use Rattle.sv_door.specs.Doors.{Passage}

-- The peer closed, and all requests that came were answered; what is left of the bytes is less than a frame.
pub record AnsweredAll (h : List Entry) (s : ℕ) (x : Passage) : Type 0 where
  pub closed : x.ended ≡ true
  pub all : requests_in h s ≡ requests_read x.received
  pub rest : too_long (split_frames x.received).1 ≡ None

-- This is what the connection of session s moved. The session's requests, End left out, are the first of those that came. Its replies were
-- sent in full, as far as they went, and all of them where the end had no fault. The loop stopped for the last reply, or since the peer
-- closed, or for a fault of the end.
pub record IsPassageOf (h : List Entry) (s : ℕ) (x : Passage) : Type 0 where
  pub asked : IsPrefix (requests_in h s) (requests_read x.received)
  pub replied : IsPrefix x.sent (reply_frames (replies_in (accepted h) h s))
  pub whole : x.faulty ≡ false → x.sent ≡ reply_frames (replies_in (accepted h) h s)
  pub end : EndsWithStop (replies_in (accepted h) h s) ⊎ AnsweredAll h s x ⊎ (x.faulty ≡ true)
