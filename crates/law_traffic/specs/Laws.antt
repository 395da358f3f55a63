-- The laws of one session that is done.
-- A journal has its entries in order here, the earliest first.
use Rattle.std.specs.Prelude.{◌≡◌, ℕ, List, reverse, All}
use Rattle.sv_wire.specs.Laws.{IsReply}
use Rattle.sv_journal.specs.declared.entry.Entry.{Entry}
use Rattle.sv_journal.specs.History.{accepted}
use Rattle.sv_client.specs.declared.trace.Trace.{Trace}
use Rattle.law_system.specs.Fits.{replies_in, FitsIn}
use Rattle.law_system.specs.Records.{ends_in}
use Rattle.law_traffic.specs.Sessions.{Over, transcript, IsSessionDone}
use Rattle.law_traffic.specs.Traffic.{IsTraffic}

-- Each reply of the session, in full, is a message.
abbrev pub AreSendable : List Entry → ℕ → Type 0
AreSendable journal s = All IsReply (replies_in (accepted (reverse journal)) (reverse journal) s)

-- The bytes of a session that is done are those of the trace's requests and the journal's replies.
abbrev pub SessionTrafficIsRecorded : Type 0
SessionTrafficIsRecorded = (journal : List Entry) (L : Trace) (s : ℕ) (x : Over) →
    IsSessionDone journal L s x → AreSendable journal s → IsTraffic (reverse journal) L s (transcript x)

-- The journal fits the trace in a session that is done.
abbrev pub DoneSessionsFit : Type 0
DoneSessionsFit = (journal : List Entry) (L : Trace) (s : ℕ) (x : Over) →
    IsSessionDone journal L s x → AreSendable journal s → FitsIn (reverse journal) L s

-- A session that is done has just one End.
abbrev pub DoneSessionsHaveOneEnd : Type 0
DoneSessionsHaveOneEnd = (journal : List Entry) (L : Trace) (s : ℕ) (x : Over) →
    IsSessionDone journal L s x → ends_in (reverse journal) s ≡ 1
