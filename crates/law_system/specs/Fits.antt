-- When a journal and clients' traces can belong together: each client got what its sessions were answered, and the journal has what it asked.
-- A history is the list of a journal's entries with the latest first.
use Rattle.std.specs.Prelude.{◌≡◌, ℕ, Bool, true, false, ◌==◌, ◌&&◌, ◌||◌, not, List, [], ◌∷◌, ◌++◌, reverse, All, if◌then◌else◌}
use Rattle.std.specs.List.{list_any}
use Rattle.sv_world.specs.declared.world.Shape.{Shape}
use Rattle.sv_wire.specs.declared.message.Request.{Request}
use Rattle.sv_wire.specs.declared.message.Reply.{Reply}
use Rattle.sv_journal.specs.declared.entry.Entry.{Entry}
use Rattle.sv_journal.specs.History.{Authored, accepted, full_reply}
use Rattle.sv_journal.specs.Sessions.{is_end, is_ended}
use Rattle.sv_client.specs.declared.trace.Event.{Event}
use Rattle.sv_client.specs.declared.trace.Event.TheVariants as events
use Rattle.sv_client.specs.declared.trace.Trace.{Trace}
use Rattle.sv_client.specs.Traces.{got, requests_of}
use Rattle.law_system.specs.Fronts.{IsFront}
use Rattle.law_system.specs.Clients.{IsClientTrace}

-- The requests of a session that a journal has, in order, its End left out.
abbrev pub requests_in : List Entry → ℕ → List Request
requests_in [] s = []
requests_in (e ∷ h) s = if e.session == s && not (is_end e.request) then requests_in h s ++ e.request ∷ [] else requests_in h s

-- The whole replies of a session, in order, its End's left out, where the accepted actions are A.
abbrev pub replies_in : List Authored → List Entry → ℕ → List Reply
replies_in A [] s = []
replies_in A (e ∷ h) s =
    if e.session == s && not (is_end e.request) then replies_in A h s ++ full_reply A e.reply ∷ [] else replies_in A h s

-- A session has at most one End, and nothing after it.
abbrev pub IsEndLast : List Entry → ℕ → Type 0
IsEndLast [] s = Unit {0}
IsEndLast (e ∷ h) s = (e.session ≡ s → is_ended h s ≡ false) × IsEndLast h s

abbrev pub is_join_of : ℕ → Event → Bool
is_join_of s (events.Join n) = n == s
is_join_of s _ = false

-- A trace has a session: one of its Joins names it.
abbrev pub has_session : Trace → ℕ → Bool
has_session L s = list_any (is_join_of s) L.events

-- A session of a trace, with the journal: the replies that the trace got are the first of its replies, and the requests that the journal has
-- are the first of those that the trace asks.
pub record FitsIn (h : List Entry) (L : Trace) (s : ℕ) : Type 0 where
  pub got : IsFront (got (reverse L.events) s) (replies_in (accepted h) h s)
  pub asked : IsFront (requests_in h s) (requests_of L s)
  pub ended : IsEndLast h s

pub record FitsOne (shape : Shape) (h : List Entry) (L : Trace) : Type 0 where
  pub trace : IsClientTrace shape L
  pub sessions : (s : ℕ) → has_session L s ≡ true → FitsIn h L s

-- Two traces are of different clients, and have no session in common.
pub record AreApart (L M : Trace) : Type 0 where
  pub clients : L.client ≡ M.client → ⊥
  pub sessions : (s : ℕ) → has_session L s ≡ true → has_session M s ≡ true → ⊥

abbrev pub AreAllApart : List Trace → Type 0
AreAllApart [] = Unit {0}
AreAllApart (L ∷ Ls) = All (AreApart L) Ls × AreAllApart Ls

-- The entry is an End, or of a session of one of the traces.
abbrev pub is_owned : List Trace → Entry → Bool
is_owned Ls e = is_end e.request || list_any (λ (L : Trace). has_session L e.session) Ls

-- No clock ties the traces to the journal: each session of each trace fits by itself.
pub record Fits (shape : Shape) (h : List Entry) (Ls : List Trace) : Type 0 where
  pub each : All (FitsOne shape h) Ls
  pub apart : AreAllApart Ls
  pub owned : All (λ e. is_owned Ls e ≡ true) h
