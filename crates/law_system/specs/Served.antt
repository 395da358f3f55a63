-- Which traces belong to the journal of a server that does not trust each of its clients: those of its honest clients, and that of a client
-- that differs from an honest one in the values that it reports alone.
-- A history is the list of a journal's entries with the latest first.
use Rattle.std.specs.Prelude.{◌≡◌, ℕ, ℤ, Bool, true, ◌==◌, ◌&&◌, List, [], ◌∷◌, map, length, reverse, All, Some, slice_get}
use Rattle.std.specs.List.{list_any}
use Rattle.sv_world.specs.declared.world.Shape.{Shape}
use Rattle.sv_wire.specs.declared.message.Done1.{Done1}
use Rattle.sv_wire.specs.declared.message.Request.{Request}
use Rattle.sv_wire.specs.declared.message.Request.TheVariants as requests
use Rattle.sv_journal.specs.declared.entry.Entry.{Entry}
use Rattle.sv_journal.specs.History.{client_of, accepted}
use Rattle.sv_client.specs.declared.trace.Trace.{Trace}
use Rattle.sv_client.specs.Traces.{got, requests_of}
use Rattle.law_system.specs.Fronts.{IsFront}
use Rattle.law_system.specs.Clients.{IsClientTrace}
use Rattle.law_system.specs.Fits.{requests_in, replies_in, IsEndLast, has_session, FitsOne, AreAllApart}

-- ---- Who is honest

-- The session is one of the traces', whose client has this number.
abbrev pub is_session_of : List Trace → ℕ → ℕ → Bool
is_session_of Ls k s = list_any (λ (L : Trace). L.client.0 == k && has_session L s) Ls

-- Each client but the liar is honest: it has a trace that fits the journal, as a server's own clients do. Of the liar nothing is asked: it may
-- join any session, with any life, and ask and report whatever it likes there.
pub record FitsBut (liar : ℕ) (shape : Shape) (h : List Entry) (Ls : List Trace) : Type 0 where
  pub each : All (FitsOne shape h) Ls
  pub apart : AreAllApart Ls
  pub honest : All (λ (L : Trace). L.client.0 ≡ liar → ⊥) Ls
  pub joined : (s k : ℕ) → client_of h s ≡ Some k → (k ≡ liar → ⊥) → is_session_of Ls k s ≡ true

-- No client has this number: no message can name it.
abbrev pub no_client : ℕ
no_client = 65536

-- Each session that was joined as the trace's client is the trace's own.
abbrev pub OwnsSessions : List Entry → Trace → Type 0
OwnsSessions h L = (s : ℕ) → client_of h s ≡ Some L.client.0 → has_session L s ≡ true

-- ---- A client that differs from an honest one in the values that it reports alone

-- Results of the same positions, with as many values each, of as many numbers.
abbrev pub HaveSameForm : List Done1 → List Done1 → Type 0
HaveSameForm [] [] = Unit {0}
HaveSameForm (x ∷ xs) (y ∷ ys) =
    (x.pos ≡ y.pos) × ((map (λ (v : List ℤ). length v) x.values ≡ map (λ (v : List ℤ). length v) y.values) × HaveSameForm xs ys)
HaveSameForm _ _ = ⊥

-- The second request is the first one, but for the values that a Done reports.
abbrev pub AreSameButValues : Request → Request → Type 0
AreSameButValues (requests.Done results) request = (others : List Done1) × ((request ≡ requests.Done others) × HaveSameForm results others)
AreSameButValues first request = first ≡ request

-- A session of such a trace, with the journal: each request that the journal has is the one that the trace asks in its place, but for the values.
pub record FitsInButValues (h : List Entry) (L : Trace) (s : ℕ) : Type 0 where
  pub got : IsFront (got (reverse L.events) s) (replies_in (accepted h) h s)
  pub asked : (i : ℕ) (request : Request) → slice_get (requests_in h s) i ≡ Some request →
      (first : Request) × ((slice_get (requests_of L s) i ≡ Some first) × AreSameButValues first request)
  pub ended : IsEndLast h s

pub record FitsButValues (shape : Shape) (h : List Entry) (L : Trace) : Type 0 where
  pub trace : IsClientTrace shape L
  pub sessions : (s : ℕ) → has_session L s ≡ true → FitsInButValues h L s
