-- When a client keeps the limits that a server's rules have for it.
-- A history is the list of a journal's entries with the latest first.
use Rattle.std.specs.Prelude.{◌≡◌, ℕ, ◌-◌, ◌<◌, ◌≤◌, true, List, [], ◌∷◌, length, reverse, Option, Some, None}
use Rattle.sv_world.specs.Limits.{most_positions}
use Rattle.sv_journal.specs.declared.entry.Entry.{Entry}
use Rattle.sv_journal.specs.Sessions.{life_in, life_of}
use Rattle.sv_journal.specs.Answer.{Rules}
use Rattle.sv_client.specs.declared.trace.Trace.{Trace}
use Rattle.sv_client.specs.Traces.{makes, requests_of}
use Rattle.law_system.specs.Fits.{has_session}

-- A number is within a limit, where there is one.
abbrev pub IsWithinLimit : Option ℕ → ℕ → Type 0
IsWithinLimit None n = Unit {0}
IsWithinLimit (Some limit) n = n ≤ limit

-- The life of each Join in the trace's sessions is above the greatest one that its client had before by no more than the leap.
abbrev pub LivesLeapWithin : Option ℕ → List Entry → Trace → Type 0
LivesLeapWithin leap [] L = Unit {0}
LivesLeapWithin leap (e ∷ h) L =
    (has_session L e.session ≡ true → IsWithinLimit leap (life_in e.request - life_of h L.client.0)) × LivesLeapWithin leap h L

-- The rules know a client of the trace's number; it asks as many requests in the session as they allow; it makes no more actions than there are
-- numbers; and its lives leap no further than they allow.
pub record KeepsLimits (r : Rules) (h : List Entry) (L : Trace) (s : ℕ) : Type 0 where
  pub client : L.client.0 < r.clients
  pub requests : IsWithinLimit r.requests (length (requests_of L s))
  pub actions : makes (reverse L.events) ≤ most_positions
  pub lives : LivesLeapWithin r.leap h L
