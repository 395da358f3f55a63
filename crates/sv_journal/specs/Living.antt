-- The rules of a living world: a server may have a steward, a client of its own that reports what nobody else does, or whose reports alone count.
-- A history is the list of a journal's entries with the latest first: `e ∷ h` is h, and then e.
use Rattle.std.specs.Prelude.{ℕ, suc, Bool, false, ◌&&◌, ◌||◌, not, nat_lt, List, [], ◌∷◌, filter, length, Option, Some, None, is_none, if◌then◌else◌}
use Rattle.sv_world.specs.declared.rights.Right.{Right}
use Rattle.sv_world.specs.declared.world.World.{World}
use Rattle.sv_world.specs.Control.{is_in, below}
use Rattle.sv_world.specs.Limits.{client_numbers, most_positions}
use Rattle.sv_journal.specs.declared.entry.Entry.{Entry}
use Rattle.sv_journal.specs.History.{client_of, is_client, accepted, result_at, commit_of}
use Rattle.sv_journal.specs.Sessions.{sent_to}
use Rattle.sv_journal.specs.Answer.{Rules, orphans}
use Rattle.sv_journal.specs.Serving.{Keeping, with_results}

-- The rules of a living world's server: no end of sessions and requests, and a client for each number that a message has.
abbrev pub living_rules : World → ℕ → Option ℕ → Option (List Right) → Rules
living_rules world bound reach rights = record {
  world = world;
  bound = bound;
  reach = reach;
  sessions = None;
  clients = client_numbers;
  requests = None;
  leap = Some 1000;
  positions = most_positions;
  rights = rights;
}

-- Which client is the steward, where there is one, and whether its reports alone bring results.
pub record Stewardship : Type 0 where
  pub steward : Option ℕ
  pub authority : Bool

-- There is no steward, and every client's reports count.
abbrev pub nobody : Stewardship
nobody = record { steward = None; authority = false }

-- The session was joined as the steward.
abbrev pub is_stewards : Option ℕ → List Entry → ℕ → Bool
is_stewards None h s = false
is_stewards (Some k) h s = is_client (client_of h s) k

-- Reports of a session bring results.
abbrev pub counts : Stewardship → List Entry → ℕ → Bool
counts w h s = not w.authority || is_stewards w.steward h s

-- The entries with only those results that count.
abbrev pub heeded : Stewardship → List Entry → List Entry
heeded w [] = []
heeded w (e ∷ h) = (if counts w h e.session then e else record e { request = with_results (λ d. false) e.request }) ∷ heeded w h

-- The positions above the commit that have no result and were not sent to a session, ascending.
abbrev pub unreported : List Entry → ℕ → List ℕ
unreported h s = filter (λ p. nat_lt (commit_of h) p && is_none (result_at h p) && not (is_in p (sent_to h s))) (below (suc (length (accepted h))))

-- The steward is sent what has no result; everybody else what is abandoned.
abbrev pub due_to : Stewardship → List Entry → ℕ → List ℕ
due_to w h s = if is_stewards w.steward h s then unreported (heeded w h) s else orphans (heeded w h)

abbrev pub living : Stewardship → Keeping
living w = record { kept = heeded w; due = due_to w }
