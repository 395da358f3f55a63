-- Clients that keep the limits of a server's rules.
use Rattle.std.proofs.Common.{◌≡◌, ℕ, ◌-◌, ◌<◌, ◌≤◌, true, false, List, [], ◌∷◌, length, reverse, Option, Some, None, refl, arith}
use Rattle.std.proofs.lemmas.Bool.{le-ltb, lt-leb}
use Rattle.sv_world.specs.declared.world.Shape.{Shape}
use Rattle.sv_world.specs.declared.world.World.{World}
use Rattle.sv_journal.specs.declared.entry.Entry.{Entry}
use Rattle.sv_journal.specs.Sessions.{life_in, life_of}
use Rattle.sv_journal.specs.Answer.{scenario_rules, is_above, is_spent}
use Rattle.sv_client.specs.declared.trace.Event.{Event}
use Rattle.sv_client.specs.declared.trace.Event.TheVariants as events
use Rattle.sv_client.specs.declared.trace.Trace.{Trace}
use Rattle.sv_client.specs.Traces.{makes, requests_of}
use Rattle.sv_client.specs.Taking.{Identity}
use Rattle.sv_client.specs.Proper.{AreProper, Proper, most_made, identity_of}
use Rattle.law_system.specs.Fits.{has_session}
use Rattle.law_system.specs.Within.{IsWithinLimit, LivesLeapWithin, KeepsLimits}
use Rattle.law_system.proofs.Histories.{IsEarlier, same, after}

-- ---- Limits that may be none

pub not-above : (limit : Option ℕ) (n : ℕ) → IsWithinLimit limit n → is_above limit n ≡ false
not-above None n w = refl
not-above (Some most) n w = le-ltb most n w

pub not-spent : (limit : Option ℕ) (n m : ℕ) → n < m → IsWithinLimit limit m → is_spent limit n ≡ false
not-spent None n m l w = refl
not-spent (Some most) n m l w = lt-leb most n (omega (arith, l, w))

-- ---- Lives

pub leap-at : (leap : Option ℕ) (L : Trace) (e : Entry) (h H : List Entry) → IsEarlier (e ∷ h) H → LivesLeapWithin leap H L → has_session L e.session ≡ true →
    IsWithinLimit leap (life_in e.request - life_of h L.client.0)
leap-at leap L e h H same l has = l.0 has
leap-at leap L e h H (after {g} d b) l has = leap-at leap L e h g b l.1 has

pub no-leap : (h : List Entry) (L : Trace) → LivesLeapWithin None h L
no-leap [] L = tt
no-leap (e ∷ h) L = (λ has. tt, no-leap h L)

-- ---- Scenarios

made-few : (who : Identity) (first : ℕ) (t : List Event) → AreProper who first t → makes t ≤ most_made
made-few who first [] p = omega arith
made-few who first (events.Make action ∷ t) p = let few : makes t < most_made = p.0.few in omega arith
made-few who first (events.Join s ∷ t) p = made-few who first t p.1
made-few who first (events.Got s reply ∷ t) p = made-few who first t p.1
made-few who first (events.Poll ∷ t) p = made-few who first t p.1
made-few who first (events.Observe objects wait ∷ t) p = made-few who first t p.1
made-few who first (events.Leave ∷ t) p = made-few who first t p.1
made-few who first (events.Cut ∷ t) p = made-few who first t p.1
made-few who first (events.Quit ∷ t) p = made-few who first t p.1
made-few who first (events.Show objects ∷ t) p = made-few who first t p.1

pub scenario-keeps : (world : World) (bound : ℕ) (reach : Option ℕ) (sessions : ℕ) (shape : Shape) (h : List Entry) (L : Trace) (s : ℕ) → Proper shape L →
    length (requests_of L s) ≤ 1024 → KeepsLimits (scenario_rules world bound reach sessions) h L s
scenario-keeps world bound reach sessions shape h L s proper few = record {
  client = proper.who.client;
  requests = few;
  actions = (let made : makes (reverse L.events) ≤ most_made = made-few (identity_of shape L) L.first (reverse L.events) proper.events in omega arith);
  lives = no-leap h L;
}
