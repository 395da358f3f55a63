-- Proper traces, and those of clients in turn, are traces that an honest client can have.
use Rattle.std.proofs.Common.{ℕ, suc, ◌+◌, ◌<◌, List, [], ◌∷◌, reverse, sym, subst, arith}
use Rattle.std.specs.List.{AllByRecursion}
use Rattle.std.proofs.lemmas.List.Elements.{All-from_recursion}
use Rattle.sv_world.specs.declared.world.Shape.{Shape}
use Rattle.sv_client.specs.declared.trace.Event.{Event}
use Rattle.sv_client.specs.declared.trace.Event.TheVariants as events
use Rattle.sv_client.specs.declared.trace.Trace.{Trace}
use Rattle.sv_client.specs.Traces.{joins}
use Rattle.sv_client.specs.Taking.{Identity}
use Rattle.sv_client.specs.Proper.{AreInTurn, AreProper, Proper, identity_of}
use Rattle.sv_client.proofs.Sessions.{in_turn}
use Rattle.law_system.specs.Clients.{sessions_begun, AreClientEvents, IsClientTrace}
use Rattle.law_system.proofs.Every.{each-more}

-- Each session that was begun is below the next one.
pub turn-below : (who : Identity) (first : ℕ) (t : List Event) → AreInTurn who first t → AllByRecursion (λ n. n < first + joins t) (sessions_begun t)
turn-below who first [] p = tt
turn-below who first (events.Join s ∷ t) p = (
  omega (arith, p.0),
  each-more (λ n. n < first + joins t) (λ n. n < first + suc (joins t)) (λ n l. omega (arith, l)) (sessions_begun t) (turn-below who first t p.1),
)
turn-below who first (events.Make action ∷ t) p = turn-below who first t p.1
turn-below who first (events.Poll ∷ t) p = turn-below who first t p.1
turn-below who first (events.Observe objects wait ∷ t) p = turn-below who first t p.1
turn-below who first (events.Leave ∷ t) p = turn-below who first t p.1
turn-below who first (events.Got s reply ∷ t) p = turn-below who first t p.1
turn-below who first (events.Cut ∷ t) p = turn-below who first t p.1
turn-below who first (events.Quit ∷ t) p = turn-below who first t p.1
turn-below who first (events.Show objects ∷ t) p = turn-below who first t p.1

pub turn-events : (who : Identity) (first : ℕ) (t : List Event) → AreInTurn who first t → AreClientEvents who t
turn-events who first [] p = tt
turn-events who first (events.Join s ∷ t) p = (
  All-from_recursion (λ n. n < s) (sessions_begun t) (subst (λ m. AllByRecursion (λ n. n < m) (sessions_begun t)) (sym p.0) (turn-below who first t p.1)),
  turn-events who first t p.1,
)
turn-events who first (events.Make action ∷ t) p = (p.0, turn-events who first t p.1)
turn-events who first (events.Poll ∷ t) p = (p.0, turn-events who first t p.1)
turn-events who first (events.Observe objects wait ∷ t) p = (p.0, turn-events who first t p.1)
turn-events who first (events.Leave ∷ t) p = (p.0, turn-events who first t p.1)
turn-events who first (events.Got s reply ∷ t) p = (p.0, turn-events who first t p.1)
turn-events who first (events.Cut ∷ t) p = (p.0, turn-events who first t p.1)
turn-events who first (events.Quit ∷ t) p = (p.0, turn-events who first t p.1)
turn-events who first (events.Show objects ∷ t) p = (p.0, turn-events who first t p.1)

pub proper-events : (who : Identity) (first : ℕ) (t : List Event) → AreProper who first t → AreClientEvents who t
proper-events who first t p = turn-events who first t (in_turn who first t p)

pub client-trace : (shape : Shape) (L : Trace) → Proper shape L → IsClientTrace shape L
client-trace shape L proper = record {
  client = (let few : L.client.0 < 32 = proper.who.client in omega (arith, few));
  interest = record { few = proper.who.few; ascending = proper.who.ascending; objects = proper.who.objects };
  events = proper-events (identity_of shape L) L.first (reverse L.events) proper.events;
}
