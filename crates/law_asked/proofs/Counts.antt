-- There are numbers for the lives and the actions of a proper trace.
use Rattle.std.proofs.Common.{ℕ, ◌≤◌, List, [], ◌∷◌, reverse, arith}
use Rattle.std.specs.Prelude.{All}
use Rattle.std.proofs.lemmas.List.Elements.{recursion_from_All, All-from_recursion}
use Rattle.sv_world.specs.declared.world.Shape.{Shape}
use Rattle.sv_client.specs.declared.trace.Event.{Event}
use Rattle.sv_client.specs.declared.trace.Event.TheVariants as events
use Rattle.sv_client.specs.declared.trace.Trace.{Trace}
use Rattle.sv_client.specs.Traces.{joins}
use Rattle.sv_client.specs.Taking.{Identity}
use Rattle.sv_client.specs.Proper.{AreProper, Proper, identity_of}
use Rattle.sv_client.proofs.Sessions.{few_makes}
use Rattle.law_system.proofs.Every.{each-more}
use Rattle.law_asked.specs.Asked.{CountsFit}

few-joins : (who : Identity) (first : ℕ) (t : List Event) → AreProper who first t → joins t ≤ 64
few-joins who first [] p = omega arith
few-joins who first (events.Join s ∷ t) p = omega (arith, p.0.few)
few-joins who first (events.Make a ∷ t) p = few-joins who first t p.1
few-joins who first (events.Poll ∷ t) p = few-joins who first t p.1
few-joins who first (events.Observe objects wait ∷ t) p = few-joins who first t p.1
few-joins who first (events.Leave ∷ t) p = few-joins who first t p.1
few-joins who first (events.Got s reply ∷ t) p = few-joins who first t p.1
few-joins who first (events.Cut ∷ t) p = few-joins who first t p.1
few-joins who first (events.Quit ∷ t) p = few-joins who first t p.1
few-joins who first (events.Show objects ∷ t) p = few-joins who first t p.1

pub proper-counts : (shape : Shape) (L : Trace) → Proper shape L → CountsFit L
proper-counts shape L proper = record {
  lives = omega (arith, few-joins (identity_of shape L) L.first (reverse L.events) proper.events);
  actions = omega (arith, few_makes (identity_of shape L) L.first (reverse L.events) proper.events);
}

pub counts-each : (shape : Shape) (Ls : List Trace) → All (Proper shape) Ls → All CountsFit Ls
counts-each shape Ls proper =
    All-from_recursion CountsFit Ls (each-more (Proper shape) CountsFit (proper-counts shape) Ls (recursion_from_All (Proper shape) Ls proper))
