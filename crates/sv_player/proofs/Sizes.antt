-- Each value that a client of a proper trace sees has the numbers of its world.
use Rattle.std.proofs.Common.{ℕ, List}
use Rattle.std.specs.Option.{IfSome}
use Rattle.sv_pending.specs.Shapes.{IsLong}
use Rattle.sv_client.specs.declared.trace.Event.{Event}
use Rattle.sv_client.specs.Traces.{view_of}
use Rattle.sv_client.specs.Taking.{Identity}
use Rattle.sv_client.specs.Proper.{AreProper}
use Rattle.sv_client.proofs.Sessions.{in_turn}
use Rattle.sv_client.proofs.Sizes.{views_in_turn}

pub views_long : (who : Identity) (first : ℕ) (t : List Event) → AreProper who first t → (x : ℕ) → IfSome (view_of t x) (IsLong who.shape.attrs)
views_long who first t p x = views_in_turn who first t (in_turn who first t p) x
