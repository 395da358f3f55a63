-- Only Ends were entered.
use Rattle.std.specs.Prelude.{Option}
use Rattle.sv_office.specs.Entering.{GoesOn}
use Rattle.sv_office.specs.Knowing.{IsTrusted}
use Rattle.sv_office.specs.declared.steward.Steward.{Steward}
use Rattle.sv_host.specs.Rooms.{IsAnEnd}
use Rattle.sv_host.proofs.serving.end_each.Given as goal

abbrev pub invariant-loop : goal.invariant-loop
invariant-loop g l = record {
  added : GoesOn IsAnEnd l.fn.keeper.world l.keeper.world;
  trusted : (steward : Option Steward) → IsTrusted l.fn.keeper steward → IsTrusted l.keeper steward;
}
