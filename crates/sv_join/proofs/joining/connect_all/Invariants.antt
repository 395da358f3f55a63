-- The ends that were made so far.
use Rattle.std.proofs.Common.{◌≡◌, ℕ, ◌+◌, length, slice_get, Some}
use Rattle.std.specs.Vec.{vec_capacity}
use Rattle.sv_join.specs.Joining.{IsNewEnd}
use Rattle.sv_join.specs.declared.steady.Steady.{Steady}
use Rattle.sv_join.proofs.joining.connect_all.Given as goal

abbrev pub invariant-loop : goal.invariant-loop
invariant-loop g l =
    let E = g.D.E.End in
    record {
      count : length l.ends.items ≡ l.counter;
      new : (j : ℕ) (s : Steady g.row.D-E.Denot) → slice_get l.ends.items j ≡ Some s → IsNewEnd E.told E.faults E.calm (g.D.Door.sure l.initial.door l.port) (g.D.Door.made l.initial.door + j) s.end;
      made : g.D.Door.made l.door ≡ g.D.Door.made l.initial.door + l.counter;
      owed : g.D.Door.owed l.door ≡ g.D.Door.owed l.initial.door + l.counter;
      given : g.D.Door.given l.door ≡ g.D.Door.given l.initial.door;
      faults : g.D.Door.faults l.door ≡ g.D.Door.faults l.initial.door;
      sure : g.D.Door.sure l.initial.door l.port → g.D.Door.sure l.door l.port;
      room : vec_capacity l.ends ≡ vec_capacity l.initial.ends;
    }
