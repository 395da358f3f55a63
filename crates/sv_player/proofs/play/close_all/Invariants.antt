-- The loop invariant of `close_all`.
use Rattle.sv_player.specs.Ends.{AreKept, IsClosing}
use Rattle.sv_player.proofs.play.close_all.Given as goal

abbrev pub invariant-loop-place : goal.invariant-loop-place
invariant-loop-place g l = AreKept (IsClosing g.E.End.told g.E.End.faults g.E.End.calm l.place) l.initial.ends l.ends
