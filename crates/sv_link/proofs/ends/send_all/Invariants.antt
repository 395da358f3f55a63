-- The loop invariant and the measure of `send_all`.
use Rattle.std.proofs.Common.{length, take, ◌-◌, ◌≡◌, ◌≤◌}
use Rattle.sv_link.specs.Ends.{sending}
use Rattle.sv_link.proofs.ends.send_all.Given as goal

abbrev pub invariant-loop-done : goal.invariant-loop-done
invariant-loop-done g l = record {
  within : l.done ≤ length l.bytes;
  grew : g.E.End.told l.end ≡ sending (g.E.End.told l.fn.end) (take l.done l.bytes);
  same : g.E.End.faults l.end ≡ g.E.End.faults l.fn.end;
  calm : g.E.End.calm l.fn.end → g.E.End.calm l.end;
}

abbrev pub decreases-loop-done : goal.decreases-loop-done
decreases-loop-done g l = length l.bytes - l.done
