-- What is proved by hand of `send_all`.
use Rattle.std.proofs.Common.{arith}
use Rattle.sv_link.proofs.Sending.{sending-more}
use Rattle.sv_link.proofs.ends.send_all.Goals as goal

pub loop-done-preserved : goal.loop-done-preserved
loop-done-preserved g c = record {
  within = omega (arith, c.in-Took.ensures.told);
  grew = sending-more _ _ _ _ _ _ c.loop-done.invariant.grew c.in-Took.ensures.told.2;
  same = cc (c.in-Took.ensures.cause, c.loop-done.invariant.same);
  calm = λ was. (c.write.ensures.calm (c.loop-done.invariant.calm was)).1;
}
