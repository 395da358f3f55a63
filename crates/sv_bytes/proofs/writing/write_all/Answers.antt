-- What is proved by hand of `write_all`.
use Rattle.std.proofs.Common.{arith}
use Rattle.sv_bytes.proofs.Growth.{Grew-more}
use Rattle.sv_bytes.proofs.writing.write_all.Goals as goal

pub loop-done-preserved : goal.loop-done-preserved
loop-done-preserved g c = record {
  within = omega (arith, c.in-Took.ensures.count);
  grew = Grew-more _ _ _ _ _ _ c.loop-done.invariant.grew c.in-Took.ensures.bytes;
  calm = cc (c.in-Took.ensures.cause, c.loop-done.invariant.calm);
}
