-- What is proved by hand of `write_pieces`.
use Rattle.std.proofs.Common.{[], arith}
use Rattle.sv_bytes.specs.Faults.{Rose}
use Rattle.sv_bytes.proofs.Growth.{Grew-joined, GrewByPart-joined}
use Rattle.sv_bytes.proofs.writing.write_pieces.Goals as goal

pub returns-then-not-write_all-clause-part : goal.returns-then-not-write_all-clause-part
returns-then-not-write_all-clause-part g c =
    GrewByPart-joined _ _ _ _ _ (record { ref_ptr = (0, 0); now = [] }) c.loop-piece-test.true c.loop-piece.invariant.grew c.write_all.ensures.part

pub loop-piece-preserved : goal.loop-piece-preserved
loop-piece-preserved g c = record {
  grew = Grew-joined _ _ _ _ _ (record { ref_ptr = (0, 0); now = [] }) c.loop-piece-test.true c.loop-piece.invariant.grew c.if-not-write_all.ensures.whole;
  calm = cc (c.if-not-write_all.ensures.cause, c.loop-piece.invariant.calm);
}

pub returns-then-not-write_all-clause-told : goal.returns-then-not-write_all-clause-told
returns-then-not-write_all-clause-told g c =
    let rose : Rose (g.K.Sink.faults c.loop-piece.sink) (g.K.Sink.faults c.write_all.new.sink) = c.if-not-write_all.ensures.cause in record {
      part = returns-then-not-write_all-clause-part g c;
      whole = λ calm. absurd (calm (omega (arith, rose, c.loop-piece.invariant.calm)));
    }
