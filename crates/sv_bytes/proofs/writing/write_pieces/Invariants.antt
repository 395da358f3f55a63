-- The loop invariant of `write_pieces`.
use Rattle.std.proofs.Common.{◌≡◌, take}
use Rattle.sv_bytes.specs.Writing.{Grew, joined_pieces}
use Rattle.sv_bytes.proofs.writing.write_pieces.Given as goal

abbrev pub invariant-loop-piece : goal.invariant-loop-piece
invariant-loop-piece g l = record {
  grew : Grew (g.K.Sink.taken l.fn.sink) (g.K.Sink.taken l.sink) (joined_pieces (take l.piece-index l.pieces));
  calm : g.K.Sink.faults l.sink ≡ g.K.Sink.faults l.fn.sink;
}
