-- What the check leaves to prove of `knows`.
use Rattle.std.proofs.Common.{◌+◌, arith}
use Rattle.sv_influence.proofs.Looks.{writer-queued}
use Rattle.sv_core.proofs.Knowing.{knows-given, knows-sent}
use Rattle.sv_core.proofs.known.knows.Goals as goal

pub returns-then-writer-eq0 : goal.returns-then-writer-eq0
returns-then-writer-eq0 g c =
    knows-given c.args.queue.now c.args.slot c.args.object.0 c.last_writer-writer.result c.last.result c.is_given.result c.requires.object c.last.ensures c.last_writer-writer.ensures.writer
    c.if-writer-eq0.true c.is_given.ensures

pub is_marked-requires : goal.is_marked-requires
is_marked-requires g c =
    writer-queued c.args.queue.now c.args.object.0 (c.last.result + 1) c.last_writer-writer.result (omega (arith, c.last.ensures)) c.last_writer-writer.ensures.writer c.if-writer-eq0.false

pub returns-else-writer-eq0 : goal.returns-else-writer-eq0
returns-else-writer-eq0 g c =
    knows-sent c.args.queue.now c.args.slot c.args.object.0 c.last_writer-writer.result c.last.result c.is_marked.result c.last.ensures c.last_writer-writer.ensures.writer c.if-writer-eq0.false
    c.is_marked.ensures.marked
