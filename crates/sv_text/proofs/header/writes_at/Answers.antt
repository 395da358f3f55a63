-- One more written object.
use Rattle.std.proofs.Common.{sym}
use Rattle.sv_text.proofs.Turns.{writes_shorter, writes_turn}
use Rattle.sv_text.proofs.header.writes_at.Goals as goal

pub loop-cursor-smaller : goal.loop-cursor-smaller
loop-cursor-smaller c = rw c.advance.ensures (writes_shorter c.loop-cursor.cursor (sym c.loop-cursor-test.ensures))

pub loop-cursor-preserved : goal.loop-cursor-preserved
loop-cursor-preserved c =
    rw (c.advance.ensures, c.from-least.ensures)
    (writes_turn c.args.reads.now c.loop-cursor.mask c.loop-cursor.least c.in_ok-object.object c.in_ok-object.slot c.loop-cursor.cursor _ (sym c.loop-cursor-test.ensures) (sym c.in_ok-object.ensures.value) c.in_ok-object.ensures.low c.loop-cursor.invariant)
