-- One more read.
use Rattle.std.proofs.Common.{◌≡◌, ◌+◌, length, arith, sym, ◌∙◌}
use Rattle.std.proofs.lemmas.List.{length-append}
use Rattle.sv_text.proofs.Turns.{reads_shorter, reads_go_on}
use Rattle.sv_text.proofs.header.reads_at.Goals as goal

pub loop-cursor-smaller : goal.loop-cursor-smaller
loop-cursor-smaller c = rw c.advance.ensures (reads_shorter _ _ _ c.loop-cursor.cursor (sym c.in_ok-object.ensures.value))

pub loop-cursor-preserved : goal.loop-cursor-preserved
loop-cursor-preserved c =
    let more : length c.push.new.self ≡ length c.loop-cursor.reads + 1 = rw c.in_ok-push.ensures.ok (length-append c.loop-cursor.reads _) in
    record {
      few = omega (arith, more, c.in_ok-object.ensures.few, c.len-in-loop-cursor.ensures);
      told = rw (c.advance.ensures, c.from-least.ensures) (reads_go_on c.loop-cursor.reads _ _ c.loop-cursor.least c.in_ok-object.object c.loop-cursor.cursor c.len.ensures (sym c.ends_reads.ensures ∙ c.loop-cursor-test.true) (rw (c.len-in-loop-cursor.ensures ∙ sym c.len.ensures) at (sym c.in_ok-object.ensures.value)) c.in_ok-push.ensures.ok ∙ c.loop-cursor.invariant.told);
    }
