-- What is proved by hand of `Socket::next`.
use Rattle.sv_peer.proofs.Controls.{gains_again}
use Rattle.sv_peer.proofs.socket.Socket.next.Goals.{else-frames-test, then-frames-test+in-Passed+else-counter-end}
use Rattle.sv_peer.proofs.socket.Socket.next.Goals as goal

pub returns-in-Heard : goal.returns-in-Heard
returns-in-Heard c = gains_again c.args.output.now.items c.frames.output.items c.step.new.output.items c.frames.invariant c.step.ensures

pub returns-in-Close : goal.returns-in-Close
returns-in-Close c =
    gains_again c.args.output.now.items c.step.new.output.items c.close.new.output.items
    (gains_again c.args.output.now.items c.frames.output.items c.step.new.output.items c.frames.invariant c.step.ensures) c.close.ensures

pub frames-preserved : goal.frames-preserved
frames-preserved c = gains_again c.args.output.now.items c.frames.output.items c.step.new.output.items c.frames.invariant c.step.ensures

pub returns : goal.returns
returns c =
    elim c.frames-test.branch [
      | else-frames-test w ↦ rw w.output-is c.frames.invariant
      | then-frames-test+in-Passed+else-counter-end w ↦
          rw w.output-is (gains_again c.args.output.now.items c.frames.output.items w.step.new.output.items c.frames.invariant w.step.ensures)
    ]
