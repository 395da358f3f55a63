-- What the check leaves to prove of `Writers::remove_last`.
use Rattle.sv_queue.proofs.WrittenObjects.{writes_before_all}
use Rattle.sv_queue.proofs.writers.Writers.remove_last.Goals as goal

pub returns : goal.returns
returns c = rw (← writes_before_all c.args.action.now, ← c.len.ensures, ← c.self.view_is) c.remove_last_before.ensures
