-- What the check leaves to prove of `Missing::look_up`.
use Rattle.std.proofs.Common.{ℕ, arith, ap, ◌∙◌}
use Rattle.sv_world.specs.Control.{last_writer}
use Rattle.sv_queue.specs.Queue.{queue_actions}
use Rattle.sv_influence.proofs.Looks.{writer-queued}
use Rattle.sv_influence.proofs.lacking.Missing.look_up.Goals as goal

pub add_writer-requires-clause-writer : goal.add_writer-requires-clause-writer
add_writer-requires-clause-writer g c =
    writer-queued c.args.queue.now c.args.read.object.0 c.args.read.pos c.source-writer.result (let w = c.requires.pos.1 in omega arith)
    (c.source-writer.ensures.writer ∙ ap (λ (x : ℕ). last_writer (queue_actions c.args.queue.now) x c.args.read.pos) c.requires.read)
