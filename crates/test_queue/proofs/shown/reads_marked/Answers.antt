-- What the check leaves to prove of `reads_marked`.
use Rattle.std.proofs.Common.{◌≡◌, ℕ, true, ◌<◌, ◌≤◌, length, subst, arith}
use Rattle.sv_world.specs.Control.{is_in, action_at, last_writer}
use Rattle.sv_world.specs.Sets.{read_set}
use Rattle.sv_queue.specs.Queue.{queue_actions, sent_positions, last_position}
use Rattle.sv_influence.proofs.Looks.{writer-queued}
use Rattle.sv_influence.proofs.Places.{is_in-place}
use Rattle.test_queue.proofs.shown.reads_marked.Goals as goal

pub is_marked-requires : goal.is_marked-requires
is_marked-requires g c =
    let above = c.if-writer-commit.true in
    let e = c.commit.ensures in
    let high : c.args.pos ≤ last_position c.args.queue.now = c.requires.1 in
    writer-queued c.args.queue.now _ c.args.pos c.source-writer.result (omega arith) c.source-writer.ensures.writer (λ n. omega arith)

pub returns : goal.returns
returns g c = λ t x m above.
    let v = c.args.queue.now in
    let p = is_in-place x (read_set (action_at (queue_actions v) c.args.pos)) m in
    let e = c.loop-slot.invariant.end in
    let done = c.loop-slot-test.false in
    let within : p.0 < length (read_set (action_at (queue_actions v) c.args.pos)) = p.1.0 in
    subst (λ (y : ℕ). v.commit < last_writer (queue_actions v) y c.args.pos → is_in (last_writer (queue_actions v) y c.args.pos) (sent_positions v c.args.session) ≡ true) p.1.1
    (c.loop-slot.invariant.marked p.0 (omega arith)) above
