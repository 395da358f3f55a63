-- What the check leaves to prove of `Queue::forget`.
use Rattle.std.proofs.Common.{ℕ, List, ◌∙◌, ap, ap₂}
use Rattle.sv_queue.specs.Invariant.{model_of, slots_in}
use Rattle.sv_queue.specs.Marks.{all_queued, marks_of}
use Rattle.sv_queue.specs.Queue.{Queued, QueueView, without_slot}
use Rattle.sv_queue.proofs.Blocks.{blocks-but}
use Rattle.sv_queue.proofs.Forgets.{queued-but, marks-but, rows-but, actions-but, agree_but, pairs_of-but}
use Rattle.sv_queue.proofs.Waits.{rooms-but}
use Rattle.sv_queue.proofs.queue.Queue.forget.Goals as goal

pub invariant_of-self : goal.invariant_of-self
invariant_of-self c =
    let a = c.self.inside in
    let s = c.args.slot in
    let ws = a.entries.items in
    record {
      agree = rw (c.forget_marks.ensures, c.forget_given.ensures.rows, queued-but s ws, rows-but s a.given.items) (agree_but a.shape a.commit a.committed s (all_queued ws) a.writers (slots_in a.given.items) c.self.invariant.agree);
      sources = rw (c.forget_marks.ensures, queued-but s ws, actions-but s (all_queued ws)) c.self.invariant.sources;
      room = record {
        limit = c.self.invariant.room.limit;
        marks = rw (c.forget_marks.ensures, marks-but s ws) (rooms-but a.room s (marks_of ws) c.self.invariant.room.marks);
        given = rw c.forget_given.ensures.rows (rooms-but a.room s a.given.items c.self.invariant.room.given);
      };
      cover = rw (c.forget_given.ensures.rows, c.forget_given.ensures.blocks) (blocks-but a.room s a.given.items a.blocks.items c.self.invariant.cover);
    }

pub returns : goal.returns
returns c =
    let a = c.self.inside in
    let s = c.args.slot in
    ap₂ (λ (es : List Queued) (given : List (ℕ × ℕ)). record (model_of a) { entries = es; given = given })
    (ap all_queued c.forget_marks.ensures ∙ queued-but s a.entries.items)
    (rw (c.forget_given.ensures.rows, rows-but s a.given.items) (pairs_of-but a.shape.objects s (slots_in a.given.items) c.self.invariant.agree.given))
    ∙ ap (λ (v : QueueView). without_slot v s) c.self.view_is
