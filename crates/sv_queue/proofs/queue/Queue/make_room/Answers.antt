-- What the check leaves to prove of `Queue::make_room`.
use Rattle.std.proofs.Common.{◌≤◌, ℕ, List, ◌∙◌, ap, ap₂, arith}
use Rattle.sv_queue.specs.Invariant.{model_of}
use Rattle.sv_queue.specs.Marks.{marks_of}
use Rattle.sv_queue.specs.Pairs.{pairs_of}
use Rattle.sv_queue.specs.Queue.{Queued, QueueView}
use Rattle.sv_queue.proofs.Blocks.{blocks-grown, blocks-kept}
use Rattle.sv_queue.proofs.Waits.{on_err, grown-same, rooms-grown, rooms-kept, slots-grown}
use Rattle.sv_queue.proofs.queue.Queue.make_room.Goals as goal

pub invariant_of-self : goal.invariant_of-self
invariant_of-self c =
    let a = c.self.inside in
    record {
      agree = rw c.make_marks_room.ensures.queued c.self.invariant.agree;
      sources = rw c.make_marks_room.ensures.queued c.self.invariant.sources;
      room = record {
        limit = c.self.invariant.room.limit;
        marks = rooms-kept a.room (marks_of a.entries.items) (marks_of c.make_marks_room.new.entries.items) c.make_marks_room.ensures.grown c.self.invariant.room.marks;
        given = c.self.invariant.room.given;
      };
      cover = c.self.invariant.cover;
    }

pub invariant_of-self-in_err-make_given_room : goal.invariant_of-self-in_err-make_given_room
invariant_of-self-in_err-make_given_room c =
    let a = c.self.inside in
    let blocks = c.make_given_room.new.rows.items in
    record {
      agree = rw c.make_marks_room.ensures.queued c.self.invariant.agree;
      sources = rw c.make_marks_room.ensures.queued c.self.invariant.sources;
      room = record {
        limit = c.self.invariant.room.limit;
        marks = rooms-kept a.room (marks_of a.entries.items) (marks_of c.make_marks_room.new.entries.items) c.make_marks_room.ensures.grown c.self.invariant.room.marks;
        given = c.self.invariant.room.given;
      };
      cover = blocks-kept a.room a.given.items a.given.items a.blocks.items blocks c.self.invariant.cover (grown-same a.given.items) c.make_given_room.ensures.grown;
    }

pub invariant_of-self-in_err-make_given_room-2 : goal.invariant_of-self-in_err-make_given_room-2
invariant_of-self-in_err-make_given_room-2 c =
    let a = c.self.inside in
    let rows = c.make_given_room-2.new.rows.items in
    record {
      agree = rw (c.make_marks_room.ensures.queued, slots-grown a.given.items rows c.make_given_room-2.ensures.grown) c.self.invariant.agree;
      sources = rw c.make_marks_room.ensures.queued c.self.invariant.sources;
      room = record {
        limit = c.self.invariant.room.limit;
        marks = rooms-kept a.room (marks_of a.entries.items) (marks_of c.make_marks_room.new.entries.items) c.make_marks_room.ensures.grown c.self.invariant.room.marks;
        given = rooms-kept a.room a.given.items rows c.make_given_room-2.ensures.grown c.self.invariant.room.given;
      };
      cover = blocks-kept a.room a.given.items rows a.blocks.items c.make_given_room.new.rows.items c.self.invariant.cover c.make_given_room-2.ensures.grown c.make_given_room.ensures.grown;
    }

pub returns-in_err-make_given_room-2-clause-err : goal.returns-in_err-make_given_room-2-clause-err
returns-in_err-make_given_room-2-clause-err c =
    let a = c.self.inside in
    on_err c.from_residual-in_err-make_given_room-2.result
    (ap₂ (λ (es : List Queued) (rows : List (List ℕ)). record (model_of a) { entries = es; given = pairs_of a.shape.objects rows })
    c.make_marks_room.ensures.queued (slots-grown a.given.items c.make_given_room-2.new.rows.items c.make_given_room-2.ensures.grown)
    ∙ c.self.view_is)

pub invariant_of-self-2 : goal.invariant_of-self-2
invariant_of-self-2 c =
    let a = c.self.inside in
    let rows = c.make_given_room-2.new.rows.items in
    let more : a.room ≤ c.min-room.result = omega (arith, c.min-room.ensures, c.max.ensures, c.if-slots-self.false, c.requires) in
    record {
      agree = rw (c.make_marks_room.ensures.queued, slots-grown a.given.items rows c.make_given_room-2.ensures.grown) c.self.invariant.agree;
      sources = rw c.make_marks_room.ensures.queued c.self.invariant.sources;
      room = record {
        limit = omega (arith, c.min-room.ensures);
        marks = rooms-grown a.room c.min-room.result (marks_of a.entries.items) (marks_of c.make_marks_room.new.entries.items) c.make_marks_room.ensures.grown c.self.invariant.room.marks more c.in_ok-make_marks_room.ensures.ok;
        given = rooms-grown a.room c.min-room.result a.given.items rows c.make_given_room-2.ensures.grown c.self.invariant.room.given more c.in_ok-make_given_room-2.ensures.ok;
      };
      cover = blocks-grown a.room c.min-room.result a.given.items rows a.blocks.items c.make_given_room.new.rows.items c.self.invariant.cover c.make_given_room-2.ensures.grown c.make_given_room.ensures.grown c.in_ok-make_given_room.ensures.ok;
    }

pub returns-clause-ok : goal.returns-clause-ok
returns-clause-ok c =
    let a = c.self.inside in
    let room = c.min-room.result in (
      omega (arith, c.min-room.ensures, c.max.ensures, c.if-slots-self.false, c.requires),
      ap₂ (λ (es : List Queued) (rows : List (List ℕ)). record (model_of a) { room = room; entries = es; given = pairs_of a.shape.objects rows })
          c.make_marks_room.ensures.queued (slots-grown a.given.items c.make_given_room-2.new.rows.items c.make_given_room-2.ensures.grown)
          ∙ ap (λ (v : QueueView). record v { room = room }) c.self.view_is,
    )
