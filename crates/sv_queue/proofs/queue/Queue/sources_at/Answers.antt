-- What the check leaves to prove of `Queue::sources_at`.
use Rattle.std.proofs.Common.{ℕ, ◌<◌, length, get_or, sym, ◌∙◌, ap, subst, arith}
use Rattle.std.proofs.lemmas.List.{length-set, length-map}
use Rattle.sv_world.specs.declared.world.ObjectId.{ObjectId}
use Rattle.sv_world.specs.Control.{last_writer}
use Rattle.sv_world.specs.Sets.{read_set}
use Rattle.sv_queue.specs.Queue.{queue_actions}
use Rattle.sv_queue.proofs.SourceLists.{read_at, found-set}
use Rattle.sv_queue.proofs.queue.Queue.sources_at.Goals as goal

pub loop-slot-init : goal.loop-slot-init
loop-slot-init c = record { count = ap length c.new-sources.ensures; found = λ k low. absurd (omega arith) }

pub writer_below-requires : goal.writer_below-requires
writer_below-requires c =
    let slot : c.loop-slot.slot < length c.args.action.now.reads = omega (arith, c.loop-slot-test.true, c.len-slot-end.ensures) in
    let m : c.loop-slot.slot < length (read_set c.args.action.now) = omega (arith, slot, length-map c.args.action.now.reads (λ (o : ObjectId). o.0)) in
    subst (λ (x : ℕ). x < c.args.self.now.shape.objects) (read_at c.args.action.now c.as_slice.result.now c.loop-slot.slot record { 0 = 0 } c.as_slice.ensures slot)
    (c.requires.objects c.loop-slot.slot 0 m)

pub loop-slot-preserved : goal.loop-slot-preserved
loop-slot-preserved c =
    let slot : c.loop-slot.slot < length c.args.action.now.reads = omega (arith, c.loop-slot-test.true, c.len-slot-end.ensures) in
    let within : c.loop-slot.slot < length c.loop-slot.sources = omega (arith, c.loop-slot.invariant.count, slot, c.requires.few_reads) in
    let is = read_at c.args.action.now c.as_slice.result.now c.loop-slot.slot record { 0 = 0 } c.as_slice.ensures slot in
    record {
      count = ap length c.set.ensures ∙ length-set c.loop-slot.sources c.loop-slot.slot c.writer_below.result ∙ c.loop-slot.invariant.count;
      found = found-set (λ k. last_writer (queue_actions c.args.self.now) (get_or (read_set c.args.action.now) k 0) c.args.pos) c.loop-slot.sources c.set.new.self c.loop-slot.slot c.writer_below.result
          c.set.ensures within (c.writer_below.ensures ∙ ap (λ x. last_writer (queue_actions c.args.self.now) x c.args.pos) (sym is)) c.loop-slot.invariant.found;
    }

pub returns : goal.returns
returns c = λ k low. c.loop-slot.invariant.found k (omega (arith, c.loop-slot-test.false, c.len-slot-end.ensures))
