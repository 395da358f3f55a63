-- What the check leaves to prove of `want_writers`.
use Rattle.std.proofs.Common.{◌≡◌, ◌+◌, List, length, drop, get_or, ◌∙◌, ap, arith}
use Rattle.std.proofs.lemmas.List.{length-map}
use Rattle.sv_world.specs.declared.world.ObjectId.{ObjectId}
use Rattle.sv_world.specs.Sets.{read_set}
use Rattle.sv_queue.specs.Queue.{queue_actions}
use Rattle.sv_influence.proofs.Chains.{writers_of-step, writers_of-end}
use Rattle.sv_influence.proofs.ReadSets.{read_low, read_at}
use Rattle.sv_influence.proofs.influence.want_writers.Goals as goal

pub last_writer-writer-requires : goal.last_writer-writer-requires
last_writer-writer-requires g c =
    read_low c.args.queue.now.shape.objects c.args.action.now c.as_slice-object-items.result.now c.loop-object.object-index record { 0 = 0 } c.loop-object.invariant.items c.requires c.loop-object-test.true

pub loop-object-preserved : goal.loop-object-preserved
loop-object-preserved g c =
    let A = queue_actions c.args.queue.now in
    let items = c.as_slice-object-items.result.now in
    let k = c.loop-object.object-index in
    let o = (get_or items k record { 0 = 0 }).0 in
    record {
      items = c.loop-object.invariant.items;
      added = λ j.
          writers_of-step A c.args.pos o c.last_writer-writer.result (drop (k + 1) (read_set c.args.action.now)) (drop k (read_set c.args.action.now)) c.loop-object.wanted c.add_writer.new.self
          (read_at c.args.action.now items k record { 0 = 0 } c.loop-object.invariant.items c.loop-object-test.true) c.last_writer-writer.ensures.writer c.in_ok-add_writer.ensures.added j
          ∙ c.loop-object.invariant.added j;
    }

pub returns : goal.returns
returns g c = λ j.
    writers_of-end (queue_actions c.args.queue.now) c.args.pos (read_set c.args.action.now) c.loop-object.wanted c.loop-object.object-index j
    (let e = c.loop-object.invariant.items in
    let l : length c.as_slice-object-items.result.now ≡ length c.args.action.now.reads = ap (λ (os : List ObjectId). length os) e in
    let m = length-map c.args.action.now.reads (λ (o : ObjectId). o.0) in
    omega arith)
    ∙ c.loop-object.invariant.added j
