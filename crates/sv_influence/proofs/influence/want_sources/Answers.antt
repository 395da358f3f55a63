-- What the check leaves to prove of `want_sources`.
use Rattle.std.proofs.Common.{◌+◌, ◌<◌, length, drop, get_or, sym, ◌∙◌, ap, arith}
use Rattle.std.proofs.lemmas.List.{drop_more, length-map}
use Rattle.sv_world.specs.declared.action.Action.{Action}
use Rattle.sv_world.specs.declared.world.ObjectId.{ObjectId}
use Rattle.sv_world.specs.Control.{last_writer}
use Rattle.sv_world.specs.Sets.{read_set}
use Rattle.sv_queue.specs.Queue.{queue_actions}
use Rattle.sv_influence.proofs.Chains.{writers_of-step, writers_of-end}
use Rattle.sv_influence.proofs.influence.want_sources.Goals as goal

pub loop-slot-preserved : goal.loop-slot-preserved
loop-slot-preserved g c = λ j.
    let A = queue_actions c.args.queue.now in
    let k = c.loop-slot.slot in
    let reads = read_set c.args.action.now in
    let m = length-map c.args.action.now.reads (λ (o : ObjectId). o.0) in
    let l : k < length reads = omega arith in
    writers_of-step A c.args.pos (get_or reads k 0) c.source-writer.result (drop (k + 1) reads) (drop k reads) c.loop-slot.wanted c.add_writer.new.self
    (drop_more reads k 0 l) (c.source-writer.ensures.writer ∙ ap (λ (a : Action). last_writer A (get_or (read_set a) k 0) c.args.pos) (sym c.requires.placed)) c.in_ok-add_writer.ensures.added j
    ∙ c.loop-slot.invariant j

pub returns : goal.returns
returns g c = λ j.
    writers_of-end (queue_actions c.args.queue.now) c.args.pos (read_set c.args.action.now) c.loop-slot.wanted c.loop-slot.slot j
    (let m = length-map c.args.action.now.reads (λ (o : ObjectId). o.0) in omega arith)
    ∙ c.loop-slot.invariant j
