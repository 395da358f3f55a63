-- What the check leaves to prove of `add_all`.
use Rattle.std.proofs.Common.{List, sym, ap, ◌∙◌}
use Rattle.std.specs.Vec.Iter.{into_iter_items}
use Rattle.sv_wire.specs.declared.message.Done1.{Done1}
use Rattle.sv_journal.specs.History.{reported}
use Rattle.sv_witness.specs.Kept.{kept_at, HasRoomFor, with_values}
use Rattle.sv_witness.proofs.KeptRows.{once-first, each-first, room-others, values-next}
use Rattle.sv_witness.proofs.reports.add_all.Goals as goal

pub add_result-requires : goal.add_result-requires
add_result-requires c =
    (each-first (λ (d : Done1). HasRoomFor c.loop-found.reports d.pos) c.in-Some.found (into_iter_items c.loop-found.left) (into_iter_items c.next.new.self)
    c.in-Some.ensures.items c.loop-found.invariant.room).0

pub loop-found-preserved : goal.loop-found-preserved
loop-found-preserved c =
    let old = c.loop-found.reports in
    let new = c.add_result.new.reports in
    let d = c.in-Some.found in
    let all = into_iter_items c.loop-found.left in
    let rest = into_iter_items c.next.new.self in
    let once = once-first d all rest c.in-Some.ensures.items c.loop-found.invariant.once in
    let room = each-first (λ (x : Done1). HasRoomFor old x.pos) d all rest c.in-Some.ensures.items c.loop-found.invariant.room in
    record {
      kept = λ p.
          values-next old new c.args.client d rest once.0 c.add_result.ensures.added c.add_result.ensures.others p
          ∙ ap (λ (ds : List Done1). with_values c.args.client (reported p ds) (kept_at old p)) (sym c.in-Some.ensures.items) ∙ c.loop-found.invariant.kept p;
      once = once.1;
      room = room-others old new d.pos c.add_result.ensures.others rest once.0 room.1;
    }
