-- One event more.
use Rattle.std.proofs.Common.{◌+◌, List, [], ◌++◌, reverse, drop, refl, sym, ap, subst, ◌∙◌}
use Rattle.std.proofs.lemmas.List.{append-nil, at_drop_all}
use Rattle.sv_world.specs.Sets.{numbers_of}
use Rattle.sv_client.specs.declared.trace.Event.{Event}
use Rattle.sv_client.specs.Traces.{held_of}
use Rattle.sv_client.specs.Taking.{Identity, observed_now}
use Rattle.sv_client.specs.Proper.{AreProper, MayFollow}
use Rattle.sv_client.specs.Evaluating.{AreWithin}
use Rattle.sv_report.specs.Again.{MayComeAfter, all_raised}
use Rattle.sv_report.proofs.Doing.{may_do}
use Rattle.sv_report.proofs.Standing.{begins, left_more}
use Rattle.sv_looks.specs.declared.snapshot.Snapshot.{Snapshot}
use Rattle.sv_looks.specs.Snapshots.{snapshot_by, snapshots_in}
use Rattle.sv_looks.specs.Again.{IsReadable, snapshots_after}
use Rattle.sv_looks.proofs.Readable.{readable}
use Rattle.sv_looks.proofs.Telling.{told_are, goes_on, told_on}
use Rattle.sv_looks.proofs.taking.append_told.Goals as goal

pub loop-event-init : goal.loop-event-init
loop-event-init c =
    let first = c.args.trace.now.first in
    let who = c.args.client.now.who in
    let es = c.as_slice-events.result.now in
    let proper = subst (λ (xs : List Event). AreProper who first (reverse xs)) (sym c.as_slice-events.ensures) c.requires.proper in
    record {
      who = refl;
      after = subst (λ (xs : List Event). MayComeAfter who first (all_raised first xs) es) (sym c.requires.start) (begins [] first who es proper).after;
      told = ap (λ (xs : List Event). c.args.snapshots.now.items ++ snapshots_after who (all_raised first xs) es) c.requires.start;
    }

pub do_again-requires : goal.do_again-requires
do_again-requires c =
    let l = c.loop-event in
    let first = c.args.trace.now.first in
    let e = c.event-item.result in
    let es = c.as_slice-events.result.now in
    let after = subst (λ xs. MayComeAfter l.client.who first (all_raised first l.client.events) xs) (left_more es l.event-index e c.loop-event-test.true c.event-item.is) l.invariant.after in
    may_do first l.client.who l.client.events e after.0

pub snapshot_by-requires-clause-objects : goal.snapshot_by-requires-clause-objects
snapshot_by-requires-clause-objects c =
    let who = c.loop-event.client.who in
    let copy = c.as_slice.ensures ∙ c.in_ok-observed.ensures in
    subst (λ (w : Identity). AreWithin w.shape.objects c.as_slice.result.now) (sym c.in_ok-do_again.ensures.who)
    (subst (AreWithin who.shape.objects) (sym copy) c.observed.ensures.within)

pub snapshot_by-requires-clause-readable : goal.snapshot_by-requires-clause-readable
snapshot_by-requires-clause-readable c =
    let l = c.loop-event in
    let first = c.args.trace.now.first in
    let e = c.event-item.result in
    let es = c.as_slice-events.result.now in
    let done = c.in_ok-do_again.ensures in
    let after = subst (λ xs. MayComeAfter l.client.who first (all_raised first l.client.events) xs) (left_more es l.event-index e c.loop-event-test.true c.event-item.is) l.invariant.after in
    let mine = readable l.client.who l.client.events e (may_do first l.client.who l.client.events e after.0) in
    subst (λ (w : Identity). IsReadable w c.do_again.new.client.events e) (sym done.who)
    (subst (λ (xs : List Event). IsReadable l.client.who xs e) (sym done.events) mine)

pub loop-event-preserved : goal.loop-event-preserved
loop-event-preserved c =
    let l = c.loop-event in
    let first = c.args.trace.now.first in
    let e = c.event-item.result in
    let es = c.as_slice-events.result.now in
    let done = c.in_ok-do_again.ensures in
    let u = c.do_again.new.client.events in
    let rest = drop (l.event-index + 1) es in
    let left = left_more es l.event-index e c.loop-event-test.true c.event-item.is in
    let after = subst (λ xs. MayComeAfter l.client.who first (all_raised first l.client.events) xs) left l.invariant.after in
    let who = c.args.client.now.who in
    let shown = numbers_of c.as_slice.result.now in
    let seen = ap numbers_of (c.as_slice.ensures ∙ c.in_ok-observed.ensures) ∙ c.observed.ensures.numbers
    ∙ ap (λ (w : Identity). observed_now w l.client.events) l.invariant.who in
    record {
      who = done.who ∙ l.invariant.who;
      after = subst (λ (w : Identity). MayComeAfter w first (all_raised first u) rest) (sym done.who) (goes_on first l.client.who l.client.events u rest e after done.events);
      told = told_on first who l.client.events u rest e shown l.snapshots.items c.push_some.new.snapshots.items _ c.in_ok-more.more
          (subst (λ (w : Identity). MayFollow w first (all_raised first l.client.events) e) l.invariant.who after.0) done.events seen
          (c.in_ok-more.ensures ∙ ap (λ (w : Identity). snapshot_by w.client (held_of u) shown e) (done.who ∙ l.invariant.who)) c.in_ok-push_some.ensures
          (sym (ap (λ (xs : List Event). l.snapshots.items ++ snapshots_after who (all_raised first l.client.events) xs) left) ∙ l.invariant.told);
    }

pub returns : goal.returns
returns c =
    let l = c.loop-event in
    let first = c.args.trace.now.first in
    let es = c.as_slice-events.result.now in
    let who = c.args.client.now.who in
    let ended = at_drop_all (λ (xs : List Event). l.snapshots.items ++ snapshots_after who (all_raised first l.client.events) xs) es l.event-index c.loop-event-test.false in
    sym (append-nil l.snapshots.items) ∙ sym ended ∙ l.invariant.told
    ∙ ap (λ (xs : List Snapshot). c.args.snapshots.now.items ++ xs) (sym (told_are who es))
    ∙ ap (λ (xs : List Event). c.args.snapshots.now.items ++ snapshots_in who (reverse xs)) c.as_slice-events.ensures
