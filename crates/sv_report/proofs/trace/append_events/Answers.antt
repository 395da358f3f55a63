-- What is proved by hand of `append_events`.
use Rattle.std.proofs.Common.{ℕ, ◌+◌, List, ◌++◌, reverse, drop, string_bytes, refl, sym, ap, subst, ◌∙◌}
use Rattle.std.proofs.lemmas.List.{append-nil, at_drop_all}
use Rattle.sv_client.specs.declared.trace.Event.{Event}
use Rattle.sv_client.specs.Taking.{Identity}
use Rattle.sv_client.specs.Proper.{AreProper}
use Rattle.sv_report.specs.Report.{event_lines}
use Rattle.sv_report.specs.Again.{all_raised, lines_after}
use Rattle.sv_report.proofs.Lines.{lines_are}
use Rattle.sv_report.proofs.Doing.{may_do}
use Rattle.sv_report.proofs.Standing.{Stands, begins, stands_at, goes_on, told_on}
use Rattle.sv_report.proofs.trace.append_events.Goals as goal

pub loop-event-init : goal.loop-event-init
loop-event-init c =
    let entries = c.args.entries.now in
    let first = c.args.trace.now.first in
    let who = c.args.client.now.who in
    let es = c.as_slice-events.result.now in
    let proper = subst (λ (xs : List Event). AreProper who first (reverse xs)) (sym c.as_slice-events.ensures) c.requires.proper in
    record {
      who = refl;
      stands = subst (λ (xs : List Event). Stands entries first who (all_raised first xs) 0 es) (sym c.requires.start) (begins entries first who es proper);
      text = ap (λ (xs : List Event). string_bytes c.args.out.now ++ lines_after entries (all_raised first xs) es) c.requires.start;
    }

pub tell_again-requires : goal.tell_again-requires
tell_again-requires c =
    let l = c.loop-event in
    let first = c.args.trace.now.first in
    let here = stands_at c.args.entries.now first l.client.who (all_raised first l.client.events) c.as_slice-events.result.now l.place l.event-index c.event-item.result
    c.loop-event-test.true c.event-item.is l.invariant.stands in
    may_do first l.client.who l.client.events c.event-item.result here.after.0

pub loop-event-preserved : goal.loop-event-preserved
loop-event-preserved c =
    let l = c.loop-event in
    let entries = c.args.entries.now in
    let first = c.args.trace.now.first in
    let es = c.as_slice-events.result.now in
    let e = c.event-item.result in
    let done = c.in_ok-tell_again.ensures in
    let u = c.tell_again.new.client.events in
    let left = drop (l.event-index + 1) es in
    let here = stands_at entries first l.client.who (all_raised first l.client.events) es l.place l.event-index e c.loop-event-test.true c.event-item.is l.invariant.stands in
    record {
      who = done.who ∙ l.invariant.who;
      stands = subst (λ (w : Identity). Stands entries first w (all_raised first u) c.next_for-next.result.behind left) (sym done.who)
          (subst (λ (p : ℕ). Stands entries first l.client.who (all_raised first u) p left) (sym c.next_for-next.ensures.behind)
          (goes_on entries first l.client.who l.client.events u left l.place e here done.events));
      text = told_on entries first l.client.who l.client.events u es l.place c.next_for-next.result.number l.event-index e
          (string_bytes l.out) (string_bytes c.tell_again.new.out) _ c.loop-event-test.true c.event-item.is l.invariant.stands
          c.next_for-next.ensures.number done.events done.line l.invariant.text;
    }

pub returns : goal.returns
returns c =
    let l = c.loop-event in
    let entries = c.args.entries.now in
    let first = c.args.trace.now.first in
    let es = c.as_slice-events.result.now in
    let ended = at_drop_all (λ (xs : List Event). string_bytes l.out ++ lines_after entries (all_raised first l.client.events) xs) es l.event-index c.loop-event-test.false in
    sym (append-nil (string_bytes l.out)) ∙ sym ended ∙ l.invariant.text
    ∙ ap (λ (xs : List ℕ). string_bytes c.args.out.now ++ xs) (sym (lines_are entries es))
    ∙ ap (λ (xs : List Event). string_bytes c.args.out.now ++ event_lines entries (reverse xs)) c.as_slice-events.ensures
