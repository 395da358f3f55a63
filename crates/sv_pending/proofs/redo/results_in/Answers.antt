-- What is proved by hand of `results_in`.
use Rattle.std.proofs.Common.{◌≡◌, ◌<◌, ◌≤◌, List, length, get_or, refl, sym, ap, subst, ◌∙◌, arith}
use Rattle.std.proofs.lemmas.List.{length_push, drop_all}
use Rattle.sv_pending.specs.Pending.{PendingAction, kept_of, redone_after}
use Rattle.sv_pending.specs.Made.{paired, IsWholeResult}
use Rattle.sv_pending.specs.declared.made.Made.{Made}
use Rattle.sv_pending.proofs.Overlays.{redo_more, whole_more, whole_none, paired_none, length-paired}
use Rattle.sv_pending.proofs.redo.results_in.Goals as goal

pub loop-next-preserved : goal.loop-next-preserved
loop-next-preserved c =
    let held = c.args.versions.now.held in
    let ms = c.args.made.now in
    let done = c.loop-next.done.items in
    let k = c.in_ok-kept.kept in
    let m = c.next-item.result in
    let long : length done ≡ c.loop-next.next-index = c.loop-next.invariant.0 in
    let short : length done < length ms = omega (arith, c.loop-next-test.true) in
    let here : m ≡ get_or ms (length done) m = c.next-item.is ∙ ap (λ i. get_or ms i m) (sym long) in
    let kept = rw c.deref.ensures.value at c.in_ok-kept.ensures.kept in
    let kept_there : k ≡ kept_of held (paired ms done) (get_or ms (length done) m).action = kept ∙ ap (λ (n : Made). kept_of held (paired ms done) n.action) here in
    let whole : IsWholeResult (get_or ms (length done) m).action k = subst (λ (n : Made). IsWholeResult n.action k) here c.in_ok-kept.ensures.whole in
    rw (c.in_ok-push.ensures.items, length_push done k) (
      omega arith,
      whole_more ms done k m short c.loop-next.invariant.1 whole,
      λ ks l. sym (redo_more held ms ks done k m l short kept_there) ∙ c.loop-next.invariant.2 ks l,
    )

pub loop-next-init : goal.loop-next-init
loop-next-init c =
    let held = c.args.versions.now.held in
    let ms = c.args.made.now in
    rw c.in_ok-done.ensures.items (refl, whole_none ms, λ ks l. ap (λ (ps : List PendingAction). redone_after held ps (paired ms ks)) (paired_none ms))

pub returns-clause-redone : goal.returns-clause-redone
returns-clause-redone c = λ ks l.
    let held = c.args.versions.now.held in
    let ms = c.args.made.now in
    let done = c.loop-next.done.items in
    let all_done : length (paired ms ks) ≤ length done = omega (arith, length-paired ms ks l, c.loop-next-test.false, c.loop-next.invariant.0) in
    sym (ap (λ (ps : List PendingAction). redone_after held (paired ms done) ps) (drop_all (length done) (paired ms ks) all_done))
    ∙ c.loop-next.invariant.2 ks l
