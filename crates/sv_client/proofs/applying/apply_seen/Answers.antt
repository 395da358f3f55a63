-- What is proved by hand of `apply_seen`.
use Rattle.std.proofs.Common.{◌++◌, ◌∙◌, suc, List, ℕ, None, Some, ap, sym, subst}
use Rattle.std.proofs.lemmas.Result.{err_from_is_err_and}
use Rattle.sv_client.specs.Traces.{head_held}
use Rattle.sv_client.specs.Taking.{first_unheld, missing_at, observed_by}
use Rattle.sv_client.specs.Evaluating.{IsMissing}
use Rattle.sv_client.proofs.Applies.{seen_applied, seen_misses, item_misses}
use Rattle.sv_client.proofs.applying.apply_seen.Goals as goal

pub returns-in_err-results-clause-applied : goal.returns-in_err-results-clause-applied
returns-in_err-results-clause-applied c = λ told all a l low.
    let seen = c.args.seen.now in
    let failed = err_from_is_err_and c.from_residual.result c.from_residual.ensures.1 in
    rw (failed.1, failed.2)
    (item_misses (all ++ head_held seen.commit seen.head.now) seen.items.now c.args.last (observed_by (Some c.args.awaited.now)) c.in_err-results.field-0.0 (c.in_err-results.ensures.evaluated told all a l))

pub returns-in_err-look_for-clause-applied : goal.returns-in_err-look_for-clause-applied
returns-in_err-look_for-clause-applied c = λ told all a l low.
    let seen = c.args.seen.now in
    let kept = c.evaluate.new.versions.held in
    let fault = c.in_err-look_for.field-0.0 in
    let brought = c.in_ok-results.ensures.evaluated told all a l in
    let failed = err_from_is_err_and c.from_residual-in_err-look_for.result c.from_residual-in_err-look_for.ensures.1 in
    let missing = subst (λ (xs : List ℕ). IsMissing (missing_at (suc c.args.last) (first_unheld kept (suc c.args.last) xs) None) fault) c.observed_by.ensures.numbers c.in_err-look_for.ensures in
    rw (failed.1, failed.2)
    (seen_misses told kept (all ++ head_held seen.commit seen.head.now) seen.items.now c.args.last (observed_by (Some c.args.awaited.now)) fault brought.2 low brought.0 missing)

pub returns-clause-applied : goal.returns-clause-applied
returns-clause-applied c = λ told all a l low.
    let seen = c.args.seen.now in
    let kept = c.evaluate.new.versions.held in
    let brought = c.in_ok-results.ensures.evaluated told all a l in
    let sought = ap (λ (xs : List ℕ). first_unheld kept (suc c.args.last) xs) (sym c.observed_by.ensures.numbers) ∙ c.in_ok-look_for.ensures in
    seen_applied told c.args.last seen.commit all kept (Some c.args.awaited.now) seen.head.now seen.items.now c.in_ok-results.results c.args.pending.now.items c.reconcile_by.new.pending.items c.done_of.result brought.2 low brought.0 sought brought.1 c.in_ok-reconcile_by.ensures.items c.done_of.ensures
