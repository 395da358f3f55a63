-- What is proved by hand of `evaluate_item`.
use Rattle.std.proofs.Common.{◌<◌, ◌∙◌, ◌++◌, List, option_map, sym, ap, subst}
use Rattle.std.specs.Prelude.{ℤ}
use Rattle.sv_world.specs.declared.world.ObjectId.{ObjectId}
use Rattle.sv_world.specs.Sets.{numbers_of}
use Rattle.sv_eval.specs.Evaluation.{effect_of}
use Rattle.sv_eval.proofs.Masks.{at_mask_all}
use Rattle.sv_versions.specs.Held.{AnswersAbove}
use Rattle.sv_client.specs.Traces.{held_at}
use Rattle.sv_client.specs.Taking.{first_unheld}
use Rattle.sv_client.specs.Evaluating.{AreWithin, values_below}
use Rattle.sv_client.proofs.Items.{item_done}
use Rattle.sv_client.proofs.evaluating.evaluate_item.Goals as goal

pub hold_values-requires : goal.hold_values-requires
hold_values-requires c =
    let n = c.args.versions.now.shape.objects in
    let action = c.args.item.now.action in
    subst (AreWithin n) (sym (c.as_slice.ensures ∙ c.in_ok-written.ensures.objects)) (at_mask_all (λ (o : ObjectId). o.0 < n) action.mask 0 action.reads c.requires)

pub returns-clause-evaluated : goal.returns-clause-evaluated
returns-clause-evaluated c =
    let item = c.args.item.now in
    let kept = c.args.versions.now.held in
    let missing = ap (λ (os : List ObjectId). first_unheld kept item.pos (numbers_of os)) (sym c.as_slice-reads.ensures) ∙ sym c.first_unheld.ensures ∙ ap (option_map (λ (o : ObjectId). o.0)) c.in_default.is in
    let values = c.in_ok-values.ensures ∙ ap (λ (os : List ObjectId). values_below kept item.pos (numbers_of os)) c.as_slice-reads.ensures in
    let writes = ap (λ o. o.writes) c.in_ok-outcome.ensures.exact ∙ ap (λ (vs : List (List ℤ)). (effect_of item.action vs).writes) c.deref.ensures.value in
    λ told all a l.
    let held = subst (λ (vs : List (List ℤ)). AnswersAbove told c.hold_values.new.versions.held (all ++ held_at item.pos (numbers_of c.in_ok-written.written) vs)) c.as_slice-2.ensures
    (subst (λ (os : List ObjectId). AnswersAbove told c.hold_values.new.versions.held (all ++ held_at item.pos (numbers_of os) c.as_slice-2.result.now)) c.as_slice.ensures (c.in_ok-hold_values.ensures.held told all a)) in
    item_done told kept all c.hold_values.new.versions.held item c.in_ok-written.written c.in_ok-values.values.items c.in_ok-outcome.outcome.writes a l missing values writes c.in_ok-written.ensures.numbers held
