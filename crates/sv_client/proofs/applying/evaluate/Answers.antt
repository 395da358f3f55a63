-- What is proved by hand of `evaluate`.
use Rattle.std.proofs.Common.{◌++◌, List, ap, ◌∙◌}
use Rattle.sv_wire.specs.declared.message.Done1.{Done1}
use Rattle.sv_client.specs.Traces.{head_held, results_of}
use Rattle.sv_client.proofs.applying.evaluate.Goals as goal

pub returns-clause-evaluated : goal.returns-clause-evaluated
returns-clause-evaluated c = λ told all a l.
    let brought = c.args.brought.now in
    let head = c.in_ok-hold_head.ensures.held told all a in
    let held = all ++ head_held brought.commit brought.head.now in
    let items = c.in_ok-evaluate_items.ensures.evaluated told held head l in
    let results = c.from_vec.ensures ∙ items.1 ∙ ap (λ (ds : List Done1). ds ++ results_of held brought.items.now) c.in_ok-results.ensures.items in
    (items.0, results, items.2)
