-- What is proved by hand of `evaluate_items`.
use Rattle.std.proofs.Common.{◌++◌, ◌<◌, ◌-◌, List, length, drop, take, sym, subst, arith}
use Rattle.std.proofs.lemmas.List.Elements.{All-head, All-tail}
use Rattle.sv_wire.specs.declared.message.Item.{Item}
use Rattle.sv_client.specs.Traces.{item_held}
use Rattle.sv_client.specs.Evaluating.{ItemsAreAbove, AreEvaluated}
use Rattle.sv_client.proofs.Items.{items_more, front_is}
use Rattle.sv_client.proofs.evaluating.+evaluate_items.Goals as goal

pub returns-clause-evaluated : goal.returns-clause-evaluated
returns-clause-evaluated t c = λ told all a l.
    let item = c.item-item.result in
    let items = c.args.items.now in
    let rest = take (length items - 1) (drop 1 items) in
    let whole = front_is items item (omega arith) c.item-item.is in
    let above = subst (ItemsAreAbove told) whole l in
    let low = All-head (λ (i : Item). told < i.pos) item rest above in
    let between = c.evaluate_item.new.versions.held in
    let first = c.in_ok-values.ensures.evaluated told all a low in
    let others = c.evaluate_items.ensures.evaluated told (all ++ item_held all item) first.2 (All-tail (λ (i : Item). told < i.pos) item rest above) in
    subst (λ (xs : List Item). AreEvaluated told all xs c.args.results.now.items c.evaluate_items.new.results.items c.evaluate_items.result c.evaluate_items.new.versions.held) (sym whole)
    (items_more told all between c.evaluate_items.new.versions.held item rest c.in_ok-values.values c.args.results.now.items _ c.evaluate_items.new.results.items c.evaluate_items.result first c.in_ok-push.ensures.items others)
