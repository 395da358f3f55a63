-- What is proved by hand of `Watch::tell_each`.
use Rattle.std.proofs.Common.{◌≡◌, ◌+◌, ◌∷◌, [], ◌++◌, take, map, refl, ap, sym, ◌∙◌, append_assoc}
use Rattle.std.proofs.lemmas.List.{map_more}
use Rattle.sv_watch.specs.Told.{change_line}
use Rattle.sv_watch.proofs.watch.Watch.tell_each.Goals as goal

pub loop-change-preserved : goal.loop-change-preserved
loop-change-preserved g c =
    let i = c.loop-change.change-index in
    let x = c.change-item.result in
    let lines = c.args.lines.now.items in
    let told = map change_line (take i c.args.changes.now) in
    let more : map change_line (take (i + 1) c.args.changes.now) ≡ told ++ change_line x ∷ [] =
    map_more change_line c.args.changes.now i x c.loop-change-test.true ∙ ap (λ y. told ++ change_line y ∷ []) (sym c.change-item.is) in
    c.in_ok-push.ensures.items
    ∙ ap (λ l. l ++ c.in_ok-line_of.field-0 ∷ []) c.loop-change.invariant
    ∙ ap (λ y. (lines ++ told) ++ y ∷ []) (c.in_ok-line_of.ensures _ refl)
    ∙ append_assoc lines told (change_line x ∷ [])
    ∙ ap (λ l. lines ++ l) (sym more)
