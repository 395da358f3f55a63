-- One snapshot more is told.
use Rattle.std.proofs.Common.{◌≡◌, ◌+◌, ◌∷◌, [], ◌++◌, take, map, refl, ap, sym, ◌∙◌, append_assoc}
use Rattle.std.proofs.lemmas.List.{map_more}
use Rattle.sv_looks.specs.Lines.{look_line}
use Rattle.sv_looks.proofs.looker.Looker.tell_each.Goals as goal

pub loop-snapshot-preserved : goal.loop-snapshot-preserved
loop-snapshot-preserved g c =
    let i = c.loop-snapshot.snapshot-index in
    let x = c.snapshot-item.result in
    let lines = c.args.lines.now.items in
    let told = map look_line (take i c.args.snapshots.now) in
    let more : map look_line (take (i + 1) c.args.snapshots.now) ≡ told ++ look_line x ∷ [] =
    map_more look_line c.args.snapshots.now i x c.loop-snapshot-test.true ∙ ap (λ y. told ++ look_line y ∷ []) (sym c.snapshot-item.is) in
    c.in_ok-push.ensures.items
    ∙ ap (λ l. l ++ c.in_ok-line_of.field-0 ∷ []) c.loop-snapshot.invariant
    ∙ ap (λ y. (lines ++ told) ++ y ∷ []) (c.in_ok-line_of.ensures _ refl)
    ∙ append_assoc lines told (look_line x ∷ [])
    ∙ ap (λ l. lines ++ l) (sym more)
