-- What is proved by hand of `prune_each`.
use Rattle.std.proofs.Common.{◌≡◌, ◌<◌, ◌+◌, List, ◌∷◌, [], ◌++◌, length, take, get_or, refl, ap, ◌∙◌, arith}
use Rattle.std.proofs.lemmas.List.{take_more, get_or_read}
use Rattle.sv_world.specs.declared.world.ObjectId.{ObjectId}
use Rattle.sv_versions.specs.declared.history.Version.{Version}
use Rattle.sv_versions.specs.Held.{pruned}
use Rattle.sv_versions.specs.Histories.{tagged}
use Rattle.sv_versions.proofs.Prunings.{pruned_more, pruned_skip}
use Rattle.sv_versions.proofs.crowded.prune_each.Goals as goal
use Rattle.sv_versions.proofs.crowded.prune_each.Goals.{then-index-len, else-index-len}

pub loop-object-preserved : goal.loop-object-preserved
loop-object-preserved c =
    let d : ObjectId = record { 0 = 0 } in
    let i = c.loop-object.object-index in
    let o = get_or c.args.listed.now i d in
    let rows = c.loop-object.histories.items in
    let front : take (i + 1) c.args.listed.now ≡ take i c.args.listed.now ++ o ∷ [] = take_more c.args.listed.now i d c.loop-object-test.true in
    elim c.if-index-len.branch [
      | then-index-len w ↦
          let within : o.0 < length rows = omega (arith, c.loop-object.histories.ok.0) in
          let row : w.index_mut-history.result.now ≡ get_or rows o.0 [] = get_or_read rows o.0 _ within w.index_mut-history.ensures.value [] in
          rw (front, w.histories-is) (pruned_more _ o.0 _ o _ rows w.prune.new.self c.loop-object.invariant refl within
          (λ x. w.prune.ensures.kept x ∙ ap (λ (r : List Version). pruned c.args.commit (tagged x r)) row)
          w.prune.ensures.few (omega (arith, w.prune.ensures.shorter, ap (λ (r : List Version). length r) row)))
      | else-index-len w ↦ rw (front, w.histories-is) (pruned_skip _ _ o _ rows c.loop-object.invariant (omega (arith, c.loop-object.histories.ok.0)))
    ]
