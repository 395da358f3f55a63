-- The value of one object more.
use Rattle.std.proofs.Common.{◌≡◌, ◌+◌, ◌<◌, ℤ, List, [], ◌∷◌, ◌++◌, length, drop, get_or, append_assoc, append-nil, sym, ap, ◌∙◌, arith}
use Rattle.std.proofs.lemmas.List.{drop_more}
use Rattle.sv_replay.proofs.Heading.{drop_past}
use Rattle.sv_replay.proofs.played.committed_values.Goals as goal

pub loop-object-preserved : goal.loop-object-preserved
loop-object-preserved g c =
    let all : List (List ℤ) = g.S.Server.world c.args.server.now in
    let i = c.loop-object.object in
    let old = c.loop-object.values in
    let x = c.in_ok-copy_value.field-0 in
    let l : i < length all = omega (arith, c.requires.values, c.loop-object-test.true) in
    let here : x ≡ get_or all i [] = c.in_ok-copy_value.ensures ∙ c.committed.ensures in
    ap (λ (vs : List (List ℤ)). vs ++ drop (i + 1) all) c.in_ok-push.ensures.ok ∙ append_assoc old (x ∷ []) (drop (i + 1) all)
    ∙ ap (λ (vs : List (List ℤ)). old ++ vs) (ap (λ (y : List ℤ). y ∷ drop (i + 1) all) here ∙ sym (drop_more all i [] l)) ∙ c.loop-object.invariant

pub returns : goal.returns
returns g c =
    let all : List (List ℤ) = g.S.Server.world c.args.server.now in
    let i = c.loop-object.object in
    let old = c.loop-object.values in
    sym (append-nil old) ∙ ap (λ (vs : List (List ℤ)). old ++ vs) (sym (drop_past i all (omega (arith, c.requires.values, c.loop-object-test.false)))) ∙ c.loop-object.invariant
