-- What is proved by hand of `first_wrong`.
use Rattle.std.proofs.Common.{◌≡◌, ◌∙◌, Bool, MatchBool, Contains, List, ℕ, map, string_bytes, get_or, ap, sym, subst, arith}
use Rattle.sv_log.specs.Names.{Tells, IsWrongName}
use Rattle.sv_log.proofs.Firsts.{none_wrong_more, none_wrong_all, name_has}
use Rattle.sv_log.proofs.reading.first_wrong.Goals as goal

pub loop-i-preserved : goal.loop-i-preserved
loop-i-preserved c =
    let d = c.index-names-i.result in
    let name = string_bytes (get_or c.args.names.now c.loop-i.i d) in
    let told : Tells c.kind_of.result name = subst (Tells c.kind_of.result) (c.as_str-name.ensures.value ∙ ap string_bytes c.index-names-i.is) c.kind_of.ensures in
    none_wrong_more c.args.names.now c.loop-i.i d c.loop-i-test.true c.loop-i.invariant
    (subst (λ (b : Bool). MatchBool b (IsWrongName name) (IsWrongName name → ⊥)) c.if-is_wrong.false (c.is_wrong.ensures name told))

pub returns-then-is_wrong : goal.returns-then-is_wrong
returns-then-is_wrong c =
    let d = c.index-names-i.result in
    let name = c.as_str-name.result.now in
    let is : name ≡ string_bytes (get_or c.args.names.now c.loop-i.i d) = c.as_str-name.ensures.value ∙ ap string_bytes c.index-names-i.is in (
      subst (λ (b : Bool). MatchBool b (IsWrongName name) (IsWrongName name → ⊥)) c.if-is_wrong.true (c.is_wrong.ensures name c.kind_of.ensures),
      subst (Contains (map string_bytes c.args.names.now)) (sym is) (name_has c.args.names.now c.loop-i.i d c.loop-i-test.true),
    )

pub returns : goal.returns
returns c = none_wrong_all c.args.names.now c.loop-i.i (omega (arith, c.loop-i-test.false)) c.loop-i.invariant
