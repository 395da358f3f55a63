-- What is proved by hand of `first_from`.
use Rattle.std.proofs.Common.{◌∙◌, ◌++◌, ◌∷◌, [], ℕ, List, take, map, string_bytes, ap, subst, arith}
use Rattle.sv_log.specs.Readings.{IsFirstNumber}
use Rattle.sv_log.proofs.Firsts.{first_more, first_all}
use Rattle.sv_log.proofs.reading.first_from.Goals as goal

pub loop-i-preserved : goal.loop-i-preserved
loop-i-preserved c =
    let d = c.index-names-i.result in
    let front = take c.loop-i.i (map string_bytes c.args.names.now) in
    first_more c.args.wanted c.args.names.now c.loop-i.i d c.args.least c.nearer-best.result c.loop-i-test.true
    (subst (λ (x : List ℕ). IsFirstNumber c.args.wanted (front ++ x ∷ []) c.args.least c.nearer-best.result) (c.as_str.ensures.value ∙ ap string_bytes c.index-names-i.is)
    (c.nearer-best.ensures front c.as_str.result.now c.loop-i.invariant (c.number_of-number.ensures c.as_str.result.now c.kind_of.ensures)))

pub returns : goal.returns
returns c = first_all c.args.wanted c.args.names.now c.loop-i.i c.args.least c.loop-i.best (omega (arith, c.loop-i-test.false)) c.loop-i.invariant
