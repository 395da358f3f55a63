-- What is proved by hand of `has_name`.
use Rattle.std.proofs.Common.{rules, ◌≡◌, ◌≢◌, ◌∙◌, ℕ, List, length, map, string_bytes, ap, subst, arith}
use Rattle.sv_log.proofs.Firsts.{NotIn, not_in_more, names_all}
use Rattle.sv_log.proofs.reading.has_name.Goals as goal

pub loop-i-preserved : goal.loop-i-preserved
loop-i-preserved c =
    let d = c.index-names-i.result in
    let ne : string_bytes d ≢ c.args.wanted.now = search rules in
    not_in_more c.args.names.now c.loop-i.i d c.args.wanted.now c.loop-i-test.true c.loop-i.invariant (λ e. ne (ap string_bytes c.index-names-i.is ∙ e))

pub returns : goal.returns
returns c e = subst (λ (ns : List (List ℕ)). NotIn ns c.args.wanted.now) (names_all c.args.names.now c.loop-i.i (omega (arith, c.loop-i-test.false))) c.loop-i.invariant
