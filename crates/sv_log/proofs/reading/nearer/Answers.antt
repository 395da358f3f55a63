-- What is proved by hand of `nearer`.
use Rattle.std.proofs.Common.{◌≡◌, ℕ, List, Option, Some, None, MatchOption, subst, arith}
use Rattle.sv_log.specs.Names.{IsNumber, file_name}
use Rattle.sv_log.specs.Readings.{IsFirstNumber, IsOther}
use Rattle.sv_log.proofs.Firsts.{first_other, first_low, first_late, first_one, first_early}
use Rattle.sv_log.proofs.reading.nearer.Goals as goal

pub returns-in_default : goal.returns-in_default
returns-in_default c names name first told = first_other c.args.wanted names name c.args.least c.args.best (subst (λ (o : Option ℕ). MatchOption o (IsOther c.args.wanted name) (λ n. IsNumber n × (name ≡ file_name c.args.wanted n))) c.in_default.is told) first

pub returns-then-number-least : goal.returns-then-number-least
returns-then-number-least c names name first told =
    let t = subst (λ (o : Option ℕ). MatchOption o (IsOther c.args.wanted name) (λ n. IsNumber n × (name ≡ file_name c.args.wanted n))) c.in-Some.is told in
    first_low c.args.wanted names name c.args.least c.in-Some.number t.0 t.1 c.args.best c.if-number-least.true first

pub returns-in_default-best : goal.returns-in_default-best
returns-in_default-best c names name first told =
    let t = subst (λ (o : Option ℕ). MatchOption o (IsOther c.args.wanted name) (λ n. IsNumber n × (name ≡ file_name c.args.wanted n))) c.in-Some.is told in
    first_one c.args.wanted names name c.args.least c.in-Some.number t.0 t.1 (omega (arith, c.if-number-least.false))
    (subst (IsFirstNumber c.args.wanted names c.args.least) c.in_default-best.is first)

pub returns-then-other-number : goal.returns-then-other-number
returns-then-other-number c names name first told =
    let t = subst (λ (o : Option ℕ). MatchOption o (IsOther c.args.wanted name) (λ n. IsNumber n × (name ≡ file_name c.args.wanted n))) c.in-Some.is told in
    first_late c.args.wanted names name c.args.least c.in-Some.number t.0 t.1 c.in-Some-best.other c.if-other-number.true
    (subst (IsFirstNumber c.args.wanted names c.args.least) c.in-Some-best.is first)

pub returns : goal.returns
returns c names name first told =
    let t = subst (λ (o : Option ℕ). MatchOption o (IsOther c.args.wanted name) (λ n. IsNumber n × (name ≡ file_name c.args.wanted n))) c.in-Some.is told in
    first_early c.args.wanted names name c.args.least c.in-Some.number t.0 t.1 c.in-Some-best.other (omega (arith, c.if-number-least.false)) (omega (arith, c.if-other-number.false))
    (subst (IsFirstNumber c.args.wanted names c.args.least) c.in-Some-best.is first)
