-- What is proved by hand of `behind`.
use Rattle.sv_log.proofs.Numbers.{match_more, strip_some, strip_none}
use Rattle.sv_log.proofs.names.behind.Goals as goal

pub returns : goal.returns
returns c =
    match_more c.strip_prefix.result _ _ _ _ c.strip_prefix.ensures.cases (strip_none c.args.name.now c.args.kind.now)
    (λ rest is. strip_some c.args.name.now c.args.kind.now rest.now is.0 is.1)
