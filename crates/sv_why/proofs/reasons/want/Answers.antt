-- What is proved by hand of `want`.
use Rattle.std.proofs.Common.{rules}
use Rattle.sv_why.proofs.Wanting.{mark-at}
use Rattle.sv_why.proofs.reasons.want.Goals as goal

pub returns-clause-marked : goal.returns-clause-marked
returns-clause-marked c = λ x. mark-at c.args.wanted.now c.set.new.self c.args.object.0 c.from.result x c.set.ensures c.from.ensures c.requires (search rules)
