-- What is proved by hand of `great_statements`.
use Rattle.std.proofs.Common.{◌∙◌}
use Rattle.test_vectors.proofs.Relays.{body_none}
use Rattle.test_vectors.proofs.exchange.great.great_statements.Goals as goal

pub loop-init : goal.loop-init
loop-init c = c.new-body.ensures ∙ body_none
