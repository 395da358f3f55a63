-- What is proved by hand of `great_head`.
use Rattle.std.proofs.Common.{◌∙◌}
use Rattle.test_vectors.proofs.Relays.{heads_none}
use Rattle.test_vectors.proofs.exchange.great.great_head.Goals as goal

pub loop-object-init : goal.loop-object-init
loop-object-init c = c.new-head.ensures ∙ heads_none
