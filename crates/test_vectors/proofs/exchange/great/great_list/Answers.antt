-- What is proved by hand of `great_list`.
use Rattle.std.proofs.Common.{◌∙◌}
use Rattle.test_vectors.proofs.Relays.{items_none}
use Rattle.test_vectors.proofs.exchange.great.great_list.Goals as goal

pub loop-init : goal.loop-init
loop-init c = c.new-items.ensures ∙ items_none
