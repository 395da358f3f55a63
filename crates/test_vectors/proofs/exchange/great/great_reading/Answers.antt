-- What is proved by hand of `great_reading`.
use Rattle.std.proofs.Common.{◌∙◌}
use Rattle.test_vectors.proofs.Relays.{reads_none}
use Rattle.test_vectors.proofs.exchange.great.great_reading.Goals as goal

pub loop-object-init : goal.loop-object-init
loop-object-init c = c.new-reads.ensures ∙ reads_none
