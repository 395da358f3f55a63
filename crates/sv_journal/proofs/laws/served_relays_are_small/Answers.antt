-- What the check leaves to prove of `served_relays_are_small`.
use Rattle.sv_journal.proofs.Sizes.{served_relays_are_small}
use Rattle.sv_journal.proofs.laws.served_relays_are_small.Goals as goal

pub returns : goal.returns
returns c = served_relays_are_small c.missing_influences_only_shrink.ensures.size
