-- What the check leaves to prove of `legal_relays_are_small`.
use Rattle.sv_journal.proofs.Sizes.{legal_relays_are_small}
use Rattle.sv_journal.proofs.laws.legal_relays_are_small.Goals as goal

pub returns : goal.returns
returns c = legal_relays_are_small c.missing_influences_only_shrink.ensures.size
