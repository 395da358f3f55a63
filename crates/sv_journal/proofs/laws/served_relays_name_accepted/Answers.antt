-- What the check leaves to prove of `served_relays_name_accepted`.
use Rattle.sv_journal.proofs.Named.{served_relays_name_accepted}
use Rattle.sv_journal.proofs.laws.served_relays_name_accepted.Goals as goal

pub returns : goal.returns
returns c = served_relays_name_accepted c.missing_influences_ascend.ensures.within
