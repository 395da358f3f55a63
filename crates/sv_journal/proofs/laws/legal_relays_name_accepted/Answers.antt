-- What the check leaves to prove of `legal_relays_name_accepted`.
use Rattle.sv_journal.proofs.Named.{legal_relays_name_accepted}
use Rattle.sv_journal.proofs.laws.legal_relays_name_accepted.Goals as goal

pub returns : goal.returns
returns c = legal_relays_name_accepted c.missing_influences_ascend.ensures.within
