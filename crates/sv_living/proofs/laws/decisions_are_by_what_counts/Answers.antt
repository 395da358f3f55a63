-- By the lemmas on decisions.
use Rattle.sv_living.proofs.Deciding.{decided_other, decided_steward}
use Rattle.sv_living.proofs.laws.decisions_are_by_what_counts.Goals as goal

pub returns-clause-decided : goal.returns-clause-decided
returns-clause-decided c = decided_other

pub returns-clause-steward : goal.returns-clause-steward
returns-clause-steward c = decided_steward
