-- Cuts never go back.
use Rattle.sv_world.proofs.Growing.{see-shrinks, see-shorter}
use Rattle.sv_world.proofs.Greatest.{cut-later}
use Rattle.sv_world.proofs.cuts.cuts_never_go_back.Goals as goal

pub returns-clause-members : goal.returns-clause-members
returns-clause-members c = see-shrinks

pub returns-clause-shorter : goal.returns-clause-shorter
returns-clause-shorter c = see-shorter

pub returns-clause-cut : goal.returns-clause-cut
returns-clause-cut c = cut-later
