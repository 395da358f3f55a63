-- What is needed to see grows with the position.
use Rattle.sv_world.proofs.Growing.{see-grows, see-longer}
use Rattle.sv_world.proofs.cuts.what_is_needed_to_see_grows.Goals as goal

pub returns-clause-members : goal.returns-clause-members
returns-clause-members c = see-grows

pub returns-clause-longer : goal.returns-clause-longer
returns-clause-longer c = see-longer
