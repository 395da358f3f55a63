-- What is proved by hand of `steps_are_done_in_order`.
use Rattle.sv_script.proofs.Ends.{ends-do_all}
use Rattle.sv_script.proofs.Steps.{steps-in_order}
use Rattle.sv_script.proofs.following.steps_are_done_in_order.Goals as goal

pub returns-clause-begun : goal.returns-clause-begun
returns-clause-begun c = steps-in_order

pub returns-clause-whole : goal.returns-clause-whole
returns-clause-whole c = ends-do_all
