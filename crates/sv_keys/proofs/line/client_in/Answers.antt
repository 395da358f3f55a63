-- What is no text writes no number.
use Rattle.sv_keys.proofs.Numbers.{no_number}
use Rattle.sv_keys.proofs.line.client_in.Goals as goal

pub returns-in_default-clause-none : goal.returns-in_default-clause-none
returns-in_default-clause-none c = no_number c.args.number.now c.in_default.ensures.cases.0
