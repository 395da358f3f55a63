-- What is proved by hand of `values_come_from_their_reasons`.
use Rattle.sv_why.proofs.Alone.{reasons-give}
use Rattle.sv_why.proofs.laws.values_come_from_their_reasons.Goals as goal

pub returns : goal.returns
returns c = reasons-give
