-- What is proved by hand of `drops_are_outcomes`.
use Rattle.sv_report.proofs.Outcomes.{drops_are}
use Rattle.sv_report.proofs.laws.drops_are_outcomes.Goals as goal

pub returns : goal.returns
returns c = drops_are
