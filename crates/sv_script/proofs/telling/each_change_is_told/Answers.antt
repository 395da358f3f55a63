-- What is proved by hand of `each_change_is_told`.
use Rattle.sv_script.proofs.Told.{changes-of_trace, each-told, others-quiet}
use Rattle.sv_script.proofs.telling.each_change_is_told.Goals as goal

pub returns-clause-only : goal.returns-clause-only
returns-clause-only c = changes-of_trace

pub returns-clause-each : goal.returns-clause-each
returns-clause-each c = each-told

pub returns-clause-others : goal.returns-clause-others
returns-clause-others c = others-quiet
