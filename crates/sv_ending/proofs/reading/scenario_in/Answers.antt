-- The scenario of a file, from what is read of it.
use Rattle.sv_ending.proofs.Counts.{raised_by}
use Rattle.sv_ending.proofs.Held.{unread_by, given_read, given_raises, given_not_file}
use Rattle.sv_ending.proofs.reading.scenario_in.Goals as goal

pub returns-in_err-bytes-clause-read : goal.returns-in_err-bytes-clause-read
returns-in_err-bytes-clause-read g c = unread_by _ c.from_residual.result c.in_err-bytes.field-0.0 c.from_residual.ensures.1 c.in_err-bytes.ensures.unread

pub returns-in_err-bytes-clause-raises : goal.returns-in_err-bytes-clause-raises
returns-in_err-bytes-clause-raises g c = λ k. raised_by c.from_residual.result c.in_err-bytes.field-0.0 c.from_residual.ensures.1 _ _ (c.in_err-bytes.ensures.raises k)

pub returns-clause-read : goal.returns-clause-read
returns-clause-read g c = given_read _ _ c.given_scenario.result c.in_ok-bytes.ensures.front (rw c.deref.ensures.value at c.given_scenario.ensures)

pub returns-clause-raises : goal.returns-clause-raises
returns-clause-raises g c = λ k. given_raises _ c.given_scenario.result c.given_scenario.ensures _ _ (c.in_ok-bytes.ensures.raises k)

pub returns-clause-sure : goal.returns-clause-sure
returns-clause-sure g c = λ sure s. given_not_file _ c.given_scenario.result c.given_scenario.ensures s
