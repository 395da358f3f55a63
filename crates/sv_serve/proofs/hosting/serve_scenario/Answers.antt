-- Where memory ran out before the door was asked, it is as it was.
use Rattle.sv_threads.proofs.Jobs.{fault_none_ran}
use Rattle.sv_serve.proofs.Endings.{memory_back}
use Rattle.sv_serve.proofs.hosting.serve_scenario.Goals as goal

pub returns-in_err-sequencer-clause-back : goal.returns-in_err-sequencer-clause-back
returns-in_err-sequencer-clause-back g c = memory_back _ c.from_residual.result _ _ c.from_residual.ensures.1

pub returns-in_err-lock-clause-back : goal.returns-in_err-lock-clause-back
returns-in_err-lock-clause-back g c = memory_back _ c.from_residual-in_err-lock.result _ _ c.from_residual-in_err-lock.ensures.1

pub returns-in_err-sequencer-clause-ran : goal.returns-in_err-sequencer-clause-ran
returns-in_err-sequencer-clause-ran g c = fault_none_ran _ _ c.from_residual.result _ _ c.from_residual.ensures.1

pub returns-in_err-lock-clause-ran : goal.returns-in_err-lock-clause-ran
returns-in_err-lock-clause-ran g c = fault_none_ran _ _ c.from_residual-in_err-lock.result _ _ c.from_residual-in_err-lock.ensures.1
