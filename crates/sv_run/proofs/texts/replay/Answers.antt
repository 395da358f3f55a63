-- The counts of faults, and the text of a replay.
use Rattle.sv_ending.specs.declared.ending.Ending.TheVariants as endings
use Rattle.sv_ending.proofs.Counts.{raised_by, unlike}
use Rattle.sv_run.proofs.Making.{early_by, replayed}
use Rattle.sv_run.proofs.texts.replay.Goals as goal

pub returns-in_err-scenario-clause-raises : goal.returns-in_err-scenario-clause-raises
returns-in_err-scenario-clause-raises g c = λ k. raised_by c.from_residual.result c.in_err-scenario.field-0.0 c.from_residual.ensures.1 _ _ (c.in_err-scenario.ensures.raises k)

pub returns-in_err-played-clause-raises : goal.returns-in_err-played-clause-raises
returns-in_err-played-clause-raises g c = λ k. raised_by c.from_residual-in_err-played.result endings.Memory c.from_residual-in_err-played.ensures.1 _ _ (c.in_ok-scenario.ensures.raises k)

pub returns-in_err-text-clause-made : goal.returns-in_err-text-clause-made
returns-in_err-text-clause-made g c = λ m. early_by _ _ m c.from_residual-in_err-text.result endings.Memory c.from_residual-in_err-text.ensures.1 tt

pub returns-in_err-text-clause-raises : goal.returns-in_err-text-clause-raises
returns-in_err-text-clause-raises g c = λ k. raised_by c.from_residual-in_err-text.result endings.Memory c.from_residual-in_err-text.ensures.1 _ _ (c.in_ok-scenario.ensures.raises k)

pub returns-in_err-text-clause-sure : goal.returns-in_err-text-clause-sure
returns-in_err-text-clause-sure g c = λ sure s. unlike c.from_residual-in_err-text.result endings.Memory c.from_residual-in_err-text.ensures.1 endings.File (λ e. cc) s

pub returns-clause-made : goal.returns-clause-made
returns-clause-made g c = λ m. replayed _ _ m _ _ _ _ c.in_ok-scenario.ensures.read.0 c.in_ok-played.ensures.replay c.in_ok-text.ensures
