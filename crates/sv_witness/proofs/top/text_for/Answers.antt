-- The counts of faults, and the text of a witnessed run.
use Rattle.std.proofs.Common.{ℕ, refl, subst}
use Rattle.sv_ending.specs.declared.ending.Ending.TheVariants as endings
use Rattle.sv_ending.specs.Statuses.{counts}
use Rattle.sv_ending.proofs.Counts.{raised_by}
use Rattle.sv_witness.specs.Statuses.{IsLiarWithin}
use Rattle.sv_witness.proofs.top.text_for.Goals as goal

pub returns-in_err-scenario-clause-raises : goal.returns-in_err-scenario-clause-raises
returns-in_err-scenario-clause-raises g c =
    λ k. raised_by c.from_residual.result c.in_err-scenario.field-0.0 c.from_residual.ensures.1 _ _ (c.in_err-scenario.ensures.raises (counts 0 0 0 k))

pub returns-then-not-is_within-clause-raises : goal.returns-then-not-is_within-clause-raises
returns-then-not-is_within-clause-raises g c = λ k. c.in_ok-scenario.ensures.raises (counts 0 0 0 k)

pub returns-in_err-run_text-clause-raises : goal.returns-in_err-run_text-clause-raises
returns-in_err-run_text-clause-raises g c =
    λ k. raised_by c.from_residual-in_err-run_text.result endings.Memory c.from_residual-in_err-run_text.ensures.1 _ _ (c.in_ok-scenario.ensures.raises (counts 0 0 0 k))

pub returns-clause-raises : goal.returns-clause-raises
returns-clause-raises g c = λ k. c.in_ok-scenario.ensures.raises (counts 0 0 0 k)

pub returns-clause-made : goal.returns-clause-made
returns-clause-made g c = record {
  scenario = c.in_ok-scenario.scenario;
  read = c.in_ok-scenario.ensures.read.0;
  within = subst (λ (n : ℕ). IsLiarWithin n c.args.asked.liar) c.len.ensures (c.if-not-is_within.ensures.within refl);
  run = c.in_ok-run_text.ensures;
}
