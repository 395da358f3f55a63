-- The counts of faults, and the text of a run's snapshots.
use Rattle.std.proofs.Common.{sym, subst}
use Rattle.std.specs.Prelude.{All}
use Rattle.sv_world.specs.declared.world.Shape.{Shape}
use Rattle.sv_client.specs.Proper.{Proper}
use Rattle.sv_looks.specs.Cuts.{IsShaped}
use Rattle.sv_looks.specs.Snapshots.{snapshots_of}
use Rattle.sv_ending.specs.declared.ending.Ending.TheVariants as endings
use Rattle.sv_ending.proofs.Counts.{raised_by, unlike}
use Rattle.sv_looks.proofs.Endings.{early_by}
use Rattle.sv_looks.proofs.Printing.{printed_run, shaped_of_run}
use Rattle.sv_looks.proofs.texts.text_for.Goals as goal

pub returns-in_err-scenario-clause-raises : goal.returns-in_err-scenario-clause-raises
returns-in_err-scenario-clause-raises g c = λ k. raised_by c.from_residual.result c.in_err-scenario.field-0.0 c.from_residual.ensures.1 _ _ (c.in_err-scenario.ensures.raises k)

pub returns-in_err-played-clause-raises : goal.returns-in_err-played-clause-raises
returns-in_err-played-clause-raises g c = λ k. raised_by c.from_residual-in_err-played.result endings.Memory c.from_residual-in_err-played.ensures.1 _ _ (c.in_ok-scenario.ensures.raises k)

pub returns-in_err-played_text-clause-made : goal.returns-in_err-played_text-clause-made
returns-in_err-played_text-clause-made g c = early_by _ c.from_residual-in_err-played_text.result endings.Memory c.from_residual-in_err-played_text.ensures.1 tt

pub returns-in_err-played_text-clause-raises : goal.returns-in_err-played_text-clause-raises
returns-in_err-played_text-clause-raises g c = λ k. raised_by c.from_residual-in_err-played_text.result endings.Memory c.from_residual-in_err-played_text.ensures.1 _ _ (c.in_ok-scenario.ensures.raises k)

pub returns-in_err-played_text-clause-sure : goal.returns-in_err-played_text-clause-sure
returns-in_err-played_text-clause-sure g c = λ sure s. unlike c.from_residual-in_err-played_text.result endings.Memory c.from_residual-in_err-played_text.ensures.1 endings.File (λ e. cc) s

pub returns-clause-made : goal.returns-clause-made
returns-clause-made g c = printed_run _ _ _ _ _ c.in_ok-scenario.ensures.read.0 c.in_ok-scenario.ensures.read.1 c.in_ok-played.ensures.replay c.in_ok-played_text.ensures

pub played_text-requires-clause-proper : goal.played_text-requires-clause-proper
played_text-requires-clause-proper g c =
    subst (λ (s : Shape). All (Proper s) c.in_ok-played.played.traces) (sym c.in_ok-played.ensures.played.shape)
    c.in_ok-played.ensures.played.traffic.proper

pub played_text-requires-clause-shaped : goal.played_text-requires-clause-shaped
played_text-requires-clause-shaped g c =
    subst (λ (s : Shape). All (IsShaped s) (snapshots_of s c.in_ok-played.played.traces)) (sym c.in_ok-played.ensures.played.shape)
    (shaped_of_run _ _ c.in_ok-played.played.traces c.in_ok-scenario.ensures.read.1 c.in_ok-played.ensures.replay c.legal_actions_are_good.ensures)
