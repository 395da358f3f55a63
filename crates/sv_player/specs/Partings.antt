-- The steps that end a session.
use Rattle.sv_client.specs.declared.trace.Event.{Event}
use Rattle.sv_client.specs.declared.trace.Event.TheVariants as events
use Rattle.sv_scenario.specs.declared.scenario.Step.{Step}
use Rattle.sv_scenario.specs.declared.scenario.Step.TheVariants as steps
use Rattle.sv_player.specs.declared.outcome.SessionEnd.{SessionEnd}
use Rattle.sv_player.specs.declared.outcome.SessionEnd.TheVariants as endings
use Rattle.sv_player.specs.declared.outcome.Parting.{Parting}
use Rattle.sv_player.specs.declared.outcome.Parting.TheVariants as partings

abbrev pub parting_step : Parting → Step
parting_step partings.Cut = steps.Cut
parting_step partings.Quit = steps.Quit

-- the event that the step does
abbrev pub parting_event : Parting → Event
parting_event partings.Cut = events.Cut
parting_event partings.Quit = events.Quit

-- how the session then ended
abbrev pub parting_ending : Parting → SessionEnd
parting_ending partings.Cut = endings.Cut
parting_ending partings.Quit = endings.Quit
