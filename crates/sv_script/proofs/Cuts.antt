-- The cuts that are left of a script.
use Rattle.std.proofs.Common.{◌≡◌, ℕ, ◌+◌, List, [], ◌∷◌, Some, refl, sym, ap, ◌∙◌, arith}
use Rattle.std.proofs.lemmas.Option.{none-some, same_Some}
use Rattle.sv_wire.specs.declared.message.Request.{Request}
use Rattle.sv_client.specs.declared.trace.Event.{Event}
use Rattle.sv_client.specs.declared.trace.Event.TheVariants as events
use Rattle.sv_client.specs.Taking.{Identity, outstanding}
use Rattle.sv_scenario.specs.declared.scenario.Step.{Step}
use Rattle.sv_scenario.specs.declared.scenario.Step.TheVariants as steps
use Rattle.sv_scenario.specs.Sessions.{cuts_by, cuts_in}
use Rattle.sv_script.specs.Following.{DoesStep, after_syncs, passed_syncs, event_of}

-- Syncs are no cuts.
pub cuts-synced : (ss : List Step) → cuts_in (after_syncs ss) ≡ cuts_in ss
cuts-synced [] = refl
cuts-synced (steps.Act action ∷ ss) = refl
cuts-synced (steps.Poll ∷ ss) = refl
cuts-synced (steps.Observe objects ∷ ss) = refl
cuts-synced (steps.Sync ∷ ss) = omega (arith, cuts-synced ss)
cuts-synced (steps.Show objects ∷ ss) = refl
cuts-synced (steps.Cut ∷ ss) = refl
cuts-synced (steps.Quit ∷ ss) = refl

cuts-passed : (os : List Request) (ss : List Step) → cuts_in (passed_syncs os ss) ≡ cuts_in ss
cuts-passed [] ss = cuts-synced ss
cuts-passed (o ∷ os) ss = refl

-- The cuts of an event.
abbrev pub cut_of : Event → ℕ
cut_of (events.Join s) = 0
cut_of (events.Got s reply) = 0
cut_of events.Leave = 0
cut_of (events.Make action) = 0
cut_of events.Poll = 0
cut_of (events.Observe objects wait) = 0
cut_of events.Cut = 1
cut_of events.Quit = 0
cut_of (events.Show objects) = 0

cuts-of : (step : Step) (e : Event) → event_of step ≡ Some e → cuts_by step ≡ cut_of e
cuts-of (steps.Act action) e h = ap cut_of (same_Some (events.Make action) e h)
cuts-of steps.Poll e h = ap cut_of (same_Some events.Poll e h)
cuts-of (steps.Observe objects) e h = ap cut_of (same_Some (events.Observe objects 0) e h)
cuts-of steps.Sync e h = absurd (none-some e h)
cuts-of (steps.Show objects) e h = ap cut_of (same_Some (events.Show objects) e h)
cuts-of steps.Cut e h = ap cut_of (same_Some events.Cut e h)
cuts-of steps.Quit e h = ap cut_of (same_Some events.Quit e h)

-- The cuts before an event that does a step: those of the event, and those that it leaves.
pub cuts-done : (who : Identity) (t : List Event) (before : List Step) (e : Event) (left : List Step) → DoesStep who t before e left → cuts_in before ≡ cut_of e + cuts_in left
cuts-done who t before e left d =
    let all = sym (cuts-passed (outstanding who t) before) ∙ ap cuts_in d.next in
    let one = cuts-of d.step e d.event in
    omega (arith, all, one)
