-- The events of a trace that do steps are those of its script.
use Rattle.std.proofs.Common.{◌≡◌, List, [], ◌∷◌, ◌++◌, Option, refl, sym, ap, ◌∙◌}
use Rattle.std.proofs.lemmas.List.{append_assoc}
use Rattle.sv_wire.specs.declared.message.Request.{Request}
use Rattle.sv_client.specs.declared.trace.Event.{Event}
use Rattle.sv_client.specs.declared.trace.Event.TheVariants as events
use Rattle.sv_client.specs.Taking.{Identity, outstanding}
use Rattle.sv_scenario.specs.declared.scenario.Step.{Step}
use Rattle.sv_scenario.specs.declared.scenario.Step.TheVariants as steps
use Rattle.sv_script.specs.Following.{DoesStep, FollowsTo, after_syncs, passed_syncs, steps_done, events_of, led_by}

events-synced : (ss : List Step) → events_of (after_syncs ss) ≡ events_of ss
events-synced [] = refl
events-synced (steps.Act action ∷ ss) = refl
events-synced (steps.Poll ∷ ss) = refl
events-synced (steps.Observe objects ∷ ss) = refl
events-synced (steps.Sync ∷ ss) = events-synced ss
events-synced (steps.Show objects ∷ ss) = refl
events-synced (steps.Cut ∷ ss) = refl
events-synced (steps.Quit ∷ ss) = refl

events-passed : (os : List Request) (ss : List Step) → events_of (passed_syncs os ss) ≡ events_of ss
events-passed [] ss = events-synced ss
events-passed (o ∷ os) ss = refl

-- The step that an event does is the first of those that were left.
step-first : (who : Identity) (t : List Event) (before : List Step) (e : Event) (left : List Step) → DoesStep who t before e left → events_of before ≡ e ∷ events_of left
step-first who t before e left d =
    sym (events-passed (outstanding who t) before) ∙ ap events_of d.next ∙ ap (λ (o : Option Event). led_by o (events_of left)) d.event

one-more : (done : List Event) (e : Event) (rest before all : List Event) → before ≡ e ∷ rest → done ++ before ≡ all → (done ++ e ∷ []) ++ rest ≡ all
one-more done e rest before all h f = append_assoc done (e ∷ []) rest ∙ ap (λ (es : List Event). done ++ es) (sym h) ∙ f

as-before : (done : List Event) (left before : List Step) (all : List Event) → left ≡ before → done ++ events_of before ≡ all → done ++ events_of left ≡ all
as-before done left before all h f = ap (λ (ss : List Step). done ++ events_of ss) h ∙ f

none-left : (before left : List Step) → after_syncs before ≡ [] → left ≡ [] → events_of left ≡ events_of before
none-left before left h e = ap events_of e ∙ ap events_of (sym h) ∙ events-synced before

pub steps-in_order : (who : Identity) (script : List Step) (t : List Event) (left : List Step) → FollowsTo who script t left → steps_done t ++ events_of left ≡ events_of script
steps-in_order who script [] left f = ap events_of f
steps-in_order who script (events.Join s ∷ t) left f =
    as-before (steps_done t) left f.0 (events_of script) f.1.1.same (steps-in_order who script t f.0 f.1.0)
steps-in_order who script (events.Got s reply ∷ t) left f =
    as-before (steps_done t) left f.0 (events_of script) f.1.1.same (steps-in_order who script t f.0 f.1.0)
steps-in_order who script (events.Leave ∷ t) left f =
    ap (λ (es : List Event). steps_done t ++ es) (none-left f.0 left f.1.1.done f.1.1.same) ∙ steps-in_order who script t f.0 f.1.0
steps-in_order who script (events.Make action ∷ t) left f =
    one-more (steps_done t) (events.Make action) (events_of left) (events_of f.0) (events_of script) (step-first who t f.0 (events.Make action) left f.1.1) (steps-in_order who script t f.0 f.1.0)
steps-in_order who script (events.Poll ∷ t) left f =
    one-more (steps_done t) events.Poll (events_of left) (events_of f.0) (events_of script) (step-first who t f.0 events.Poll left f.1.1) (steps-in_order who script t f.0 f.1.0)
steps-in_order who script (events.Observe objects wait ∷ t) left f =
    one-more (steps_done t) (events.Observe objects wait) (events_of left) (events_of f.0) (events_of script) (step-first who t f.0 (events.Observe objects wait) left f.1.1) (steps-in_order who script t f.0 f.1.0)
steps-in_order who script (events.Cut ∷ t) left f =
    one-more (steps_done t) events.Cut (events_of left) (events_of f.0) (events_of script) (step-first who t f.0 events.Cut left f.1.1) (steps-in_order who script t f.0 f.1.0)
steps-in_order who script (events.Quit ∷ t) left f =
    one-more (steps_done t) events.Quit (events_of left) (events_of f.0) (events_of script) (step-first who t f.0 events.Quit left f.1.1) (steps-in_order who script t f.0 f.1.0)
steps-in_order who script (events.Show objects ∷ t) left f =
    one-more (steps_done t) (events.Show objects) (events_of left) (events_of f.0) (events_of script) (step-first who t f.0 (events.Show objects) left f.1.1) (steps-in_order who script t f.0 f.1.0)
