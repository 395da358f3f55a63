-- The actions that clients of a run made have numbers of their types, where those of their scripts have.
use Rattle.std.proofs.Common.{◌≡◌, ℕ, suc, ◌+◌, ◌<◌, List, [], ◌∷◌, map, reverse, Some, sym, subst, arith}
use Rattle.std.specs.Prelude.{All}
use Rattle.std.specs.List.{AllByRecursion}
use Rattle.std.proofs.lemmas.List.Elements.{recursion_from_All, All-from_recursion}
use Rattle.std.proofs.lemmas.Option.{none-some, same_Some}
use Rattle.sv_world.specs.declared.world.Shape.{Shape}
use Rattle.sv_client.specs.declared.trace.Event.{Event}
use Rattle.sv_client.specs.declared.trace.Event.TheVariants as events
use Rattle.sv_client.specs.declared.trace.Trace.{Trace}
use Rattle.sv_client.specs.Taking.{Identity, outstanding}
use Rattle.sv_scenario.specs.declared.scenario.Plan.{Plan}
use Rattle.sv_scenario.specs.declared.scenario.Step.{Step}
use Rattle.sv_scenario.specs.declared.scenario.Step.TheVariants as steps
use Rattle.sv_scenario.specs.Sessions.{sessions_of_plan}
use Rattle.sv_script.specs.Following.{DoesStep, FollowsTo, event_of}
use Rattle.sv_script.proofs.Beginnings.{all-passed}
use Rattle.law_asked.specs.Asked.{EventFits}
use Rattle.law_asked.specs.Numbers.{StepFits, PlanFits}
use Rattle.law_system.proofs.Every.{each-reverse}
use Rattle.law_schedule.specs.Players.{Player, trace_of_player}
use Rattle.law_schedule.specs.Serving.{traces_of}
use Rattle.law_schedule.specs.Sound.{IsPlaying, ArePlaying}
use Rattle.sv_replay.specs.Playable.{MadeActionsFit}

pub event_fits : (step : Step) (e : Event) → event_of step ≡ Some e → StepFits step → EventFits e
event_fits (steps.Act action) e h f = subst EventFits (same_Some (events.Make action) e h) f
event_fits steps.Poll e h f = subst EventFits (same_Some events.Poll e h) tt
event_fits (steps.Observe objects) e h f = let none : 0 < 65536 = omega arith in subst EventFits (same_Some (events.Observe objects 0) e h) none
event_fits steps.Sync e h f = absurd (none-some e h)
event_fits (steps.Show objects) e h f = subst EventFits (same_Some (events.Show objects) e h) tt
event_fits steps.Cut e h f = subst EventFits (same_Some events.Cut e h) tt
event_fits steps.Quit e h f = subst EventFits (same_Some events.Quit e h) tt

step_done : (who : Identity) (t : List Event) (before : List Step) (e : Event) (left : List Step) → DoesStep who t before e left → AllByRecursion StepFits before →
    EventFits e × AllByRecursion StepFits left
step_done who t before e left d all =
    let next : AllByRecursion StepFits (d.step ∷ left) = subst (AllByRecursion StepFits) d.next (all-passed StepFits (outstanding who t) before all) in
    (event_fits d.step e d.event next.0, next.1)

-- What was made so far, and what is left to do.
abbrev SoFar : List Event → List Step → Type 0
SoFar t left = AllByRecursion EventFits t × AllByRecursion StepFits left

after_step : (who : Identity) (t : List Event) (before : List Step) (e : Event) (left : List Step) → DoesStep who t before e left → SoFar t before → SoFar (e ∷ t) left
after_step who t before e left d f = let one = step_done who t before e left d f.1 in ((one.0, f.0), one.1)

made_fit : (who : Identity) (script : List Step) (t : List Event) (left : List Step) → FollowsTo who script t left → AllByRecursion StepFits script → SoFar t left
made_fit who script [] left f all = (tt, subst (AllByRecursion StepFits) (sym f) all)
made_fit who script (events.Join s ∷ t) left f all = let b = made_fit who script t f.0 f.1.0 all in ((tt, b.0), subst (AllByRecursion StepFits) (sym f.1.1.same) b.1)
made_fit who script (events.Got s reply ∷ t) left f all = let b = made_fit who script t f.0 f.1.0 all in ((tt, b.0), subst (AllByRecursion StepFits) (sym f.1.1.same) b.1)
made_fit who script (events.Leave ∷ t) left f all = let b = made_fit who script t f.0 f.1.0 all in ((tt, b.0), subst (AllByRecursion StepFits) (sym f.1.1.same) tt)
made_fit who script (events.Make action ∷ t) left f all = after_step who t f.0 (events.Make action) left f.1.1 (made_fit who script t f.0 f.1.0 all)
made_fit who script (events.Poll ∷ t) left f all = after_step who t f.0 events.Poll left f.1.1 (made_fit who script t f.0 f.1.0 all)
made_fit who script (events.Observe objects wait ∷ t) left f all = after_step who t f.0 (events.Observe objects wait) left f.1.1 (made_fit who script t f.0 f.1.0 all)
made_fit who script (events.Cut ∷ t) left f all = after_step who t f.0 events.Cut left f.1.1 (made_fit who script t f.0 f.1.0 all)
made_fit who script (events.Quit ∷ t) left f all = after_step who t f.0 events.Quit left f.1.1 (made_fit who script t f.0 f.1.0 all)
made_fit who script (events.Show objects ∷ t) left f all = after_step who t f.0 (events.Show objects) left f.1.1 (made_fit who script t f.0 f.1.0 all)

player_made : (shape : Shape) (k s : ℕ) (plan : Plan) (p : Player) → IsPlaying shape k s plan p → PlanFits plan → All EventFits (trace_of_player p).events
player_made shape k s plan p playing fits =
    let made = made_fit p.who plan.steps p.events playing.before playing.follows (recursion_from_All StepFits plan.steps fits) in
    All-from_recursion EventFits (reverse p.events) (each-reverse EventFits p.events made.0)

pub players_made : (shape : Shape) (k s : ℕ) (plans : List Plan) (ps : List Player) → AllByRecursion PlanFits plans → ArePlaying shape k s plans ps →
    AllByRecursion (λ (L : Trace). All EventFits L.events) (map trace_of_player ps)
players_made shape k s plans [] fits w = tt
players_made shape k s [] (p ∷ ps) fits w = absurd w
players_made shape k s (plan ∷ plans) (p ∷ ps) fits w = (player_made shape k s plan p w.0 fits.0, players_made shape (suc k) (s + sessions_of_plan plan) plans ps fits.1 w.1)

pub actions_made : MadeActionsFit
actions_made server scenario run numbers sound =
    All-from_recursion (λ (L : Trace). All EventFits L.events) (traces_of run)
    (players_made scenario.world.shape 0 0 scenario.clients run.players (recursion_from_All PlanFits scenario.clients numbers.plans) sound.players)
