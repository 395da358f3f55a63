-- What is true of a scheduled run at each moment, after whatever turns.
-- A history is the list of a journal's entries with the latest first; events stand with the latest first too.
use Rattle.std.specs.Prelude.{◌≡◌, ◌⊎◌, ℕ, suc, ◌+◌, ◌<◌, Bool, true, List, [], ◌∷◌, All}
use Rattle.std.specs.List.{list_any}
use Rattle.sv_world.specs.declared.world.Shape.{Shape}
use Rattle.sv_journal.specs.declared.entry.Entry.{Entry}
use Rattle.sv_journal.specs.Answer.{Legal}
use Rattle.sv_client.specs.declared.trace.Event.{Event}
use Rattle.sv_client.specs.declared.trace.Event.TheVariants as events
use Rattle.sv_client.specs.Taking.{outstanding}
use Rattle.sv_client.specs.Proper.{Proper}
use Rattle.sv_scenario.specs.declared.scenario.Plan.{Plan}
use Rattle.sv_scenario.specs.declared.scenario.Scenario.{Scenario}
use Rattle.sv_scenario.specs.declared.scenario.Step.{Step}
use Rattle.sv_scenario.specs.declared.scenario.Step.TheVariants as steps
use Rattle.sv_scenario.specs.Sessions.{sessions_of_plan, session_count}
use Rattle.sv_script.specs.Following.{FollowsTo, must_join, is_finished}
use Rattle.law_system.specs.Fits.{is_join_of, Fits}
use Rattle.law_schedule.specs.Players.{Player}
use Rattle.law_schedule.specs.Serving.{Run, traces_of}
use Rattle.law_schedule.specs.Schedule.{rules_of}

-- The steps with some of the syncs that they begin with left out.
pub data ArePassed : List Step → List Step → Type 0 where
  none : {ss : List Step} → ArePassed ss ss
  sync : {ss left : List Step} → ArePassed ss left → ArePassed (steps.Sync ∷ ss) left

-- The player's steps are those that its events leave, but for the syncs that it passed since the last one; it passes them where nothing is
-- outstanding.
abbrev pub AreStepsLeft : Player → List Step → Type 0
AreStepsLeft p before = (p.left ≡ before) ⊎ ((outstanding p.who p.events ≡ []) × ArePassed before p.left)

-- The k-th client, with sessions from s on, did its script so far. It passes syncs only while it is in a session.
pub record IsPlaying (shape : Shape) (k s : ℕ) (plan : Plan) (p : Player) : Type 0 where
  pub who : p.who ≡ record { client = record { 0 = k }; interest = plan.interest; shape = shape }
  pub first : p.first ≡ s
  pub before : List Step
  pub follows : FollowsTo p.who plan.steps p.events before
  pub left : AreStepsLeft p before
  pub apart : must_join p.events ≡ true → p.left ≡ before
  pub closed : p.closed ≡ true → is_finished p.events ≡ true
  pub quit : (t : List Event) → p.events ≡ events.Quit ∷ t → p.closed ≡ true

-- There is one player for each client, in order.
abbrev pub ArePlaying : Shape → ℕ → ℕ → List Plan → List Player → Type 0
ArePlaying shape k s [] [] = Unit {0}
ArePlaying shape k s (plan ∷ plans) (p ∷ ps) = IsPlaying shape k s plan p × ArePlaying shape (suc k) (s + sessions_of_plan plan) plans ps
ArePlaying shape k s _ _ = ⊥

-- The player joined the session at some time.
abbrev pub has_joined : Player → ℕ → Bool
has_joined p s = list_any (is_join_of s) p.events

-- The journal is legal and fits the traces, each of which is one that a client of a scenario can have; each of its entries, an End too, is of a
-- session that a player joined; and each player did its script so far.
pub record IsSound (scenario : Scenario) (run : Run) : Type 0 where
  pub legal : Legal (rules_of scenario) run.history
  pub fits : Fits scenario.world.shape run.history (traces_of run)
  pub proper : All (Proper scenario.world.shape) (traces_of run)
  pub sessions : All (λ (e : Entry). e.session < session_count scenario) run.history
  pub begun : All (λ (e : Entry). list_any (λ (p : Player). has_joined p e.session) run.players ≡ true) run.history
  pub players : ArePlaying scenario.world.shape 0 0 scenario.clients run.players
