-- The limits and rules of scenarios.
use Rattle.std.specs.Prelude.{◌≡◌, ℕ, ◌≤◌, ◌<◌, Bool, true, false, List, [], ◌∷◌, length, IfSome}
use Rattle.std.specs.List.{AllByRecursion}
use Rattle.sv_world.specs.declared.world.ObjectId.{ObjectId}
use Rattle.sv_world.specs.declared.world.Shape.{Shape}
use Rattle.sv_world.specs.Faults.{is_ascending, may_be_observed, IsGoodAction}
use Rattle.sv_world.specs.Sets.{numbers_of}
use Rattle.sv_world.specs.Worlds.{IsGoodWorld}
use Rattle.sv_world.specs.Limits.{most_scenario_objects, most_clients, most_sessions, most_bound, most_reach, most_interest, most_steps, most_shown, most_turns}
use Rattle.sv_scenario.specs.declared.scenario.Plan.{Plan}
use Rattle.sv_scenario.specs.declared.scenario.Scenario.{Scenario}
use Rattle.sv_scenario.specs.declared.scenario.Step.{Step}
use Rattle.sv_scenario.specs.declared.scenario.Step.TheVariants as steps
use Rattle.sv_scenario.specs.declared.scenario.Turn.{Turn}
use Rattle.sv_scenario.specs.declared.scenario.Turn.TheVariants as turns
use Rattle.sv_scenario.specs.Sessions.{session_count}

-- Each is an object of the shape.
abbrev pub AreObjects : Shape → List ObjectId → Type 0
AreObjects shape objects = AllByRecursion (λ (o : ObjectId). o.0 < shape.objects) objects

-- 1 to 16 objects of the shape.
pub record IsGoodShow (shape : Shape) (objects : List ObjectId) : Type 0 where
  pub some : 1 ≤ length objects
  pub few : length objects ≤ most_shown
  pub known : AreObjects shape objects

abbrev pub IsGoodStep : Shape → Step → Type 0
IsGoodStep shape (steps.Act action) = IsGoodAction shape action
IsGoodStep shape steps.Poll = Unit {0}
IsGoodStep shape (steps.Observe objects) = may_be_observed shape.objects (numbers_of objects) ≡ true
IsGoodStep shape steps.Sync = Unit {0}
IsGoodStep shape (steps.Show objects) = IsGoodShow shape objects
IsGoodStep shape steps.Cut = Unit {0}
IsGoodStep shape steps.Quit = Unit {0}

-- No step but the last is a quit.
abbrev pub quits_last : List Step → Bool
quits_last [] = true
quits_last (step ∷ []) = true
quits_last (steps.Quit ∷ next ∷ ss) = false
quits_last (steps.Act action ∷ next ∷ ss) = quits_last (next ∷ ss)
quits_last (steps.Poll ∷ next ∷ ss) = quits_last (next ∷ ss)
quits_last (steps.Observe objects ∷ next ∷ ss) = quits_last (next ∷ ss)
quits_last (steps.Sync ∷ next ∷ ss) = quits_last (next ∷ ss)
quits_last (steps.Show objects ∷ next ∷ ss) = quits_last (next ∷ ss)
quits_last (steps.Cut ∷ next ∷ ss) = quits_last (next ∷ ss)

-- At most 64 objects of the shape, ascending, and at most 256 good steps.
pub record IsGoodPlan (shape : Shape) (plan : Plan) : Type 0 where
  pub few_objects : length plan.interest ≤ most_interest
  pub ascending : is_ascending (numbers_of plan.interest) ≡ true
  pub known : AreObjects shape plan.interest
  pub few_steps : length plan.steps ≤ most_steps
  pub steps : AllByRecursion (IsGoodStep shape) plan.steps
  pub quit : quits_last plan.steps ≡ true

-- A turn of one of so many clients or sessions.
abbrev pub IsGoodTurn : ℕ → ℕ → Turn → Type 0
IsGoodTurn clients sessions (turns.Client k) = k < clients
IsGoodTurn clients sessions (turns.Session s) = s < sessions
IsGoodTurn clients sessions (turns.Take k) = k < clients

-- A scenario that keeps the limits and rules.
pub record IsGoodScenario (scenario : Scenario) : Type 0 where
  pub world : IsGoodWorld scenario.world
  pub few_objects : scenario.world.shape.objects ≤ most_scenario_objects
  pub bound : scenario.bound ≤ most_bound
  pub reach : IfSome scenario.reach (λ n. n ≤ most_reach)
  pub some_clients : 1 ≤ length scenario.clients
  pub few_clients : length scenario.clients ≤ most_clients
  pub plans : AllByRecursion (IsGoodPlan scenario.world.shape) scenario.clients
  pub sessions : session_count scenario ≤ most_sessions
  pub few_turns : length scenario.schedule ≤ most_turns
  pub turns : AllByRecursion (IsGoodTurn (length scenario.clients) (session_count scenario)) scenario.schedule
