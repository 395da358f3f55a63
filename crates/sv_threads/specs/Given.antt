-- What the threads of a run are given: a pair of ends and a pass for each session, in order, and a client for each plan.
use Rattle.std.specs.Prelude.{◌≡◌, ℕ, ◌+◌, ◌<◌, ◌≤◌, Bool, List, [], length, Some, None}
use Rattle.sv_world.specs.declared.world.Shape.{Shape}
use Rattle.sv_world.specs.Limits.{most_clients, most_sessions}
use Rattle.sv_link.specs.Ends.{Told, new_end}
use Rattle.sv_link.specs.declared.side.Side.{Side}
use Rattle.sv_link.specs.declared.side.Side.TheVariants.{Server, Client}
use Rattle.sv_lock.specs.Passes.{LockView}
use Rattle.sv_client.specs.Seen.{new_client}
use Rattle.sv_scenario.specs.declared.scenario.Plan.{Plan}
use Rattle.sv_scenario.specs.declared.scenario.Scenario.{Scenario}
use Rattle.sv_scenario.specs.Limits.{IsGoodPlan}
use Rattle.sv_scenario.specs.Sessions.{sessions_of_plan, session_count}
use Rattle.sv_session.specs.Serving.{SessionPass}
use Rattle.law_system.specs.Records.{rules_of}
use Rattle.law_system.specs.Places.{EachPlace}
use Rattle.sv_threads.specs.declared.tasks.Service.{Service}
use Rattle.sv_threads.specs.declared.tasks.Part.{Part}
use Rattle.sv_threads.specs.Telling.{Telling}

-- a keeper of the lock over a new sequencer of the scenario, which made so many passes and took none in
abbrev pub keeper_after : ℕ → LockView → Scenario → SessionPass
keeper_after count lock scenario =
    record { lock = lock.id; session = None; base = rules_of scenario; seen = []; mine = []; made = count; ended = [] }

-- the pass of session s
abbrev pub pass_of : ℕ → LockView → Scenario → SessionPass
pass_of s lock scenario =
    record { lock = lock.id; session = Some s; base = rules_of scenario; seen = []; mine = []; made = 0; ended = [] }

-- what all threads of a run share: the lock, the scenario, the number of the first pair, whether the net is calm, and whether somebody watches
pub record Setting : Type 1 where
  pub lock : LockView
  pub scenario : Scenario
  pub pairs : ℕ
  pub calm : Type 0
  pub watched : Bool

abbrev pub setting : LockView → Scenario → ℕ → Type 0 → Bool → Setting
setting lock scenario pairs calm watched = record { lock = lock; scenario = scenario; pairs = pairs; calm = calm; watched = watched }

-- the ends that a client is given
abbrev pub ends_given : {E W : Type 0} → Part E W → List E
ends_given x = x.ends.items

-- The client of number k, whose first session is s, with an end for each of its sessions.
pub record IsPartOf {E W : Type 0} (telling_of : W → Telling) (shape : Shape) (watched : Bool) (k s : ℕ) (plan : Plan) (x : Part E W) : Type 0 where
  pub client : x.client ≡ new_client (record { 0 = k }) shape plan.interest
  pub script : x.script.now ≡ plan.steps
  pub first : x.first ≡ s
  pub teller : (telling_of x.teller.now).shape ≡ shape
  pub watched_is : (telling_of x.teller.now).watched ≡ watched
  pub count : length x.ends.items ≡ sessions_of_plan plan
  pub number : k < most_clients
  pub good : IsGoodPlan shape plan
  pub last : s + sessions_of_plan plan ≤ most_sessions

module _ {E : Type 0} (told : E → Told) (faults : E → ℕ) (calm : E → Type 0) where
  -- a new end of a pair, which is calm where its net is
  pub record IsNewEnd (net_calm : Type 0) (side : Side) (pair : ℕ) (end : E) : Type 0 where
    pub told_is : told end ≡ new_end pair side
    pub faultless : faults end ≡ 0
    pub calm_is : net_calm → calm end

module _ {E : Type 0} (told : E → Told) (faults : E → ℕ) (calm : E → Type 0) (run : Setting) where
  -- the end of session s
  abbrev pub IsEndOf : Side → ℕ → E → Type 0
  IsEndOf side s end = IsNewEnd told faults calm run.calm side (run.pairs + s) end

module _ {E W : Type 0} (told : E → Told) (faults : E → ℕ) (calm : E → Type 0) (telling_of : W → Telling) (run : Setting) where
  -- the client of number k, over the ends of its sessions
  pub record IsPart (k s : ℕ) (plan : Plan) (x : Part E W) : Type 0 where
    pub part : IsPartOf telling_of run.scenario.world.shape run.watched k s plan x
    pub ends : EachPlace (λ j end. IsEndOf told faults calm run Client (s + j) end) x.ends.items

module _ {E G : Type 0} (told : E → Told) (faults : E → ℕ) (calm : E → Type 0) (run : Setting) where
  -- session s
  pub record IsService (s : ℕ) (x : Service E G) : Type 0 where
    pub lock : x.lock.now ≡ run.lock
    pub pass : x.pass ≡ pass_of s run.lock run.scenario
    pub low : s < session_count run.scenario
    pub end : IsEndOf told faults calm run Server s x.end
