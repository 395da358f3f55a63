-- What a session's loop and a player are given, and what they promise.
use Rattle.std.specs.Prelude.{◌≡◌, ◌≢◌, ℕ, ◌+◌, ◌≤◌, Bool, false, List, [], ◌∷◌, length}
use Rattle.std.specs.List.{AllByRecursion}
use Rattle.sv_world.specs.declared.world.Shape.{Shape}
use Rattle.sv_world.specs.Limits.{most_sessions}
use Rattle.sv_link.specs.Ends.{Told}
use Rattle.sv_client.specs.Seen.{ClientView, new_client}
use Rattle.sv_scenario.specs.declared.scenario.Step.{Step}
use Rattle.sv_scenario.specs.Sessions.{cuts_in}
use Rattle.sv_session.specs.Serving.{MayServe, Served, SessionCause}
use Rattle.sv_player.specs.Going.{MayPlay}
use Rattle.sv_player.specs.Sessions.{IsFresh}
use Rattle.sv_player.specs.Played.{IsTraceOf, HasFollowed, AreDone, IsCause, lines_told}
use Rattle.sv_player.specs.declared.outcome.PlayerOut.{PlayerOut}
use Rattle.sv_player.specs.declared.outcome.PlayerCause.TheVariants as causes
use Rattle.sv_threads.specs.declared.tasks.Service.{Service}
use Rattle.sv_threads.specs.declared.tasks.Part.{Part}
use Rattle.sv_threads.specs.declared.tasks.Task.{Task}
use Rattle.sv_threads.specs.declared.tasks.Task.TheVariants as tasks
use Rattle.sv_threads.specs.declared.tasks.Serviced.{Serviced}
use Rattle.sv_threads.specs.declared.tasks.TaskOut.{TaskOut}
use Rattle.sv_threads.specs.declared.tasks.TaskOut.TheVariants as outs
use Rattle.sv_threads.specs.Telling.{Telling}

-- ---- The tasks of each kind, in order

abbrev pub services_of : {E G W : Type 0} → List (Task E G W) → List (Service E G)
services_of [] = []
services_of (tasks.Serve x ∷ ts) = x ∷ services_of ts
services_of (tasks.Play x ∷ ts) = services_of ts

abbrev pub parts_of : {E G W : Type 0} → List (Task E G W) → List (Part E W)
parts_of [] = []
parts_of (tasks.Serve x ∷ ts) = parts_of ts
parts_of (tasks.Play x ∷ ts) = x ∷ parts_of ts

-- what became of the sessions and of the clients, in order
abbrev pub serviced_of : {E : Type 0} → List (TaskOut E) → List (Serviced E)
serviced_of [] = []
serviced_of (outs.Served y ∷ os) = y ∷ serviced_of os
serviced_of (outs.Played y ∷ os) = serviced_of os

abbrev pub played_of : {E : Type 0} → List (TaskOut E) → List (PlayerOut E)
played_of [] = []
played_of (outs.Served y ∷ os) = played_of os
played_of (outs.Played y ∷ os) = y ∷ played_of os

-- ---- What they need

module _ {E : Type 0} (told : E → Told) where
  -- A client may play its script over these ends, the first of them that of session `first`, for a teller of changes in worlds of this
  -- shape.
  pub record MayTakePart (shape : Shape) (client : ClientView) (script : List Step) (first : ℕ) (ends : List E) : Type 0 where
    pub client_is : client ≡ new_client client.who.client client.who.shape client.who.interest
    pub script_is : MayPlay client.who script
    pub teller_is : shape ≡ client.who.shape
    pub count : length ends ≡ 1 + cuts_in script
    pub numbers : first + length ends ≤ most_sessions
    pub fresh : AllByRecursion (λ end. IsFresh (told end)) ends

module _ {E G : Type 0} (told : E → Told) where
  -- A session may be served by this pass, over an open end.
  abbrev pub MayBeServed : Service E G → Type 0
  MayBeServed x = MayServe x.lock.now x.pass × ((told x.end).closed ≡ false)

module _ {E G W : Type 0} (told : E → Told) (telling_of : W → Telling) where
  abbrev pub IsReady : Task E G W → Type 0
  IsReady (tasks.Serve x) = MayBeServed told x
  IsReady (tasks.Play x) = MayTakePart told (telling_of x.teller.now).shape x.client x.script.now x.first x.ends.items

-- ---- What they promise

module _ {E : Type 0} (told : E → Told) (faults : E → ℕ) (calm : E → Type 0) where
  -- the client played its script, or something stopped it; its changes were told where somebody watches
  pub record TookPart (watched : Bool) (client : ClientView) (script : List Step) (first : ℕ) (ends : List E) (y : PlayerOut E) : Type 0 where
    pub trace : IsTraceOf client first y.trace
    pub follows : HasFollowed client.who.shape script y.trace y.cause
    pub done : AreDone told faults calm y.trace y.cause first ends y.ends.items
    pub lines : y.cause ≢ causes.Memory → y.lines.items ≡ lines_told watched y.trace
    pub cause : IsCause told faults calm client.who.shape y.trace first ends y.ends.items y.cause

module _ {E G : Type 0} (told : E → Told) (faults : E → ℕ) (calm : E → Type 0) where
  -- the session was served
  pub record WasServed (x : Service E G) (y : Serviced E) : Type 0 where
    pub served : Served (told x.end) x.pass y.out (told y.end) y.pass
    pub cause : SessionCause (faults x.end) (faults y.end) y.out
    pub calm_is : calm x.end → calm y.end

module _ {E G W : Type 0} (told : E → Told) (faults : E → ℕ) (calm : E → Type 0) (telling_of : W → Telling) where
  abbrev pub KeepsTask : Task E G W → TaskOut E → Type 0
  KeepsTask (tasks.Serve x) (outs.Served y) = WasServed told faults calm x y
  KeepsTask (tasks.Play x) (outs.Played y) = TookPart told faults calm (telling_of x.teller.now).watched x.client x.script.now x.first x.ends.items y
  KeepsTask _ _ = ⊥
