-- A client's play against the server of another program, over ends that a door makes and takes back.
use Rattle.std.specs.Prelude.{◌≡◌, ◌⊎◌, ℕ, ◌+◌, ◌++◌, List, map, length, Some, slice_get, Result, Ok, Err, Vec}
use Rattle.std.specs.declared.alloc.Global.{Global}
use Rattle.sv_bytes.specs.Faults.{Rose}
use Rattle.sv_link.specs.Ends.{Told, new_end}
use Rattle.sv_link.specs.declared.side.Side.TheVariants.{Client}
use Rattle.sv_client.specs.declared.trace.Trace.{Trace}
use Rattle.sv_client.specs.Seen.{ClientView, new_client}
use Rattle.sv_scenario.specs.declared.scenario.Plan.{Plan}
use Rattle.sv_scenario.specs.declared.scenario.Scenario.{Scenario}
use Rattle.sv_scenario.specs.Sessions.{sessions_of_plan}
use Rattle.sv_script.specs.Following.{FollowsToEnd}
use Rattle.sv_script.specs.Telling.{told_lines}
use Rattle.sv_player.specs.Played.{IsTraceOf, HasFollowed, AreDone, IsCause}
use Rattle.sv_player.specs.declared.outcome.PlayerCause.{PlayerCause}
use Rattle.sv_player.specs.declared.outcome.PlayerCause.TheVariants as causes
use Rattle.sv_player.specs.declared.outcome.ReplyFault.{ReplyFault}
use Rattle.sv_door.specs.Doors.{Passage, passage_of}
use Rattle.sv_join.specs.Legal.{IsLegalServer}
use Rattle.sv_join.specs.declared.outcome.Joined.{Joined}
use Rattle.sv_join.specs.declared.outcome.JoinFault.{JoinFault}
use Rattle.sv_join.specs.declared.outcome.JoinFault.TheVariants as join_faults

-- What a door tells of a play: how many ends it had made before, and what was kept of the ends that were given back, before and after.
pub record Passed : Type 0 where
  pub made : ℕ
  pub before : List Passage
  pub now : List Passage

abbrev pub passed : ℕ → List Passage → List Passage → Passed
passed made before now = record { made = made; before = before; now = now }

module _ {E : Type 0} (told : E → Told) (faults : E → ℕ) where
  -- what is kept of ends that are given back, in order
  abbrev pub passages_of : List E → List Passage
  passages_of ends = map (λ end. passage_of (told end) (faults end)) ends

  -- a new end of a client, with this number
  abbrev pub IsNewAt : ℕ → E → Type 0
  IsNewAt number end = (told end ≡ new_end number Client) × (faults end ≡ 0)

module _ {E : Type 0} (told : E → Told) (faults : E → ℕ) (calm : E → Type 0) where
  -- It is calm besides, where the door is sure of the port.
  pub record IsNewEnd (sure : Type 0) (number : ℕ) (end : E) : Type 0 where
    pub is : IsNewAt told faults number end
    pub calm_is : sure → calm end

  -- Client k of the scenario played its script, until this cause stopped it, over new ends, one for each of its sessions in order; and these
  -- were given back in that order.
  pub record IsPlay (scenario : Scenario) (k : ℕ) (door : Passed) (trace : Trace) (cause : PlayerCause) : Type 0 where
    pub plan : Plan
    pub plan_is : slice_get scenario.clients k ≡ Some plan
    pub ends : List E
    pub count : length ends ≡ sessions_of_plan plan
    pub new : (j : ℕ) (end : E) → slice_get ends j ≡ Some end → IsNewAt told faults (door.made + j) end
    pub left : List E
    pub done : AreDone told faults calm trace cause 0 ends left
    pub given : door.now ≡ door.before ++ passages_of told faults left
    pub trace_is : IsTraceOf (new_client (record { 0 = k }) scenario.world.shape plan.interest) 0 trace
    pub follows : HasFollowed scenario.world.shape plan.steps trace cause
    pub shows : IsCause told faults calm scenario.world.shape trace 0 ends left cause

  -- Client k came to the end of its script: it left, or quit. The lines tell the changes of its views.
  pub record IsWholePlay (scenario : Scenario) (k : ℕ) (door : Passed) (joined : Joined) : Type 0 where
    pub cause : PlayerCause
    pub ended : (cause ≡ causes.Finished) ⊎ (cause ≡ causes.Quit)
    pub play : IsPlay scenario k door joined.trace cause
    pub to_end : FollowsToEnd scenario.world.shape play.plan.steps joined.trace
    pub lines : joined.lines.items ≡ told_lines joined.trace

  -- Client k was stopped by a fault of an end, in the session that it has open.
  pub record IsBrokenPlay (scenario : Scenario) (k : ℕ) (door : Passed) : Type 0 where
    pub trace : Trace
    pub play : IsPlay scenario k door trace causes.LinkFault

  -- Client k was stopped by a reply that it does not take, in the session that it has open.
  pub record IsRefusingPlay (scenario : Scenario) (k : ℕ) (door : Passed) (fault : ReplyFault) : Type 0 where
    pub trace : Trace
    pub session : ℕ
    pub payload : Vec ℕ Global
    pub play : IsPlay scenario k door trace (causes.BadReply session payload fault)
    -- a legal server sends no such reply
    pub lawless : IsLegalServer scenario trace (passages_of told faults play.left) → ⊥

  -- Client k awaits a reply over an end that told that no more will come, in the session that it has open.
  pub record IsClosedPlay (scenario : Scenario) (k : ℕ) (door : Passed) : Type 0 where
    pub trace : Trace
    pub play : IsPlay scenario k door trace causes.Closed

  -- what is left of a play, by what it answers
  abbrev pub IsLeftOfPlay : Scenario → ℕ → Passed → (faults_before faults_now : ℕ) → Result Joined JoinFault → Type 0
  IsLeftOfPlay scenario k door before now (Ok joined) = IsWholePlay scenario k door joined
  IsLeftOfPlay scenario k door before now (Err join_faults.Link) = Rose before now ⊎ IsBrokenPlay scenario k door
  IsLeftOfPlay scenario k door before now (Err (join_faults.Reply fault)) = IsRefusingPlay scenario k door fault
  IsLeftOfPlay scenario k door before now (Err join_faults.Closed) = IsClosedPlay scenario k door
  IsLeftOfPlay scenario k door before now (Err join_faults.Memory) = Unit {0}

-- the door's count of faults rises just where an end could not be made
abbrev pub DoorCause : {A : Type 0} → ℕ → ℕ → Result A JoinFault → Type 0
DoorCause before now (Err join_faults.Link) = (now ≡ before) ⊎ Rose before now
DoorCause before now (Err _) = now ≡ before
DoorCause before now (Ok _) = now ≡ before

-- while ends are made: the door's count of faults rises just where one could not be
abbrev pub ConnectCause : {A : Type 0} → ℕ → ℕ → Result A JoinFault → Type 0
ConnectCause before now (Ok _) = now ≡ before
ConnectCause before now (Err join_faults.Link) = Rose before now
ConnectCause before now (Err join_faults.Memory) = now ≡ before
ConnectCause before now (Err _) = ⊥

-- what a player's end means for its caller
abbrev pub answer_of : PlayerCause → Trace → Vec (List ℕ) Global → Result Joined JoinFault
answer_of causes.Finished trace lines = Ok (record { trace = trace; lines = lines })
answer_of causes.Quit trace lines = Ok (record { trace = trace; lines = lines })
answer_of causes.LinkFault trace lines = Err join_faults.Link
answer_of causes.Closed trace lines = Err join_faults.Closed
answer_of (causes.BadReply session payload fault) trace lines = Err (join_faults.Reply fault)
answer_of causes.Memory trace lines = Err join_faults.Memory

-- client k of the scenario, which did nothing yet
pub record IsScenarioClient (scenario : Scenario) (k : ℕ) (client : ClientView) : Type 0 where
  pub plan : Plan
  pub plan_is : slice_get scenario.clients k ≡ Some plan
  pub client_is : client ≡ new_client (record { 0 = k }) scenario.world.shape plan.interest
