-- Why a run is not opened, and what it has opened then.
use Rattle.std.specs.Prelude.{◌≡◌, ℕ, suc, ◌+◌, ◌<◌, ◌≤◌, Bool, false, List, [], ◌∷◌, length, Result, Ok, Err, if◌then◌else◌}
use Rattle.std.specs.List.{AllZip}
use Rattle.std.specs.Vec.{vec_capacity}
use Rattle.sv_bytes.specs.Faults.{Rose}
use Rattle.sv_world.specs.declared.world.Shape.{Shape}
use Rattle.sv_world.specs.Limits.{most_clients}
use Rattle.sv_link.specs.Ends.{Told}
use Rattle.sv_link.specs.declared.side.Side.TheVariants.{Server, Client}
use Rattle.sv_client.specs.Seen.{new_client}
use Rattle.sv_scenario.specs.declared.scenario.Plan.{Plan}
use Rattle.sv_scenario.specs.Limits.{IsGoodPlan}
use Rattle.sv_scenario.specs.Sessions.{sessions_of_plan}
use Rattle.law_system.specs.Places.{EachPlace}
use Rattle.sv_threads.specs.declared.outcome.PlayFault.{PlayFault}
use Rattle.sv_threads.specs.declared.outcome.PlayFault.TheVariants as faults
use Rattle.sv_threads.specs.declared.gathering.ClientEnd.{ClientEnd}
use Rattle.sv_threads.specs.declared.opening.Entrant.{Entrant}
use Rattle.sv_threads.specs.declared.opening.OpeningRoom.{OpeningRoom}
use Rattle.sv_threads.specs.declared.tasks.Service.{Service}
use Rattle.sv_threads.specs.Given.{IsNewEnd}
use Rattle.sv_threads.specs.Pairs.{Pairing}
use Rattle.sv_threads.specs.Settling.{SettledCause, SettledEach, AreCalm, AnyZip, Differ}

-- a net's count of faults rises just where a pair could not be made
abbrev pub FaultCause : ℕ → ℕ → PlayFault → Type 0
FaultCause before now faults.Start = ⊥
FaultCause before now faults.Link = Rose before now
FaultCause before now faults.Memory = now ≡ before

abbrev pub OpeningCause : {A : Type 0} → ℕ → ℕ → Result A PlayFault → Type 0
OpeningCause before now (Ok _) = now ≡ before
OpeningCause before now (Err fault) = FaultCause before now fault

-- ---- Before any pair is made

-- The client of number k, which has no end yet, and room for one for each of its sessions.
pub record IsEntrant {E : Type 0} (shape : Shape) (k : ℕ) (plan : Plan) (x : Entrant E) : Type 0 where
  pub client : x.client ≡ new_client (record { 0 = k }) shape plan.interest
  pub number : k < most_clients
  pub good : IsGoodPlan shape plan
  pub empty : x.ends.items ≡ []
  pub room : sessions_of_plan plan ≤ vec_capacity x.ends

-- There is one for each client, in order, numbered from k on.
abbrev pub EachEntrant : {E : Type 0} → Shape → ℕ → List Plan → List (Entrant E) → Type 0
EachEntrant shape k [] [] = Unit {0}
EachEntrant shape k (plan ∷ plans) (x ∷ xs) = IsEntrant shape k plan x × EachEntrant shape (suc k) plans xs
EachEntrant shape k _ _ = ⊥

-- There is room for all that these sessions and clients need.
pub record IsRoomFor {E G W : Type 0} (sessions clients : ℕ) (room : OpeningRoom E G W) : Type 0 where
  pub services : (room.services.items ≡ []) × (sessions ≤ vec_capacity room.services)
  pub ends : (room.ends.items ≡ []) × (sessions ≤ vec_capacity room.ends)
  pub parts : (room.parts.items ≡ []) × (clients ≤ vec_capacity room.parts)
  pub tasks : (room.tasks.items ≡ []) × (sessions + clients ≤ vec_capacity room.tasks)

-- ---- Ends that nobody used

-- the end of what serves a session
abbrev pub server_end : {E G : Type 0} → Service E G → E
server_end x = x.end

-- a client's end, whose session the client did not leave
abbrev pub uncut : {E : Type 0} → E → ClientEnd E
uncut end = record { end = end; cut = false }

module _ {E : Type 0} (told : E → Told) (faults : E → ℕ) (calm : E → Type 0) where
  -- The net made pairs since, and here are both ends of each, in order. Nobody used them.
  pub record HoldsUnused (net_calm : Type 0) (old now : Pairing) (servers : List E) (clients : List (ClientEnd E)) : Type 0 where
    pub as_many : length servers ≡ length clients
    pub at_servers : EachPlace (λ s end. IsNewEnd told faults calm net_calm Server (old.made + s) end) servers
    pub at_clients : EachPlace (λ s z. IsNewEnd told faults calm net_calm Client (old.made + s) z.end) clients
    pub settled : now.settled ≡ old.settled
    pub unmatched : now.unmatched ≡ old.unmatched
    pub made : now.made ≡ old.made + length servers
    pub owed : now.owed ≡ old.owed + length servers

module _ {E : Type 0} (told : E → Told) (calm : E → Type 0) where
  -- A pair was settled for each two ends, after a fault. It stays the fault, but where a pair did not match.
  pub record SettledAfter (net_calm : Type 0) (servers : List E) (clients : List (ClientEnd E)) (faults_before faults_now : ℕ) (old now : Pairing) (fault after : PlayFault) : Type 0 where
    pub matched : Bool
    pub each : SettledEach told calm net_calm servers clients matched old now
    pub after_is : after ≡ (if matched then fault else faults.Link)
    pub cause : SettledCause faults_before faults_now matched
    pub certain : matched ≡ false → net_calm → AllZip (AreCalm calm) servers clients → AnyZip (Differ told) servers clients
