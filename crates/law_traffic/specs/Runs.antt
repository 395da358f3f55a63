-- A whole run of threads that came to its end, and the laws of it.
-- A journal has its entries in order here, the earliest first.
use Rattle.std.specs.Prelude.{◌≡◌, ◌⊎◌, ℕ, ◌+◌, ◌<◌, false, List, map, length, reverse, slice_get, Some, All}
use Rattle.sv_link.specs.Nets.{Transcript}
use Rattle.sv_wire.specs.Ranges.{ValueFits}
use Rattle.sv_journal.specs.declared.entry.Entry.{Entry}
use Rattle.sv_journal.specs.Answer.{Legal}
use Rattle.sv_lock.specs.Histories.{AreBelow}
use Rattle.sv_client.specs.declared.trace.Trace.{Trace}
use Rattle.sv_client.specs.Proper.{Proper, identity_of}
use Rattle.sv_scenario.specs.declared.scenario.Plan.{Plan}
use Rattle.sv_scenario.specs.declared.scenario.Scenario.{Scenario}
use Rattle.sv_scenario.specs.Limits.{IsGoodScenario}
use Rattle.sv_scenario.specs.Sessions.{sessions_of_plan, session_count}
use Rattle.sv_script.specs.Following.{Follows, FollowsToEnd}
use Rattle.law_system.specs.Records.{rules_of, AreTracesOf, EachTrace, ScriptsAreFollowed, IsRecordOf, IsFullRecord}
use Rattle.sv_player.specs.Carried.{BeginsWithReplies}
use Rattle.sv_player.specs.Stops.{is_cut, IsShut}
use Rattle.sv_player.specs.Played.{replies_of, IsOpenSession}
use Rattle.law_traffic.specs.Sessions.{Over, transcript, EndsMatched, IsSessionDone}
use Rattle.law_traffic.specs.Traffic.{IsTraffic}
use Rattle.law_traffic.specs.Stuck.{IsStopped, IsTakeable}

-- There is one for each session of a client, at its number in the list, and this holds of it.
abbrev pub EachSession : {X : Type 0} → (ℕ → X → Type 0) → List X → Plan → Trace → Type 0
EachSession {X = X} P sessions plan L =
    (n : ℕ) → n < sessions_of_plan plan → (x : X) × ((slice_get sessions (L.first + n) ≡ Some x) × P (L.first + n) x)

-- The journal is legal, of the scenario's sessions alone; each client has its trace, which is one that a client can have and follows the
-- client's script as far as it goes; and each session is done.
pub record IsRun (scenario : Scenario) (journal : List Entry) (Ls : List Trace) (sessions : List Over) : Type 0 where
  pub legal : Legal (rules_of scenario) (reverse journal)
  pub below : AreBelow (λ (e : Entry). e.session) (session_count scenario) journal
  pub clients : AreTracesOf 0 0 scenario.clients Ls
  pub proper : All (Proper scenario.world.shape) Ls
  pub follows : EachTrace (λ plan L. Follows scenario.world.shape plan.steps L) scenario.clients Ls
  pub count : length sessions ≡ session_count scenario
  pub done : EachTrace (λ plan L. EachSession (IsSessionDone journal L) sessions plan L) scenario.clients Ls

-- A good scenario, with numbers of their types in its opening world.
pub record IsGoodRun (scenario : Scenario) : Type 0 where
  pub good : IsGoodScenario scenario
  pub opening : All ValueFits scenario.world.values

-- ---- The record

-- A run leaves a record: the journal fits the traces, with one End for each session. Players may have stopped early.
abbrev pub RunsLeaveRecords : Type 0
RunsLeaveRecords = (scenario : Scenario) (journal : List Entry) (Ls : List Trace) (sessions : List Over) →
    IsGoodRun scenario → IsRun scenario journal Ls sessions → IsRecordOf scenario (reverse journal) Ls

-- Each trace follows its script to the end, or something stopped its player.
abbrev pub EndOrAreStopped : Scenario → List Trace → List Over → Type 0
EndOrAreStopped scenario Ls sessions =
    EachTrace (λ plan L. FollowsToEnd scenario.world.shape plan.steps L ⊎ IsStopped scenario.world.shape L sessions) scenario.clients Ls

-- The record is full where each player stopped for its script or for something of these: then it was for its script.
abbrev pub RunsLeaveFullRecords : Type 0
RunsLeaveFullRecords = (scenario : Scenario) (journal : List Entry) (Ls : List Trace) (sessions : List Over) →
    IsGoodRun scenario → IsRun scenario journal Ls sessions → EndOrAreStopped scenario Ls sessions → IsFullRecord scenario (reverse journal) Ls

-- ---- The traffic

-- There is one transcript for each session, in order, with the traffic of the journal and of the session's trace.
pub record TrafficIsRecorded (scenario : Scenario) (h : List Entry) (Ls : List Trace) (transcripts : List Transcript) : Type 0 where
  pub count : length transcripts ≡ session_count scenario
  pub each : EachTrace (λ plan L. EachSession (λ s x. IsTraffic h L s x) transcripts plan L) scenario.clients Ls

abbrev pub RunsMoveTheirTraffic : Type 0
RunsMoveTheirTraffic = (scenario : Scenario) (journal : List Entry) (Ls : List Trace) (sessions : List Over) →
    IsGoodRun scenario → IsRun scenario journal Ls sessions → TrafficIsRecorded scenario (reverse journal) Ls (map transcript sessions)

-- ---- Open sessions

-- Session s of a trace of the run is open, and this is what is left of it.
pub record IsOpenIn (Ls : List Trace) (sessions : List Over) (L : Trace) (s : ℕ) (x : Over) : Type 0 where
  pub place : ℕ
  pub member : slice_get Ls place ≡ Some L
  pub session : IsOpenSession L s
  pub there : slice_get sessions s ≡ Some x

-- No client awaits a reply at an end that told that no more will come.
abbrev pub NoClientIsShut : Type 0
NoClientIsShut = (scenario : Scenario) (journal : List Entry) (Ls : List Trace) (sessions : List Over) (L : Trace) (s : ℕ) (x : Over) →
    IsGoodRun scenario → IsRun scenario journal Ls sessions → IsOpenIn Ls sessions L s x →
    IsShut (identity_of scenario.world.shape L) (reverse L.events) s x.client → ⊥

-- Each reply that comes next in an open session is one that its client takes.
abbrev pub NextRepliesAreTaken : Type 0
NextRepliesAreTaken = (scenario : Scenario) (journal : List Entry) (Ls : List Trace) (sessions : List Over) (L : Trace) (s : ℕ) (x : Over) (rest : List ℕ) →
    IsGoodRun scenario → IsRun scenario journal Ls sessions → IsOpenIn Ls sessions L s x → BeginsWithReplies x.client.received (replies_of L s) rest →
    IsTakeable scenario.world.shape L rest

-- So players stop for their scripts alone.
abbrev pub PlayersComeToTheirEnds : Type 0
PlayersComeToTheirEnds = (scenario : Scenario) (journal : List Entry) (Ls : List Trace) (sessions : List Over) →
    IsGoodRun scenario → IsRun scenario journal Ls sessions → EndOrAreStopped scenario Ls sessions → ScriptsAreFollowed scenario.world.shape scenario.clients Ls

-- No fault was counted at an end of a session that was settled and not cut.
abbrev pub UncutSessionsHaveNoFault : Type 0
UncutSessionsHaveNoFault = (L : Trace) (s : ℕ) (x : Over) → EndsMatched L s x → is_cut (reverse L.events) s ≡ false →
    (x.server_faults ≡ 0) × (x.client_faults ≡ 0)
