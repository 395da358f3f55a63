-- A whole run on threads.
use Rattle.std.specs.Prelude.{◌≡◌, ◌⊎◌, ℕ, ◌+◌, List, [], ◌∷◌, ◌++◌, map, length, reverse, Result, Ok, Err}
use Rattle.std.specs.List.{range_with_len}
use Rattle.sv_bytes.specs.Faults.{Rose}
use Rattle.sv_link.specs.Nets.{Transcript}
use Rattle.sv_journal.specs.declared.entry.Entry.{Entry}
use Rattle.sv_journal.specs.Answer.{Legal}
use Rattle.sv_lock.specs.Histories.{AreJust, AreBelow}
use Rattle.sv_lock.specs.Passes.{AllEnded}
use Rattle.sv_client.specs.declared.trace.Trace.{Trace}
use Rattle.sv_scenario.specs.declared.scenario.Scenario.{Scenario}
use Rattle.sv_scenario.specs.Sessions.{session_count}
use Rattle.sv_session.specs.Serving.{SessionPass}
use Rattle.law_system.specs.Records.{rules_of, EachTrace, IsFullRecord}
use Rattle.sv_player.specs.Awaiting.{WaitsWhereNeeded}
use Rattle.law_traffic.specs.Runs.{TrafficIsRecorded}
use Rattle.sv_threads.specs.declared.outcome.PlayFault.{PlayFault}
use Rattle.sv_threads.specs.declared.outcome.PlayFault.TheVariants as faults

-- The keeper took in the pass of each session, in the order of their numbers, and has seen the whole history, which is lawful: for each
-- session just its pass's entries.
pub record TookAllIn (scenario : Scenario) (old new : SessionPass) : Type 0 where
  pub lock : new.lock ≡ old.lock
  pub session : new.session ≡ old.session
  pub base : new.base ≡ old.base
  pub made : new.made ≡ session_count scenario
  pub numbers : map (λ (x : ℕ × List Entry). x.0) new.ended ≡ range_with_len 0 (session_count scenario)
  pub ended : AllEnded new
  pub just : AreJust (λ (e : Entry). e.session) new.seen new.ended
  pub below : AreBelow (λ (e : Entry). e.session) (session_count scenario) new.seen
  pub legal : Legal (rules_of scenario) (reverse new.seen)

-- What a run on threads leaves, for a journal with the latest entry first: a full record; one transcript more for each session, in order,
-- with the traffic of the journal and of the session's trace; all jobs in one run of the crew, one for each session and each client; and each
-- client waited for a reply only where its next step could not be done.
pub record IsThreadedRun (scenario : Scenario) (h : List Entry) (Ls : List Trace) (settled_before settled_now : List Transcript) (ran_before ran_now : List ℕ) : Type 0 where
  pub full : IsFullRecord scenario h Ls
  pub transcripts : List Transcript
  pub added : settled_now ≡ settled_before ++ transcripts
  pub traffic : TrafficIsRecorded scenario h Ls transcripts
  pub ran : ran_now ≡ ran_before ++ (session_count scenario + length scenario.clients) ∷ []
  pub awaited : EachTrace (λ plan L. WaitsWhereNeeded scenario.world.shape plan.steps L) scenario.clients Ls

-- The counts of faults of the crew and of the net, at each answer: the crew's rises just at Start, the net's just at Link.
abbrev pub PlayCause : {A : Type 0} → (crew_before crew_now net_before net_now : ℕ) → Result A PlayFault → Type 0
PlayCause crew_before crew_now net_before net_now (Ok _) = (crew_now ≡ crew_before) × (net_now ≡ net_before)
PlayCause crew_before crew_now net_before net_now (Err faults.Start) = Rose crew_before crew_now × (net_now ≡ net_before)
PlayCause crew_before crew_now net_before net_now (Err faults.Link) = (crew_now ≡ crew_before) × Rose net_before net_now
PlayCause crew_before crew_now net_before net_now (Err faults.Memory) = (crew_now ≡ crew_before) × (net_now ≡ net_before)

-- A run's jobs, so many, run at most once, and all in one run of the crew: at an answer they ran, and none did where a thread could not be
-- started.
abbrev pub RunsOnce : {A : Type 0} → ℕ → (before now : List ℕ) → Result A PlayFault → Type 0
RunsOnce jobs before now (Ok _) = now ≡ before ++ jobs ∷ []
RunsOnce jobs before now (Err faults.Start) = now ≡ before
RunsOnce jobs before now (Err faults.Link) = (now ≡ before) ⊎ (now ≡ before ++ jobs ∷ [])
RunsOnce jobs before now (Err faults.Memory) = (now ≡ before) ⊎ (now ≡ before ++ jobs ∷ [])
