-- The scheduled run is done, its journal and traces are its record, and each trace follows its script to the end.
use Rattle.std.proofs.Common.{◌≡◌, ℕ, suc, ◌+◌, ◌<◌, ◌≤◌, true, List, [], ◌∷◌, map, sym, ap, subst, arith, true≢false}
use Rattle.std.specs.List.{AllByRecursion}
use Rattle.std.proofs.lemmas.List.Elements.{recursion_from_All}
use Rattle.sv_world.specs.declared.world.Shape.{Shape}
use Rattle.sv_client.specs.declared.trace.Event.{Event}
use Rattle.sv_client.specs.Taking.{Identity}
use Rattle.sv_client.specs.Proper.{Proper, identity_of}
use Rattle.sv_scenario.specs.declared.scenario.Plan.{Plan}
use Rattle.sv_scenario.specs.declared.scenario.Scenario.{Scenario}
use Rattle.sv_scenario.specs.Limits.{IsGoodScenario}
use Rattle.sv_scenario.specs.Sessions.{sessions_of_plan, session_count}
use Rattle.sv_script.specs.Following.{FollowsTo, FollowsToEnd, is_finished}
use Rattle.sv_script.specs.Laws.{EndsDoAllSteps}
use Rattle.law_system.specs.Records.{AreTracesOf, IsRecordOf, ScriptsAreFollowed, ScriptsAreDone, ends_in}
use Rattle.law_system.proofs.Full.{scripts-done}
use Rattle.law_system.proofs.Every.{each-at}
use Rattle.law_system.proofs.Ends.{one-end}
use Rattle.law_schedule.specs.Players.{Player, repeated, trace_of_player}
use Rattle.law_schedule.specs.Serving.{Run, Server, opening_run, turns_served, round_served, run_served, most_rounds, traces_of}
use Rattle.law_schedule.specs.Schedule.{rules_of, plain_server, scheduled_run}
use Rattle.law_schedule.specs.Served.{IsSoundOver}
use Rattle.law_schedule.specs.Sound.{IsPlaying, ArePlaying, IsSound}
use Rattle.law_schedule.specs.Done.{IsRunDone, NextRepliesAreTaken}
use Rattle.law_schedule.proofs.DoneGiven.{StaySound}
use Rattle.law_schedule.proofs.DoneFacts.{following, same-who, same-events}
use Rattle.law_schedule.proofs.DoneRounds.{IsGoing, going-turned, going-rounds}
use Rattle.law_schedule.proofs.DoneEnds.{was-joined, rounds-done}

-- ---- What a done run says

traces-of : (shape : Shape) (k s : ℕ) (plans : List Plan) (ps : List Player) → ArePlaying shape k s plans ps → AreTracesOf k s plans (map trace_of_player ps)
traces-of shape k s [] [] a = tt
traces-of shape k s [] (p ∷ ps) a = absurd a
traces-of shape k s (plan ∷ plans) [] a = absurd a
traces-of shape k s (plan ∷ plans) (p ∷ ps) a =
    (ap (λ (w : Identity). w.client) a.0.who, ap (λ (w : Identity). w.interest) a.0.who, a.0.first, traces-of shape (suc k) (s + sessions_of_plan plan) plans ps a.1)

follows-end : (shape : Shape) (k s : ℕ) (plan : Plan) (p : Player) → IsPlaying shape k s plan p → p.closed ≡ true → FollowsToEnd shape plan.steps (trace_of_player p)
follows-end shape k s plan p a c =
    let who = same-who shape p (ap (λ (w : Identity). w.shape) a.who) in
    let back = sym (same-events p) in
    record {
      follows = record {
        left = a.before;
        follows = subst (λ (t : List Event). FollowsTo (identity_of shape (trace_of_player p)) plan.steps t a.before) back
            (subst (λ (w : Identity). FollowsTo w plan.steps p.events a.before) (sym who) a.follows);
      };
      finished = subst (λ (t : List Event). is_finished t ≡ true) back (a.closed c);
    }

scripts-followed : (shape : Shape) (k s : ℕ) (plans : List Plan) (ps : List Player) → ArePlaying shape k s plans ps → AllByRecursion (λ (p : Player). p.closed ≡ true) ps →
    ScriptsAreFollowed shape plans (map trace_of_player ps)
scripts-followed shape k s [] [] a c = tt
scripts-followed shape k s [] (p ∷ ps) a c = absurd a
scripts-followed shape k s (plan ∷ plans) [] a c = absurd a
scripts-followed shape k s (plan ∷ plans) (p ∷ ps) a c =
    (follows-end shape k s plan p a.0 c.0, scripts-followed shape (suc k) (s + sessions_of_plan plan) plans ps a.1 c.1)

-- Each session had just one End.
ends-one : (server : Server) (scenario : Scenario) → IsGoodScenario scenario → (run : Run) → IsSoundOver server scenario run → IsRunDone scenario run →
    (s : ℕ) → s < session_count scenario → ends_in run.history s ≡ 1
ends-one server scenario good run sound done s l =
    let closed = recursion_from_All (λ (p : Player). p.closed ≡ true) run.players done.closed in
    let w = was-joined server scenario good run sound (λ i p at. each-at (λ (q : Player). q.closed ≡ true) run.players i p closed at) s l in
    one-end run.history s ((following server scenario good run sound w.place w.player w.at).fits s w.joined).ended (done.ended s l)

-- ---- The run over a server

module _ (server : Server) (scenario : Scenario) (good : IsGoodScenario scenario) (honest : NextRepliesAreTaken server scenario) (stay : StaySound server scenario) where
  going-schedule : IsGoing server scenario (turns_served server (opening_run scenario) scenario.schedule)
  going-schedule =
      going-turned server scenario good stay scenario.schedule (opening_run scenario) good.turns
      (record { sound = stay.opening; due = λ s e. absurd (true≢false (sym e)) })

  -- After at least 777 rounds.
  rounds-going : (n : ℕ) → IsGoing server scenario (repeated n (round_served server (session_count scenario)) (turns_served server (opening_run scenario) scenario.schedule))
  rounds-going n = going-rounds server scenario good honest stay n (turns_served server (opening_run scenario) scenario.schedule) going-schedule

  rounds-enough : (n : ℕ) → 777 ≤ n → IsRunDone scenario (repeated n (round_served server (session_count scenario)) (turns_served server (opening_run scenario) scenario.schedule))
  rounds-enough n l = rounds-done server scenario good honest stay (turns_served server (opening_run scenario) scenario.schedule) going-schedule n l

  rounds-ended : (n : ℕ) → 777 ≤ n →
      (λ (run : Run). (s : ℕ) → s < session_count scenario → ends_in run.history s ≡ 1)
      (repeated n (round_served server (session_count scenario)) (turns_served server (opening_run scenario) scenario.schedule))
  rounds-ended n l = ends-one server scenario good _ (rounds-going n).sound (rounds-enough n l)

  rounds-scripts : (n : ℕ) → 777 ≤ n →
      (λ (run : Run). ScriptsAreFollowed scenario.world.shape scenario.clients (traces_of run))
      (repeated n (round_served server (session_count scenario)) (turns_served server (opening_run scenario) scenario.schedule))
  rounds-scripts n l =
      scripts-followed scenario.world.shape 0 0 scenario.clients _ (rounds-going n).sound.players
      (recursion_from_All (λ (p : Player). p.closed ≡ true) _ (rounds-enough n l).closed)

  pub served-done : IsRunDone scenario (run_served server scenario)
  served-done = rounds-enough most_rounds (omega arith)

  pub served-ended : (s : ℕ) → s < session_count scenario → ends_in (run_served server scenario).history s ≡ 1
  served-ended = rounds-ended most_rounds (omega arith)

  pub served-scripts : ScriptsAreFollowed scenario.world.shape scenario.clients (traces_of (run_served server scenario))
  served-scripts = rounds-scripts most_rounds (omega arith)

-- Each client did all of its script.
pub scripts-whole : EndsDoAllSteps → (server : Server) (scenario : Scenario) → IsGoodScenario scenario → (run : Run) → IsSoundOver server scenario run →
    ScriptsAreFollowed scenario.world.shape scenario.clients (traces_of run) → ScriptsAreDone scenario.world.shape scenario.clients (traces_of run)
scripts-whole law server scenario good run sound followed =
    scripts-done law scenario.world.shape scenario.clients (traces_of run) good.plans
    (recursion_from_All (Proper scenario.world.shape) (traces_of run) (λ k d l. (sound.fits k d l).proper)) followed

-- ---- The scheduled run

pub record-of : (scenario : Scenario) (run : Run) → IsSound scenario run → ((s : ℕ) → s < session_count scenario → ends_in run.history s ≡ 1) → IsRecordOf scenario run.history (traces_of run)
record-of scenario run sound ended = record {
  legal = sound.legal;
  fits = sound.fits;
  proper = sound.proper;
  sessions = sound.sessions;
  ended = ended;
  clients = traces-of scenario.world.shape 0 0 scenario.clients run.players sound.players;
}
