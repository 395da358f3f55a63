-- A run from its tasks to its record.
use Rattle.std.proofs.Common.{◌≡◌, ℕ, ◌+◌, false, List, [], ◌∷◌, ◌++◌, map, length, reverse, refl, sym, ap, subst, ◌∙◌, arith}
use Rattle.std.specs.List.{AllByRecursion, AllZip, flat_map}
use Rattle.sv_threads.specs.Telling.{Telling}
use Rattle.sv_link.specs.Ends.{Told}
use Rattle.sv_link.specs.Nets.{Transcript}
use Rattle.sv_journal.specs.declared.entry.Entry.{Entry}
use Rattle.sv_journal.specs.Answer.{Legal}
use Rattle.sv_lock.specs.Histories.{AreJust, AreBelow}
use Rattle.sv_client.specs.declared.trace.Trace.{Trace}
use Rattle.sv_scenario.specs.Sessions.{session_count}
use Rattle.sv_player.specs.Played.{lines_told}
use Rattle.sv_session.specs.Serving.{SessionPass}
use Rattle.law_system.specs.Records.{rules_of}
use Rattle.law_system.specs.Places.{EachPlace}
use Rattle.sv_player.specs.declared.outcome.PlayerOut.{PlayerOut}
use Rattle.law_traffic.specs.Sessions.{Over, transcript}
use Rattle.law_traffic.specs.Runs.{IsGoodRun, IsRun, TrafficIsRecorded, RunsLeaveFullRecords, RunsMoveTheirTraffic}
use Rattle.sv_threads.specs.declared.tasks.Serviced.{Serviced}
use Rattle.sv_threads.specs.declared.tasks.Task.{Task}
use Rattle.sv_threads.specs.declared.tasks.TaskOut.{TaskOut}
use Rattle.sv_threads.specs.declared.gathering.RunRemains.{RunRemains}
use Rattle.sv_threads.specs.Places.{EachClient}
use Rattle.sv_threads.specs.Tasks.{services_of, parts_of, serviced_of, played_of, KeepsTask}
use Rattle.sv_threads.specs.Given.{Setting, keeper_after, IsPart, IsService}
use Rattle.sv_threads.specs.RunRemains.{own_of, ends_of, is_memory, is_unplayed, transcripts_of, EndsAgree, RemainsHaveRoom, HasFewSessions, Gathered, JoinedPasses, IsOfLock, IsServiced, HasPlayed}
use Rattle.sv_threads.specs.Settling.{ArePair, AreCalm, IsSince}
use Rattle.sv_threads.specs.Playing.{IsThreadedRun, TookAllIn}
use Rattle.sv_threads.proofs.Places.{clients_count}
use Rattle.sv_threads.proofs.Leaving.{services_left, parts_left, served_count, task_count, all_of_lock, all_few, ends_are_all, as_many, all_pairs, all_calm, all_since}
use Rattle.sv_threads.proofs.Whole.{overs, transcripts_are, is_run, all_end, all_awaited, lines_are}
use Rattle.sv_threads.proofs.Taken.{none_unserved, none_unplayed}
use Rattle.sv_threads.proofs.Keepers.{just_of, below_of, legal_of, all_taken_in}

module _ {E G W : Type 0} (told : E → Told) (faults : E → ℕ) (calm : E → Type 0) (telling_of : W → Telling) (run : Setting)
    (ts : List (Task E G W)) (os : List (TaskOut E)) (count : length (services_of ts) ≡ session_count run.scenario)
    (services : EachPlace (IsService told faults calm run) (services_of ts)) (parts : EachClient (IsPart told faults calm telling_of run) 0 0 run.scenario.clients (parts_of ts))
    (kept : AllZip (KeepsTask told faults calm telling_of) ts os) where
  abbrev ys : List (Serviced E)
  ys = serviced_of os

  abbrev ps : List (PlayerOut E)
  ps = played_of os

  served : EachPlace (IsServiced told faults calm run) ys
  served = services_left told faults calm telling_of run ts os services kept

  played : EachClient (HasPlayed told faults calm run) 0 0 run.scenario.clients ps
  played = parts_left told faults calm telling_of run ts os parts kept

  all_served : length ys ≡ session_count run.scenario
  all_served = served_count told faults calm telling_of ts os kept ∙ count

  pub passes : AllByRecursion (IsOfLock run.lock) ys
  passes = all_of_lock told faults calm run ys served

  pub numbers : AllByRecursion HasFewSessions ps
  numbers = all_few told faults calm run ps played

  pub room : (left : RunRemains E) → RemainsHaveRoom (session_count run.scenario) (session_count run.scenario) (length run.scenario.clients) left →
      RemainsHaveRoom (length ys) (length (flat_map ends_of ps)) (length ps) left
  room left r =
      subst (λ n. RemainsHaveRoom n (length (flat_map ends_of ps)) (length ps) left) (sym all_served)
      (subst (λ n. RemainsHaveRoom (session_count run.scenario) n (length ps) left) (sym (ends_are_all told faults calm run ps played))
      (subst (λ n. RemainsHaveRoom (session_count run.scenario) (session_count run.scenario) n left)
      (sym (clients_count (HasPlayed told faults calm run) 0 0 run.scenario.clients ps played)) r))

  pub jobs : length ts ≡ session_count run.scenario + length run.scenario.clients
  jobs =
      task_count told faults calm telling_of ts
      ∙ (ap (λ n. n + length (parts_of ts)) count
      ∙ ap (λ n. session_count run.scenario + n) (clients_count (IsPart told faults calm telling_of run) 0 0 run.scenario.clients (parts_of ts) parts))

  module _ (left : RunRemains E) (k : SessionPass) (gathered : Gathered os left) (joined : JoinedPasses ys (keeper_after (session_count run.scenario) run.lock run.scenario) k) where
    pub are_pairs : (made : ℕ) → made ≡ run.pairs + session_count run.scenario → AllZip (ArePair told made) left.servers.items left.clients.items
    are_pairs made is =
        subst (λ servers. AllZip (ArePair told made) servers left.clients.items) (sym gathered.servers)
        (subst (AllZip (ArePair told made) (map (λ (y : Serviced E). y.end) ys)) (sym gathered.clients) (all_pairs told faults calm run ys ps all_served served played made is))

    pub are_calm : run.calm → AllZip (AreCalm calm) left.servers.items left.clients.items
    are_calm q =
        subst (λ servers. AllZip (AreCalm calm) servers left.clients.items) (sym gathered.servers)
        (subst (AllZip (AreCalm calm) (map (λ (y : Serviced E). y.end) ys)) (sym gathered.clients) (all_calm told faults calm run ys ps all_served served played q))

    pub are_since : AllZip (IsSince told run.pairs) left.servers.items left.clients.items
    are_since =
        subst (λ servers. AllZip (IsSince told run.pairs) servers left.clients.items) (sym gathered.servers)
        (subst (AllZip (IsSince told run.pairs) (map (λ (y : Serviced E). y.end) ys)) (sym gathered.clients) (all_since told faults calm run ys ps all_served served played))

    pub owed_enough : length left.servers.items ≡ session_count run.scenario
    owed_enough = ap length gathered.servers ∙ (lengths ys ∙ all_served)
      where
        lengths : (xs : List (Serviced E)) → length (map (λ (y : Serviced E). y.end) xs) ≡ length xs
        lengths [] = refl
        lengths (x ∷ xs) = let rest = lengths xs in omega (arith, rest)

    module _ (good : IsGoodRun run.scenario) where
      just : AreJust (λ (e : Entry). e.session) k.seen (map own_of ys)
      just = just_of told faults calm run ys served all_served k joined good

      below : AreBelow (λ (e : Entry). e.session) (session_count run.scenario) k.seen
      below = below_of told faults calm run ys served all_served k joined good

      legal : Legal (rules_of run.scenario) (reverse k.seen)
      legal = legal_of told faults calm run ys served all_served k joined good

      pub took_all : TookAllIn run.scenario (keeper_after 0 run.lock run.scenario) k
      took_all = all_taken_in told faults calm run ys served all_served k joined good

      -- ---- The record

      module _ (lacked : left.lacked ≡ false) (agree : AllZip (EndsAgree told faults) left.servers.items left.clients.items) where
        none_lacked : AllByRecursion (λ (y : Serviced E). is_memory y.out ≡ false) ys × AllByRecursion (λ (y : PlayerOut E). is_unplayed y.cause ≡ false) ps
        none_lacked = let none = sym gathered.lacked ∙ lacked in (none_unserved os none, none_unplayed os none)

        agree_is : AllZip (EndsAgree told faults) (map (λ (y : Serviced E). y.end) ys) (flat_map ends_of ps)
        agree_is = subst (λ servers. AllZip (EndsAgree told faults) servers (flat_map ends_of ps)) gathered.servers (subst (AllZip (EndsAgree told faults) left.servers.items) gathered.clients agree)

        enough : length ys ≡ length (flat_map ends_of ps)
        enough = as_many told faults calm run ys ps all_served served played

        abbrev Ls : List Trace
        Ls = map (λ (y : PlayerOut E). y.trace) ps

        abbrev all_overs : List Over
        all_overs = overs told faults calm run k.seen ys ps served all_served played none_lacked.0 none_lacked.1 agree_is joined.seen just enough

        threaded_run : IsRun run.scenario k.seen Ls all_overs
        threaded_run = is_run told faults calm run k.seen ys ps served all_served played none_lacked.0 none_lacked.1 agree_is joined.seen just enough legal below

        recorded : map transcript all_overs ≡ transcripts_of told faults left.servers.items left.clients.items
        recorded =
            transcripts_are told faults ys (flat_map ends_of ps)
            ∙ (ap (λ servers. transcripts_of told faults servers (flat_map ends_of ps)) (sym gathered.servers) ∙ ap (transcripts_of told faults left.servers.items) (sym gathered.clients))

        pub threaded : RunsLeaveFullRecords → RunsMoveTheirTraffic → (settled_before settled_now : List Transcript) (ran_before ran_now : List ℕ) →
            settled_now ≡ settled_before ++ transcripts_of told faults left.servers.items left.clients.items → ran_now ≡ ran_before ++ length ts ∷ [] →
            IsThreadedRun run.scenario (reverse k.seen) left.traces.items settled_before settled_now ran_before ran_now
        threaded full traffic settled_before settled_now ran_before ran_now settled ran =
            subst (λ (traces : List Trace). IsThreadedRun run.scenario (reverse k.seen) traces settled_before settled_now ran_before ran_now) (sym gathered.traces)
            (record {
              full =
                  full run.scenario k.seen Ls all_overs good threaded_run
                  (all_end told faults calm run k.seen ys ps served all_served played none_lacked.0 none_lacked.1 agree_is joined.seen just enough);
              transcripts = transcripts_of told faults left.servers.items left.clients.items;
              added = settled;
              traffic = subst (TrafficIsRecorded run.scenario (reverse k.seen) Ls) recorded (traffic run.scenario k.seen Ls all_overs good threaded_run);
              ran = ran ∙ ap (λ n. ran_before ++ n ∷ []) jobs;
              awaited = all_awaited told faults calm run k.seen ys ps served all_served played none_lacked.0 none_lacked.1 agree_is joined.seen just enough;
            })

        pub told_all : flat_map (λ v. v.items) left.lines.items ≡ flat_map (lines_told run.watched) left.traces.items
        told_all =
            ap (flat_map (λ v. v.items)) gathered.lines
            ∙ (through ps
            ∙ (lines_are told faults calm run k.seen ys ps served all_served played none_lacked.0 none_lacked.1 agree_is joined.seen just enough
            ∙ ap (flat_map (lines_told run.watched)) (sym gathered.traces)))
          where
            through : (qs : List (PlayerOut E)) → flat_map (λ v. v.items) (map (λ (y : PlayerOut E). y.lines) qs) ≡ flat_map (λ (y : PlayerOut E). y.lines.items) qs
            through [] = refl
            through (q ∷ qs) = ap (λ (l : List (List ℕ)). q.lines.items ++ l) (through qs)
