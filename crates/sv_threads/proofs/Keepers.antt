-- What the keeper knows, once it took in the passes of all sessions that were served.
use Rattle.std.proofs.Common.{◌≡◌, ℕ, ◌<◌, ◌≤◌, List, [], ◌∷◌, map, length, reverse, sym, ap, subst, ◌∙◌, arith}
use Rattle.std.specs.Prelude.{Contains}
use Rattle.std.specs.List.{range_with_len}
use Rattle.sv_link.specs.Ends.{Told}
use Rattle.sv_journal.specs.declared.entry.Entry.{Entry}
use Rattle.sv_journal.specs.Answer.{Rules, Legal}
use Rattle.sv_lock.specs.Histories.{AreJust, AreBelow}
use Rattle.sv_scenario.specs.declared.scenario.Plan.{Plan}
use Rattle.sv_scenario.specs.Sessions.{sessions_in, session_count}
use Rattle.sv_session.specs.Serving.{SessionPass}
use Rattle.law_system.specs.Records.{rules_of}
use Rattle.law_system.specs.Places.{EachPlace}
use Rattle.law_traffic.specs.Runs.{IsGoodRun}
use Rattle.sv_threads.specs.declared.tasks.Serviced.{Serviced}
use Rattle.sv_threads.specs.Given.{Setting, keeper_after}
use Rattle.sv_threads.specs.RunRemains.{own_of, KeeperKnows, JoinedPasses, IsServiced}
use Rattle.sv_threads.specs.Playing.{TookAllIn}
use Rattle.sv_threads.proofs.Whole.{numbers_are, in_range, number_of}

pub some_sessions : (plans : List Plan) → 1 ≤ length plans → 0 < sessions_in plans
some_sessions [] l = absurd (omega (arith, l))
some_sessions (plan ∷ plans) l = omega arith

module _ {E : Type 0} (told : E → Told) (faults : E → ℕ) (calm : E → Type 0) (run : Setting)
    (ys : List (Serviced E)) (served : EachPlace (IsServiced told faults calm run) ys) (count : length ys ≡ session_count run.scenario)
    (k : SessionPass) (joined : JoinedPasses ys (keeper_after (session_count run.scenario) run.lock run.scenario) k) (good : IsGoodRun run.scenario) where
  knows : KeeperKnows k
  knows = joined.knows (subst (λ n. 0 < n) (sym count) (some_sessions run.scenario.clients good.good.some_clients))

  pub just_of : AreJust (λ (e : Entry). e.session) k.seen (map own_of ys)
  just_of = subst (AreJust (λ (e : Entry). e.session) k.seen) joined.ended knows.just

  pub below_of : AreBelow (λ (e : Entry). e.session) (session_count run.scenario) k.seen
  below_of = subst (λ n. AreBelow (λ (e : Entry). e.session) n k.seen) joined.made knows.below

  pub legal_of : Legal (rules_of run.scenario) (reverse k.seen)
  legal_of = subst (λ (r : Rules). Legal r (reverse k.seen)) joined.base knows.legal

  numbers_in : map (λ (x : ℕ × List Entry). x.0) k.ended ≡ range_with_len 0 (session_count run.scenario)
  numbers_in =
      ap (map (λ (x : ℕ × List Entry). x.0)) joined.ended
      ∙ (numbers_are 0 ys (λ s y e. number_of told faults calm run s y (served s y e) ∙ omega arith) ∙ ap (range_with_len 0) count)

  pub all_taken_in : TookAllIn run.scenario (keeper_after 0 run.lock run.scenario) k
  all_taken_in =
      record {
        lock = joined.lock;
        session = joined.session;
        base = joined.base;
        made = joined.made;
        numbers = numbers_in;
        ended = λ n low.
            subst (λ (l : List ℕ). Contains l n) (sym numbers_in) (in_range (session_count run.scenario) n (subst (λ m. n < m) joined.made low));
        just = knows.just;
        below = below_of;
        legal = legal_of;
      }
