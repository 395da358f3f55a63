-- What soundness says of one player of a run.
use Rattle.std.proofs.Common.{◌≡◌, ℕ, zero, suc, ◌+◌, ◌≤◌, true, List, [], ◌∷◌, map, length, reverse, Some, slice_get, refl, sym, ap, ◌∙◌, subst, arith}
use Rattle.std.specs.List.{list_any}
use Rattle.std.proofs.lemmas.List.{reverse-reverse}
use Rattle.std.proofs.lemmas.List.Elements.{recursion_from_All}
use Rattle.std.proofs.lemmas.Option.{none-some, same_Some}
use Rattle.sv_world.specs.declared.world.Shape.{Shape}
use Rattle.sv_journal.specs.declared.entry.Entry.{Entry}
use Rattle.sv_journal.specs.History.{accepted}
use Rattle.sv_client.specs.declared.trace.Event.{Event}
use Rattle.sv_client.specs.Traces.{got}
use Rattle.sv_client.specs.Taking.{Identity}
use Rattle.sv_client.specs.Proper.{AreProper, identity_of}
use Rattle.sv_scenario.specs.declared.scenario.Plan.{Plan}
use Rattle.sv_scenario.specs.declared.scenario.Scenario.{Scenario}
use Rattle.sv_scenario.specs.declared.scenario.Step.{Step}
use Rattle.sv_scenario.specs.Limits.{quits_last, IsGoodPlan, IsGoodScenario}
use Rattle.sv_scenario.specs.Sessions.{sessions_of_plan, sessions_in, session_count}
use Rattle.sv_script.specs.Following.{FollowsTo, is_finished}
use Rattle.law_system.specs.Fronts.{IsFront}
use Rattle.law_system.specs.Fits.{replies_in, IsEndLast, is_join_of, AreApart, AreAllApart}
use Rattle.law_system.proofs.Asked.{any-turned}
use Rattle.law_system.proofs.Places.{map_at}
use Rattle.law_system.proofs.Every.{each-at}
use Rattle.law_schedule.specs.Players.{Player, trace_of_player}
use Rattle.law_schedule.specs.Serving.{Run, Server, traces_of}
use Rattle.law_schedule.specs.Served.{FitsServer, IsSoundOver}
use Rattle.law_schedule.specs.Sound.{AreStepsLeft, IsPlaying, ArePlaying}

-- ---- The player's plan

pub record PlaysAt (shape : Shape) (s : ℕ) (plans : List Plan) (i : ℕ) (p : Player) : Type 0 where
  pub plan : Plan
  pub number : ℕ
  pub from : ℕ
  pub there : slice_get plans i ≡ Some plan
  pub playing : IsPlaying shape number from plan p
  pub within : from + sessions_of_plan plan ≤ s + sessions_in plans

pub playing-at : (shape : Shape) (k s : ℕ) (plans : List Plan) (ps : List Player) (i : ℕ) (p : Player) → ArePlaying shape k s plans ps → slice_get ps i ≡ Some p →
    PlaysAt shape s plans i p
playing-at shape k s [] [] i p a e = absurd (none-some p e)
playing-at shape k s [] (q ∷ ps) i p a e = absurd a
playing-at shape k s (plan ∷ plans) [] i p a e = absurd a
playing-at shape k s (plan ∷ plans) (q ∷ ps) zero p a e =
    record { plan = plan; number = k; from = s; there = refl; playing = subst (IsPlaying shape k s plan) (same_Some q p e) a.0; within = omega arith }
playing-at shape k s (plan ∷ plans) (q ∷ ps) (suc i) p a e =
    let later = playing-at shape (suc k) (s + sessions_of_plan plan) plans ps i p a.1 e in
    let low = later.within in
    record { plan = later.plan; number = later.number; from = later.from; there = later.there; playing = later.playing; within = omega (arith, low) }

-- As many players as plans.
pub playing-there : (shape : Shape) (k s : ℕ) (plans : List Plan) (ps : List Player) → ArePlaying shape k s plans ps → length ps ≡ length plans
playing-there shape k s [] [] a = refl
playing-there shape k s [] (q ∷ ps) a = absurd a
playing-there shape k s (plan ∷ plans) [] a = absurd a
playing-there shape k s (plan ∷ plans) (q ∷ ps) a = ap suc (playing-there shape (suc k) (s + sessions_of_plan plan) plans ps a.1)

-- ---- The player's events

pub record IsFit (h : List Entry) (p : Player) (s : ℕ) : Type 0 where
  pub got : IsFront (got p.events s) (replies_in (accepted h) h s)
  pub ended : IsEndLast h s

-- A player of a sound run with the history h.
pub record IsFollowing (scenario : Scenario) (h : List Entry) (p : Player) : Type 0 where
  pub plan : Plan
  pub few : length plan.steps ≤ 256
  pub quits : quits_last plan.steps ≡ true
  pub proper : AreProper p.who p.first p.events
  pub before : List Step
  pub follows : FollowsTo p.who plan.steps p.events before
  pub left : AreStepsLeft p before
  pub finished : p.closed ≡ true → is_finished p.events ≡ true
  pub within : p.first + sessions_of_plan plan ≤ session_count scenario
  pub fits : (s : ℕ) → list_any (is_join_of s) p.events ≡ true → IsFit h p s

pub same-who : (shape : Shape) (p : Player) → p.who.shape ≡ shape → identity_of shape (trace_of_player p) ≡ p.who
same-who shape p e = ap (λ (x : Shape). record { client = p.who.client; interest = p.who.interest; shape = x }) (sym e)

pub same-events : (p : Player) → reverse (trace_of_player p).events ≡ p.events
same-events p = reverse-reverse p.events

module _ (server : Server) (scenario : Scenario) (good : IsGoodScenario scenario) (run : Run) (sound : IsSoundOver server scenario run) (i : ℕ) (p : Player) (at : slice_get run.players i ≡ Some p) where
  abbrev shape : Shape
  shape = scenario.world.shape

  plays : PlaysAt shape 0 scenario.clients i p
  plays = playing-at shape 0 0 scenario.clients run.players i p sound.players at

  shape-is : p.who.shape ≡ shape
  shape-is = ap (λ (w : Identity). w.shape) plays.playing.who

  pub who-is : identity_of shape (trace_of_player p) ≡ p.who
  who-is = same-who shape p shape-is

  pub trace-at : slice_get (traces_of run) i ≡ Some (trace_of_player p)
  trace-at = map_at trace_of_player run.players i p at

  fit : FitsServer server shape run.history (trace_of_player p)
  fit =
      each-at (FitsServer server shape run.history) (traces_of run) i (trace_of_player p) (recursion_from_All (FitsServer server shape run.history) (traces_of run) sound.fits) trace-at

  proper-now : AreProper p.who p.first p.events
  proper-now =
      subst (λ (t : List Event). AreProper p.who p.first t) (same-events p)
      (subst (λ (w : Identity). AreProper w p.first (reverse (trace_of_player p).events)) who-is fit.proper.events)

  fit-in : (s : ℕ) → list_any (is_join_of s) p.events ≡ true → IsFit run.history p s
  fit-in s joined =
      let f = fit.sessions s (any-turned (is_join_of s) p.events joined) in
      record {
        got = subst (λ (t : List Event). IsFront (got t s) (replies_in (accepted run.history) run.history s)) (same-events p) f.got;
        ended = f.ended;
      }

  pub following : IsFollowing scenario run.history p
  following =
      let plan = each-at (IsGoodPlan shape) scenario.clients i plays.plan good.plans plays.there in
      let play = plays.playing in
      let low = plays.within in
      let same = play.first in
      record {
        plan = plays.plan;
        few = plan.few_steps;
        quits = plan.quit;
        proper = proper-now;
        before = play.before;
        follows = subst (λ (w : Identity). FollowsTo w plays.plan.steps p.events play.before) refl play.follows;
        left = play.left;
        finished = play.closed;
        within = omega (arith, low, same);
        fits = fit-in;
      }

-- ---- No two players share a session

apart-here : (p q : Player) (s : ℕ) → AreApart (trace_of_player p) (trace_of_player q) → list_any (is_join_of s) p.events ≡ true → list_any (is_join_of s) q.events ≡ true → ⊥
apart-here p q s a x y = a.sessions s (any-turned (is_join_of s) p.events x) (any-turned (is_join_of s) q.events y)

pub one-owner : (ps : List Player) (i j : ℕ) (p q : Player) (s : ℕ) → AreAllApart (map trace_of_player ps) → slice_get ps i ≡ Some p → slice_get ps j ≡ Some q →
    list_any (is_join_of s) p.events ≡ true → list_any (is_join_of s) q.events ≡ true → p ≡ q
one-owner [] i j p q s a e f x y = absurd (none-some p e)
one-owner (o ∷ ps) zero zero p q s a e f x y = sym (same_Some o p e) ∙ same_Some o q f
one-owner (o ∷ ps) zero (suc j) p q s a e f x y =
    absurd (apart-here o q s
    (each-at (AreApart (trace_of_player o)) (map trace_of_player ps) j (trace_of_player q)
    (recursion_from_All (AreApart (trace_of_player o)) (map trace_of_player ps) a.0) (map_at trace_of_player ps j q f))
    (subst (λ (r : Player). list_any (is_join_of s) r.events ≡ true) (sym (same_Some o p e)) x) y)
one-owner (o ∷ ps) (suc i) zero p q s a e f x y =
    absurd (apart-here o p s
    (each-at (AreApart (trace_of_player o)) (map trace_of_player ps) i (trace_of_player p)
    (recursion_from_All (AreApart (trace_of_player o)) (map trace_of_player ps) a.0) (map_at trace_of_player ps i p e))
    (subst (λ (r : Player). list_any (is_join_of s) r.events ≡ true) (sym (same_Some o q f)) y) x)
one-owner (o ∷ ps) (suc i) (suc j) p q s a e f x y = one-owner ps i j p q s a.1 e f x y
