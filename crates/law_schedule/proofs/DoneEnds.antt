-- Once all clients have closed, a round ends all sessions, and a further one changes nothing.
use Rattle.std.proofs.Common.{◌≡◌, ℕ, suc, ◌+◌, ◌-◌, ◌≤◌, ◌<◌, true, false, not, inl, inr, List, [], ◌∷◌, map, Option, Some, slice_get, refl, sym, ap, ◌∙◌, subst, arith, true≢false}
use Rattle.std.specs.List.{list_any}
use Rattle.std.proofs.lemmas.Bool.{cases_lt, and_from}
use Rattle.std.proofs.lemmas.List.Elements.{All-from_recursion}
use Rattle.sv_world.specs.declared.world.Shape.{Shape}
use Rattle.sv_world.specs.Control.{below}
use Rattle.sv_world.proofs.Bases.{is_in-below}
use Rattle.sv_client.specs.Traces.{is_session}
use Rattle.sv_scenario.specs.declared.scenario.Plan.{Plan}
use Rattle.sv_scenario.specs.declared.scenario.Scenario.{Scenario}
use Rattle.sv_scenario.specs.Limits.{IsGoodPlan, IsGoodScenario}
use Rattle.sv_scenario.specs.Sessions.{sessions_of_plan, sessions_in, session_count}
use Rattle.sv_script.proofs.Ends.{none-left}
use Rattle.sv_script.proofs.Places.{finished-first}
use Rattle.sv_script.proofs.Begun.{all-joined}
use Rattle.law_system.specs.Fits.{is_join_of}
use Rattle.law_schedule.specs.Players.{Player, open_session, has_closed, player_turn, take_turns, repeated}
use Rattle.law_schedule.specs.Serving.{Run, Server, after_clients, after_served, round_served}
use Rattle.law_schedule.specs.Served.{IsSoundOver}
use Rattle.law_schedule.specs.Sound.{IsPlaying, ArePlaying}
use Rattle.law_system.proofs.Places.{unmap_at}
use Rattle.law_system.proofs.Every.{each-at, each-place}
use Rattle.law_system.proofs.Joined.{low-joined}
use Rattle.law_schedule.specs.Done.{IsRunDone, NextRepliesAreTaken}
use Rattle.law_schedule.proofs.DoneGiven.{StaySound}
use Rattle.law_schedule.proofs.DoneLists.{repeated-sum, repeated-still, any-there}
use Rattle.law_schedule.proofs.DoneSessions.{quiet-round}
use Rattle.law_schedule.proofs.DoneStill.{round-still}
use Rattle.law_schedule.proofs.DoneFacts.{following}
use Rattle.law_schedule.proofs.DoneShut.{open-closed, turn-closed, stays-closed}
use Rattle.law_schedule.proofs.DoneRounds.{IsGoing, going-clients, going-round, going-rounds, falling-first, falling-rounds, fallen-closed}

-- ---- Whose a session is

pub record IsOwner (shape : Shape) (plans : List Plan) (ps : List Player) (s : ℕ) : Type 0 where
  pub place : ℕ
  pub player : Player
  pub at : slice_get ps place ≡ Some player
  pub plan : Plan
  pub there : slice_get plans place ≡ Some plan
  pub number : ℕ
  pub from : ℕ
  pub playing : IsPlaying shape number from plan player
  pub low : from ≤ s
  pub high : s < from + sessions_of_plan plan

pub owner : (shape : Shape) (k from : ℕ) (plans : List Plan) (ps : List Player) (s : ℕ) → ArePlaying shape k from plans ps → from ≤ s → s < from + sessions_in plans →
    IsOwner shape plans ps s
owner shape k from [] [] s a l m = absurd (omega (arith, l, m))
owner shape k from [] (p ∷ ps) s a l m = absurd a
owner shape k from (plan ∷ plans) [] s a l m = absurd a
owner shape k from (plan ∷ plans) (p ∷ ps) s a l m =
    let later = owner shape (suc k) (from + sessions_of_plan plan) plans ps s a.1 in
    elim (cases_lt s (from + sessions_of_plan plan)) [
      | inl x ↦ record { place = 0; player = p; at = refl; plan = plan; there = refl; number = k; from = from; playing = a.0; low = l; high = x }
      | inr x ↦
          (let o = later x (omega (arith, m)) in
          record {
            place = suc o.place;
            player = o.player;
            at = o.at;
            plan = o.plan;
            there = o.there;
            number = o.number;
            from = o.from;
            playing = o.playing;
            low = o.low;
            high = o.high;
          })
    ]

-- ---- Where all have closed

abbrev pub AreClosed : Run → Type 0
AreClosed run = (i : ℕ) (p : Player) → slice_get run.players i ≡ Some p → p.closed ≡ true

pub record WasJoined (run : Run) (s : ℕ) : Type 0 where
  pub place : ℕ
  pub player : Player
  pub at : slice_get run.players place ≡ Some player
  pub joined : list_any (is_join_of s) player.events ≡ true

-- Each session was joined by a player.
pub was-joined : (server : Server) (scenario : Scenario) → IsGoodScenario scenario → (run : Run) → IsSoundOver server scenario run → AreClosed run → (s : ℕ) → s < session_count scenario → WasJoined run s
was-joined server scenario good run sound closed s l =
    let o = owner scenario.world.shape 0 0 scenario.clients run.players s sound.players (omega arith) (omega (arith, l)) in
    let p = o.player in
    let f = following server scenario good run sound o.place p o.at in
    let plan = each-at (IsGoodPlan scenario.world.shape) scenario.clients o.place o.plan good.plans o.there in
    let finished = o.playing.closed (closed o.place p o.at) in
    let none = none-left p.who p.first o.plan.steps p.events o.playing.before f.proper plan.quit o.playing.follows finished in
    let all = all-joined p.who o.plan.steps p.events o.playing.before o.playing.follows (finished-first p.events finished) none in
    let low = o.low in
    let high = o.high in
    let first = o.playing.first in
    record { place = o.place; player = p; at = o.at; joined = low-joined p.who p.first p.events s f.proper (omega (arith, low, first)) (omega (arith, high, first, all)) }

closed-by : (p : Player) (s : ℕ) → p.closed ≡ true → list_any (is_join_of s) p.events ≡ true → has_closed s p ≡ true
closed-by p s c j =
    and_from (list_any (is_join_of s) p.events) (not (is_session (open_session p) s)) j (ap (λ (o : Option ℕ). not (is_session o s)) (open-closed p c))

round-closed : (server : Server) (scenario : Scenario) (run : Run) → AreClosed run → AreClosed (round_served server (session_count scenario) run)
round-closed server scenario run closed i q at =
    let h = (after_served server (session_count scenario) (after_clients run)).history in
    let m = unmap_at (take_turns h) (map player_turn run.players) i q at in
    let k = unmap_at player_turn run.players i m.0 m.1 in
    ap (λ (x : Player). x.closed) (sym m.2 ∙ ap (take_turns h) (sym k.2)) ∙ stays-closed h k.0 (closed i k.0 k.1)

clients-closed : (run : Run) → AreClosed run → AreClosed (after_clients run)
clients-closed run closed i q at =
    let k = unmap_at player_turn run.players i q at in
    ap (λ (x : Player). x.closed) (sym k.2 ∙ turn-closed k.0 (closed i k.0 k.1)) ∙ closed i k.0 k.1

-- Then a round ends all sessions.
pub closed-done : (server : Server) (scenario : Scenario) → IsGoodScenario scenario → StaySound server scenario → (run : Run) → IsGoing server scenario run → AreClosed run →
    IsRunDone scenario (round_served server (session_count scenario) run)
closed-done server scenario good stay run g closed = record {
  closed = All-from_recursion (λ (p : Player). p.closed ≡ true) (round_served server (session_count scenario) run).players
      (each-place (λ (p : Player). p.closed ≡ true) (round_served server (session_count scenario) run).players (round-closed server scenario run closed));
  ended = λ s l.
      let clients = after_clients run in
      let w = was-joined server scenario good clients (going-clients server scenario good stay run g).sound (clients-closed run closed) s l in
      let shut = any-there (has_closed s) clients.players w.place w.player w.at (closed-by w.player s (clients-closed run closed w.place w.player w.at) w.joined) in
      elim (quiet-round server clients.players s stay.hears (below (session_count scenario)) run.history (is_in-below (session_count scenario) s l)) [
        | inl e ↦ e
        | inr x ↦ absurd (true≢false (sym shut ∙ x.1.1))
      ];
}

-- ---- So many rounds are enough

pub rounds-done : (server : Server) (scenario : Scenario) → IsGoodScenario scenario → NextRepliesAreTaken server scenario → StaySound server scenario → (run : Run) → IsGoing server scenario run → (n : ℕ) → 777 ≤ n →
    IsRunDone scenario (repeated n (round_served server (session_count scenario)) run)
rounds-done server scenario good honest stay run g n l =
    let f : Run → Run = round_served server (session_count scenario) in
    let first : Run = f run in
    let closing : Run = repeated 775 f first in
    let g1 : IsGoing server scenario first = going-round server scenario good stay run g in
    let g2 : IsGoing server scenario closing = going-rounds server scenario good honest stay 775 first g1 in
    let closed : AreClosed closing = fallen-closed server scenario good honest stay closing (falling-rounds server scenario good honest stay 775 first g1 (falling-first server scenario good honest stay run g)) in
    let done : IsRunDone scenario (f closing) = closed-done server scenario good stay closing g2 closed in
    let split : n ≡ suc (775 + suc (n - 777)) = omega (arith, l) in
    let there : repeated n f run ≡ f closing =
    ap (λ (k : ℕ). repeated k f run) split ∙ repeated-sum 775 (suc (n - 777)) f first ∙ repeated-still (n - 777) f (f closing) (round-still server scenario (f closing) done) in
    subst (IsRunDone scenario) (sym there) done
