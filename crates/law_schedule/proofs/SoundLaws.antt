-- A run over a server is sound at each moment: its players' traces fit its journal.
use Rattle.std.proofs.Common.{◌≡◌, ℕ, suc, ◌+◌, ◌<◌, ◌≤◌, true, false, inl, List, [], ◌∷◌, map, reverse, length, refl, sym, ap, subst, ◌∙◌, arith, true≢false}
use Rattle.std.specs.List.{list_any, AllByRecursion}
use Rattle.std.proofs.lemmas.List.Elements.{All-from_recursion, recursion_from_All}
use Rattle.sv_world.specs.Control.{below}
use Rattle.sv_world.specs.declared.world.ClientId.{ClientId}
use Rattle.sv_world.specs.declared.world.ObjectId.{ObjectId}
use Rattle.sv_world.specs.declared.world.Shape.{Shape}
use Rattle.sv_journal.specs.declared.entry.Entry.{Entry}
use Rattle.sv_journal.specs.History.{accepted}
use Rattle.sv_client.specs.declared.trace.Event.{Event}
use Rattle.sv_client.specs.declared.trace.Trace.{Trace}
use Rattle.sv_client.specs.Traces.{asked, got}
use Rattle.sv_client.specs.Taking.{Identity}
use Rattle.sv_client.specs.Proper.{AreProper, IsGoodIdentity, Proper, identity_of}
use Rattle.sv_scenario.specs.declared.scenario.Plan.{Plan}
use Rattle.sv_scenario.specs.declared.scenario.Scenario.{Scenario}
use Rattle.sv_scenario.specs.declared.scenario.Turn.{Turn}
use Rattle.sv_scenario.specs.Limits.{IsGoodPlan, IsGoodScenario, IsGoodTurn}
use Rattle.sv_scenario.specs.Sessions.{sessions_of_plan, session_count}
use Rattle.law_system.specs.Fronts.{IsFront}
use Rattle.law_system.specs.Fits.{is_join_of, has_session, replies_in, AreApart, AreAllApart}
use Rattle.law_system.proofs.Asked.{any-reversed}
use Rattle.law_schedule.specs.Players.{Player, players_from, repeated, trace_of_player}
use Rattle.law_schedule.specs.Serving.{Run, Server, turn_served, turns_served, after_clients, after_served, after_takes, round_served, opening_run, most_rounds, run_served, traces_of}
use Rattle.law_schedule.specs.Sound.{IsPlaying, ArePlaying, has_joined}
use Rattle.law_schedule.specs.Served.{AreHeard, KeepsSound, IsServedIn, FitsServer, IsSoundOver}
use Rattle.law_schedule.proofs.SoundPlayers.{FitsAt, IsFitting}
use Rattle.law_schedule.proofs.SoundEntries.{begun_by}
use Rattle.law_schedule.proofs.SoundRuns.{in-plan}
use Rattle.law_schedule.proofs.SoundTurns.{AreStanding, below-known, sessions-stand, clients-stand, takes-stand, turned-stands, all-turned_stands, round-stands, rounds-stand}
use Rattle.law_schedule.proofs.DoneFacts.{same-events}

-- ---- A player and its trace

trace-has : (p : Player) (n : ℕ) → has_session (trace_of_player p) n ≡ has_joined p n
trace-has p n = any-reversed (is_join_of n) p.events

pub traces-have : (ps : List Player) (n : ℕ) → list_any (λ (L : Trace). has_session L n) (map trace_of_player ps) ≡ begun_by ps n
traces-have [] n = refl
traces-have (p ∷ ps) n = rw (trace-has p n, traces-have ps n) refl

same-who : (shape : Shape) (k s : ℕ) (plan : Plan) (p : Player) → IsPlaying shape k s plan p → identity_of shape (trace_of_player p) ≡ p.who
same-who shape k s plan p w =
    ap (λ (who : Identity). record { client = who.client; interest = who.interest; shape = shape }) w.who ∙ sym w.who

proper-from : (shape : Shape) (k s : ℕ) (plan : Plan) (p : Player) → IsPlaying shape k s plan p → IsGoodIdentity p.who → AreProper p.who p.first p.events → Proper shape (trace_of_player p)
proper-from shape k s plan p w good proper = record {
  who = subst IsGoodIdentity (sym (same-who shape k s plan p w)) good;
  events =
      subst (λ (who : Identity). AreProper who p.first (reverse (trace_of_player p).events)) (sym (same-who shape k s plan p w))
      (subst (λ (t : List Event). AreProper p.who p.first t) (sym (same-events p)) proper);
}

fits-in : (server : Server) (h : List Entry) (p : Player) (n : ℕ) → FitsAt server h p n → IsServedIn server h (trace_of_player p) n
fits-in server h p n f = record {
  got = subst (λ (t : List Event). IsFront (got t n) (replies_in (accepted h) h n)) (sym (same-events p)) f.got;
  heard = subst (λ (t : List Event). AreHeard server h n (asked p.who.client p.who.interest t n)) (sym (same-events p)) f.heard;
  ended = f.ended;
}

fits-at : (server : Server) (h : List Entry) (p : Player) (n : ℕ) → IsServedIn server h (trace_of_player p) n → FitsAt server h p n
fits-at server h p n f = record {
  got = subst (λ (t : List Event). IsFront (got t n) (replies_in (accepted h) h n)) (same-events p) f.got;
  heard = subst (λ (t : List Event). AreHeard server h n (asked p.who.client p.who.interest t n)) (same-events p) f.heard;
  ended = f.ended;
}

fits-one : (server : Server) (shape : Shape) (h : List Entry) (k s : ℕ) (plan : Plan) (p : Player) → IsPlaying shape k s plan p → IsFitting server h p → FitsServer server shape h (trace_of_player p)
fits-one server shape h k s plan p w f = record {
  proper = proper-from shape k s plan p w f.good f.proper;
  sessions = λ n j. fits-in server h p n (f.sessions n (sym (trace-has p n) ∙ j));
}

fitting-one : (server : Server) (shape : Shape) (h : List Entry) (k s : ℕ) (plan : Plan) (p : Player) → IsPlaying shape k s plan p → FitsServer server shape h (trace_of_player p) → IsFitting server h p
fitting-one server shape h k s plan p w f = record {
  good = subst IsGoodIdentity (same-who shape k s plan p w) f.proper.who;
  proper =
      subst (λ (t : List Event). AreProper p.who p.first t) (same-events p)
      (subst (λ (who : Identity). AreProper who p.first (reverse (trace_of_player p).events)) (same-who shape k s plan p w) f.proper.events);
  sessions = λ n j. fits-at server h p n (f.sessions n (trace-has p n ∙ j));
}

-- ---- All players and their traces

fit-each : (server : Server) (shape : Shape) (h : List Entry) (k s : ℕ) (plans : List Plan) (ps : List Player) → ArePlaying shape k s plans ps → AllByRecursion (IsFitting server h) ps →
    AllByRecursion (FitsServer server shape h) (map trace_of_player ps)
fit-each server shape h k s plans [] w f = tt
fit-each server shape h k s [] (p ∷ ps) w f = absurd w
fit-each server shape h k s (plan ∷ plans) (p ∷ ps) w f = (fits-one server shape h k s plan p w.0 f.0, fit-each server shape h (suc k) (s + sessions_of_plan plan) plans ps w.1 f.1)

fitting-each : (server : Server) (shape : Shape) (h : List Entry) (k s : ℕ) (plans : List Plan) (ps : List Player) → ArePlaying shape k s plans ps → AllByRecursion (FitsServer server shape h) (map trace_of_player ps) →
    AllByRecursion (IsFitting server h) ps
fitting-each server shape h k s plans [] w f = tt
fitting-each server shape h k s [] (p ∷ ps) w f = absurd w
fitting-each server shape h k s (plan ∷ plans) (p ∷ ps) w f = (fitting-one server shape h k s plan p w.0 f.0, fitting-each server shape h (suc k) (s + sessions_of_plan plan) plans ps w.1 f.1)

same-clients : (p q : Player) → (trace_of_player p).client ≡ (trace_of_player q).client → p.who.client.0 ≡ q.who.client.0
same-clients p q e = ap (λ (c : ClientId). c.0) e

number-is : (shape : Shape) (k s : ℕ) (plan : Plan) (p : Player) → IsPlaying shape k s plan p → p.who.client.0 ≡ k
number-is shape k s plan p w = ap (λ (who : Identity). who.client.0) w.who

apart-each : (server : Server) (shape : Shape) (h : List Entry) (k s : ℕ) (plan : Plan) (p : Player) → IsPlaying shape k s plan p → IsFitting server h p → (j n : ℕ) (plans : List Plan) (ps : List Player) → k < j → s + sessions_of_plan plan ≤ n →
    ArePlaying shape j n plans ps → AllByRecursion (IsFitting server h) ps → AllByRecursion (AreApart (trace_of_player p)) (map trace_of_player ps)
apart-each server shape h k s plan p w f j n plans [] below above v g = tt
apart-each server shape h k s plan p w f j n [] (q ∷ qs) below above v g = absurd v
apart-each server shape h k s plan p w f j n (next ∷ plans) (q ∷ qs) below above v g = (
  record {
    clients = λ e. absurd (omega (arith, same-clients p q e, number-is shape k s plan p w, number-is shape j n next q v.0, below));
    sessions = λ i a b.
        let mine = in-plan server shape h k s plan p i w f (sym (trace-has p i) ∙ a) in
        let other = in-plan server shape h j n next q i v.0 g.0 (sym (trace-has q i) ∙ b) in
        absurd (omega (arith, mine.1, other.0, above));
  },
  apart-each server shape h k s plan p w f (suc j) (n + sessions_of_plan next) plans qs (omega (arith, below)) (omega (arith, above)) v.1 g.1,
)

all-apart : (server : Server) (shape : Shape) (h : List Entry) (k s : ℕ) (plans : List Plan) (ps : List Player) → ArePlaying shape k s plans ps → AllByRecursion (IsFitting server h) ps →
    AreAllApart (map trace_of_player ps)
all-apart server shape h k s plans [] w f = tt
all-apart server shape h k s [] (p ∷ ps) w f = absurd w
all-apart server shape h k s (plan ∷ plans) (p ∷ ps) w f = (
  All-from_recursion (AreApart (trace_of_player p)) (map trace_of_player ps)
      (apart-each server shape h k s plan p w.0 f.0 (suc k) (s + sessions_of_plan plan) plans ps (omega arith) (omega arith) w.1 f.1),
  all-apart server shape h (suc k) (s + sessions_of_plan plan) plans ps w.1 f.1,
)

-- ---- Sound runs

pub sound-from : (server : Server) (scenario : Scenario) (run : Run) → AreStanding server scenario run.history run.players → IsSoundOver server scenario run
sound-from server scenario run a = record {
  served = a.served;
  fits = All-from_recursion (FitsServer server scenario.world.shape run.history) (traces_of run) (fit-each server scenario.world.shape run.history 0 0 scenario.clients run.players a.playing a.fitting);
  apart = all-apart server scenario.world.shape run.history 0 0 scenario.clients run.players a.playing a.fitting;
  sessions = All-from_recursion (λ (e : Entry). e.session < session_count scenario) run.history a.sessions;
  begun = All-from_recursion (λ (e : Entry). begun_by run.players e.session ≡ true) run.history a.begun;
  players = a.playing;
}

pub sound-stands : (server : Server) (scenario : Scenario) (run : Run) → IsSoundOver server scenario run → AreStanding server scenario run.history run.players
sound-stands server scenario run a = record {
  served = a.served;
  sessions = recursion_from_All (λ (e : Entry). e.session < session_count scenario) run.history a.sessions;
  begun = recursion_from_All (λ (e : Entry). begun_by run.players e.session ≡ true) run.history a.begun;
  playing = a.players;
  fitting =
      fitting-each server scenario.world.shape run.history 0 0 scenario.clients run.players a.players
      (recursion_from_All (FitsServer server scenario.world.shape run.history) (traces_of run) a.fits);
}

-- ---- The opening

opening-plays : (shape : Shape) (k s : ℕ) (plans : List Plan) → ArePlaying shape k s plans (players_from shape k s plans)
opening-plays shape k s [] = tt
opening-plays shape k s (plan ∷ plans) = (
  record {
    who = refl;
    first = refl;
    before = plan.steps;
    follows = refl;
    left = inl refl;
    apart = λ _. refl;
    closed = λ e. absurd (true≢false (sym e));
    quit = λ t e. cc;
  },
  opening-plays shape (suc k) (s + sessions_of_plan plan) plans,
)

opening-fits : (server : Server) (shape : Shape) (k s : ℕ) (plans : List Plan) → k + length plans ≤ 32 → AllByRecursion (IsGoodPlan shape) plans → AllByRecursion (IsFitting server []) (players_from shape k s plans)
opening-fits server shape k s [] few good = tt
opening-fits server shape k s (plan ∷ plans) few good = (
  record {
    good = record {
      client = omega (arith, few);
      few = good.0.few_objects;
      ascending = good.0.ascending;
      objects = All-from_recursion (λ (o : ObjectId). o.0 < shape.objects) plan.interest good.0.known;
    };
    proper = tt;
    sessions = λ n j. absurd (true≢false (sym j));
  },
  opening-fits server shape (suc k) (s + sessions_of_plan plan) plans (omega (arith, few)) good.1,
)

opening-stands : (server : Server) (scenario : Scenario) → IsGoodScenario scenario → AreStanding server scenario [] (players_from scenario.world.shape 0 0 scenario.clients)
opening-stands server scenario good = record {
  served = tt;
  sessions = tt;
  begun = tt;
  playing = opening-plays scenario.world.shape 0 0 scenario.clients;
  fitting = opening-fits server scenario.world.shape 0 0 scenario.clients (omega (arith, good.few_clients)) good.plans;
}

-- ---- The laws

pub opening-sound : (server : Server) (scenario : Scenario) → IsGoodScenario scenario → IsSoundOver server scenario (opening_run scenario)
opening-sound server scenario good = sound-from server scenario (opening_run scenario) (opening-stands server scenario good)

module _ (server : Server) (keeps : KeepsSound server) (scenario : Scenario) (good : IsGoodScenario scenario) where
  pub turns-sound : (run : Run) (turn : Turn) → IsGoodTurn (length scenario.clients) (session_count scenario) turn → IsSoundOver server scenario run →
      IsSoundOver server scenario (turn_served server run turn)
  turns-sound run turn known a =
      sound-from server scenario (turn_served server run turn) (turned-stands server keeps scenario good run turn known (sound-stands server scenario run a))

  pub clients-sound : (run : Run) → IsSoundOver server scenario run → IsSoundOver server scenario (after_clients run)
  clients-sound run a =
      sound-from server scenario (after_clients run) (clients-stand server keeps scenario good run.players run.history (sound-stands server scenario run a))

  pub sessions-sound : (run : Run) → IsSoundOver server scenario run → IsSoundOver server scenario (after_served server (session_count scenario) run)
  sessions-sound run a =
      sound-from server scenario (after_served server (session_count scenario) run)
      (sessions-stand server keeps scenario run.players (below (session_count scenario)) run.history (below-known (session_count scenario) (session_count scenario) (omega arith)) (sound-stands server scenario run a))

  pub takes-sound : (run : Run) → IsSoundOver server scenario run → IsSoundOver server scenario (after_takes run)
  takes-sound run a =
      sound-from server scenario (after_takes run) (takes-stand server keeps scenario good run.players run.history (sound-stands server scenario run a))

  pub rounds-sound : (run : Run) → IsSoundOver server scenario run → IsSoundOver server scenario (round_served server (session_count scenario) run)
  rounds-sound run a =
      sound-from server scenario (round_served server (session_count scenario) run) (round-stands server keeps scenario good run (sound-stands server scenario run a))

  pub repeats-sound : (n : ℕ) (run : Run) → IsSoundOver server scenario run → IsSoundOver server scenario (repeated n (round_served server (session_count scenario)) run)
  repeats-sound n run a =
      sound-from server scenario (repeated n (round_served server (session_count scenario)) run)
      (rounds-stand server keeps scenario good n run (sound-stands server scenario run a))

  pub schedules-sound : (run : Run) (ts : List Turn) → AllByRecursion (IsGoodTurn (length scenario.clients) (session_count scenario)) ts → IsSoundOver server scenario run →
      IsSoundOver server scenario (turns_served server run ts)
  schedules-sound run ts known a =
      sound-from server scenario (turns_served server run ts) (all-turned_stands server keeps scenario good run ts known (sound-stands server scenario run a))

  pub run-sound : IsSoundOver server scenario (run_served server scenario)
  run-sound =
      repeats-sound most_rounds (turns_served server (opening_run scenario) scenario.schedule)
      (schedules-sound (opening_run scenario) scenario.schedule good.turns (opening-sound server scenario good))
