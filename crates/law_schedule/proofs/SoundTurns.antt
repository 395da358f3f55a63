-- Turns and rounds keep what is true of a run, said by its players.
use Rattle.std.proofs.Common.{◌≡◌, ℕ, zero, suc, ◌<◌, ◌≤◌, true, false, List, [], ◌∷◌, map, drop, length, Some, slice_get, refl, sym, ap, ◌∙◌, arith, true≢false}
use Rattle.std.specs.Prelude.{if◌then◌else◌}
use Rattle.std.specs.List.{list_any, AllByRecursion}
use Rattle.std.proofs.lemmas.Bool.{cond_both, true_from_ne_false}
use Rattle.std.proofs.lemmas.Option.{none-some}
use Rattle.sv_world.specs.declared.world.Shape.{Shape}
use Rattle.sv_world.specs.Control.{below}
use Rattle.sv_wire.specs.declared.message.Request.{Request}
use Rattle.sv_wire.specs.declared.message.Request.TheVariants as requests
use Rattle.sv_journal.specs.declared.entry.Entry.{Entry}
use Rattle.sv_journal.specs.Sessions.{is_ended}
use Rattle.sv_scenario.specs.declared.scenario.Scenario.{Scenario}
use Rattle.sv_scenario.specs.declared.scenario.Turn.{Turn}
use Rattle.sv_scenario.specs.declared.scenario.Turn.TheVariants as turns
use Rattle.sv_scenario.specs.Limits.{IsGoodScenario, IsGoodTurn}
use Rattle.sv_scenario.specs.Sessions.{session_count}
use Rattle.law_system.specs.Fits.{requests_in}
use Rattle.law_system.proofs.Every.{each-push}
use Rattle.law_schedule.specs.Players.{Player, player_turn, take_turn, take_turns, asked_in_run, has_closed, repeated, at_player}
use Rattle.law_schedule.specs.Serving.{Run, Server, served, serves_next, is_stopped, session_served, all_served, sessions_served, turn_served, turns_served, after_clients, after_served, round_served}
use Rattle.law_schedule.specs.Sound.{ArePlaying}
use Rattle.law_schedule.specs.Served.{IsServersOwn, KeepsSound}
use Rattle.law_schedule.proofs.SoundPlayers.{IsFitting, turn-kept, take-kept, takes-all_kept}
use Rattle.law_schedule.proofs.SoundEntries.{IsNextOf, entries-fit, begun_by, none-asked_in, closed-begun, stopped-begun, unused-unless_begun, drop-get}
use Rattle.law_schedule.proofs.SoundRuns.{IsAlone, all-alone, all-own, AreKept, KeepsEach, one-kept, each-kept}

pub below-known : (n m : ℕ) → n ≤ m → AllByRecursion (λ s. s < m) (below n)
below-known zero m l = tt
below-known (suc n) m l = each-push (λ s. s < m) (below n) n (below-known n m (omega (arith, l))) (omega (arith, l))

-- What is true of a history and players.
pub record AreStanding (server : Server) (scenario : Scenario) (h : List Entry) (ps : List Player) : Type 0 where
  pub served : IsServersOwn server h
  pub sessions : AllByRecursion (λ (e : Entry). e.session < session_count scenario) h
  pub begun : AllByRecursion (λ (e : Entry). begun_by ps e.session ≡ true) h
  pub playing : ArePlaying scenario.world.shape 0 0 scenario.clients ps
  pub fitting : AllByRecursion (IsFitting server h) ps

all-begun : (ps qs : List Player) (h : List Entry) → ((n : ℕ) → begun_by ps n ≡ true → begun_by qs n ≡ true) → AllByRecursion (λ (e : Entry). begun_by ps e.session ≡ true) h →
    AllByRecursion (λ (e : Entry). begun_by qs e.session ≡ true) h
all-begun ps qs [] f b = tt
all-begun ps qs (e ∷ h) f b = (f e.session b.0, all-begun ps qs h f b.1)

next-each : (h : List Entry) (s : ℕ) (request : Request) (whole ps : List Player) →
    slice_get (asked_in_run whole s) (length (requests_in h s)) ≡ Some request → AllByRecursion (IsAlone whole) ps → AllByRecursion (IsNextOf h s request) ps
next-each h s request whole [] is a = tt
next-each h s request whole (p ∷ ps) is a = (
  λ j e. ap (λ (rs : List Request). slice_get rs (length (requests_in h s))) (sym (a.0 s j)) ∙ is,
  next-each h s request whole ps is a.1,
)

next-end : (h : List Entry) (s : ℕ) (ps : List Player) → AllByRecursion (IsNextOf h s requests.End) ps
next-end h s [] = tt
next-end h s (p ∷ ps) = (λ j e. absurd (true≢false e), next-end h s ps)

module _ (server : Server) (keeps : KeepsSound server) (scenario : Scenario) where
  abbrev shape : Shape
  shape = scenario.world.shape

  abbrev pub Standing : List Player → List Entry → Type 0
  Standing ps h = AreStanding server scenario h ps

  -- ---- Sessions

  module _ (ps : List Player) (s : ℕ) (known : s < session_count scenario) where
    entry-stands : (h : List Entry) → Standing ps h → (request : Request) → is_ended h s ≡ false → begun_by ps s ≡ true → AllByRecursion (IsNextOf h s request) ps →
        Standing ps (served server h s request)
    entry-stands h a request open-yet b next = record {
      served = ((request, refl), a.served);
      sessions = (known, a.sessions);
      begun = (b, a.begun);
      playing = a.playing;
      fitting = entries-fit server keeps h (keeps.named h a.served) s request open-yet ps next a.fitting;
    }

    end-stands : (h : List Entry) → Standing ps h → is_ended h s ≡ false → begun_by ps s ≡ true → Standing ps (served server h s requests.End)
    end-stands h a open-yet b = entry-stands h a requests.End open-yet b (next-end h s ps)

    waiting-begun : (h : List Entry) → Standing ps h → (n : ℕ) (request : Request) → slice_get (asked_in_run ps s) n ≡ Some request → begun_by ps s ≡ true
    waiting-begun h a n request is =
        true_from_ne_false (begun_by ps s)
        (λ b. absurd (none-some request (sym (ap (λ (rs : List Request). slice_get rs n) (none-asked_in server h ps s a.fitting b)) ∙ is)))

    next-stands : (h : List Entry) → Standing ps h → is_ended h s ≡ false → (waiting : List Request) → drop (length (requests_in h s)) (asked_in_run ps s) ≡ waiting →
        Standing ps (serves_next server h s (list_any (has_closed s) ps) waiting)
    next-stands h a open-yet [] e =
        cond_both (list_any (has_closed s) ps) (served server h s requests.End) h (Standing ps) (λ c. end-stands h a open-yet (closed-begun ps s c)) (λ c. a)
    next-stands h a open-yet (request ∷ waiting) e =
        let is = drop-get (asked_in_run ps s) (length (requests_in h s)) request waiting e in
        entry-stands h a request open-yet (waiting-begun h a (length (requests_in h s)) request is)
        (next-each h s request ps ps is (all-alone server shape h 0 0 scenario.clients ps a.playing a.fitting))

    -- A session's turn.
    pub session-stands : (h : List Entry) → Standing ps h → Standing ps (session_served server ps h s)
    session-stands h a =
        cond_both (is_ended h s) h (if is_stopped h s then served server h s requests.End else serves_next server h s (list_any (has_closed s) ps) (drop (length (requests_in h s)) (asked_in_run ps s))) (Standing ps)
        (λ _. a)
        (λ o. cond_both (is_stopped h s) (served server h s requests.End) (serves_next server h s (list_any (has_closed s) ps) (drop (length (requests_in h s)) (asked_in_run ps s))) (Standing ps)
        (λ c. end-stands h a o (stopped-begun ps h s a.begun c))
        (λ _. next-stands h a o (drop (length (requests_in h s)) (asked_in_run ps s)) refl))

    pub session-times : (n : ℕ) (h : List Entry) → Standing ps h → Standing ps (repeated n (λ g. session_served server ps g s) h)
    session-times zero h a = a
    session-times (suc n) h a = session-times n (session_served server ps h s) (session-stands h a)

    pub session-all_stands : (h : List Entry) → Standing ps h → Standing ps (all_served server ps h s)
    session-all_stands h a = session-times (suc (length (asked_in_run ps s))) h a

  pub sessions-stand : (ps : List Player) (ss : List ℕ) (h : List Entry) → AllByRecursion (λ s. s < session_count scenario) ss → Standing ps h → Standing ps (sessions_served server ps h ss)
  sessions-stand ps [] h known a = a
  sessions-stand ps (s ∷ ss) h known a = sessions-stand ps ss (all_served server ps h s) known.1 (session-all_stands ps s known.0 h a)

  -- ---- Clients

  kept-stands : (ps qs : List Player) (h : List Entry) → Standing ps h → AreKept server shape h 0 0 scenario.clients ps qs → Standing qs h
  kept-stands ps qs h a k = record { served = a.served; sessions = a.sessions; begun = all-begun ps qs h k.more a.begun; playing = k.playing; fitting = k.fitting }

  keeps-turn : (ps : List Player) (h : List Entry) → Standing ps h → KeepsEach server shape h (begun_by ps) player_turn
  keeps-turn ps h a k s plan p good few own w f =
      turn-kept server shape h k s plan p w f good few (λ n above under j. unused-unless_begun ps h n a.begun (own n above under j))

  keeps-take : (ps : List Player) (h : List Entry) → KeepsEach server shape h (begun_by ps) (take_turn h)
  keeps-take ps h k s plan p good few own w f = take-kept server shape h k s plan p w f

  keeps-takes : (ps : List Player) (h : List Entry) → KeepsEach server shape h (begun_by ps) (take_turns h)
  keeps-takes ps h k s plan p good few own w f = takes-all_kept server shape h k s plan p w f

  module _ (good : IsGoodScenario scenario) where
    one-stands : (turn : Player → Player) (i : ℕ) (ps : List Player) (h : List Entry) → KeepsEach server shape h (begun_by ps) turn → Standing ps h → Standing (at_player ps i turn) h
    one-stands turn i ps h keeps a =
        kept-stands ps (at_player ps i turn) h a
        (one-kept server shape h (begun_by ps) turn keeps i 0 0 scenario.clients ps good.plans good.sessions (all-own server shape h 0 0 scenario.clients ps a.playing a.fitting) a.playing a.fitting)

    each-stands : (turn : Player → Player) (ps : List Player) (h : List Entry) → KeepsEach server shape h (begun_by ps) turn → Standing ps h → Standing (map turn ps) h
    each-stands turn ps h keeps a =
        kept-stands ps (map turn ps) h a
        (each-kept server shape h (begun_by ps) turn keeps 0 0 scenario.clients ps good.plans good.sessions (all-own server shape h 0 0 scenario.clients ps a.playing a.fitting) a.playing a.fitting)

    pub client-stands : (i : ℕ) (ps : List Player) (h : List Entry) → Standing ps h → Standing (at_player ps i player_turn) h
    client-stands i ps h a = one-stands player_turn i ps h (keeps-turn ps h a) a

    pub take-stands : (i : ℕ) (ps : List Player) (h : List Entry) → Standing ps h → Standing (at_player ps i (take_turn h)) h
    take-stands i ps h a = one-stands (take_turn h) i ps h (keeps-take ps h) a

    pub clients-stand : (ps : List Player) (h : List Entry) → Standing ps h → Standing (map player_turn ps) h
    clients-stand ps h a = each-stands player_turn ps h (keeps-turn ps h a) a

    pub takes-stand : (ps : List Player) (h : List Entry) → Standing ps h → Standing (map (take_turns h) ps) h
    takes-stand ps h a = each-stands (take_turns h) ps h (keeps-takes ps h) a

    -- ---- Runs

    abbrev pub IsStanding : Run → Type 0
    IsStanding run = AreStanding server scenario run.history run.players

    pub turned-stands : (run : Run) (turn : Turn) → IsGoodTurn (length scenario.clients) (session_count scenario) turn → IsStanding run → IsStanding (turn_served server run turn)
    turned-stands run (turns.Client k) g a = client-stands k run.players run.history a
    turned-stands run (turns.Session s) g a = session-stands run.players s g run.history a
    turned-stands run (turns.Take k) g a = take-stands k run.players run.history a

    pub all-turned_stands : (run : Run) (ts : List Turn) → AllByRecursion (IsGoodTurn (length scenario.clients) (session_count scenario)) ts → IsStanding run → IsStanding (turns_served server run ts)
    all-turned_stands run [] g a = a
    all-turned_stands run (turn ∷ ts) g a = all-turned_stands (turn_served server run turn) ts g.1 (turned-stands run turn g.0 a)

    pub round-stands : (run : Run) → IsStanding run → IsStanding (round_served server (session_count scenario) run)
    round-stands run a =
        let n = session_count scenario in
        let clients : IsStanding (after_clients run) = clients-stand run.players run.history a in
        let sessions : IsStanding (after_served server n (after_clients run)) = sessions-stand (after_clients run).players (below n) run.history (below-known n n (omega arith)) clients in
        takes-stand (after_served server n (after_clients run)).players (after_served server n (after_clients run)).history sessions

    pub rounds-stand : (n : ℕ) (run : Run) → IsStanding run → IsStanding (repeated n (round_served server (session_count scenario)) run)
    rounds-stand zero run a = a
    rounds-stand (suc n) run a = rounds-stand n (round_served server (session_count scenario) run) (round-stands run a)
