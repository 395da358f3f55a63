-- All players together: no two share a session, and turns of players and sessions keep what is true of a run.
use Rattle.std.proofs.Common.{◌≡◌, ℕ, zero, suc, ◌+◌, ◌<◌, ◌≤◌, Bool, true, false, inl, inr, List, [], ◌∷◌, ◌++◌, map, sym, ap, ◌∙◌, arith, true≢false, append-nil}
use Rattle.std.specs.List.{AllByRecursion}
use Rattle.std.proofs.lemmas.Bool.{or_cases, or_from, or_left, or_right, false_from_ne_true}
use Rattle.sv_world.specs.declared.world.Shape.{Shape}
use Rattle.sv_wire.specs.declared.message.Request.{Request}
use Rattle.sv_journal.specs.declared.entry.Entry.{Entry}
use Rattle.sv_client.specs.Traces.{asked}
use Rattle.sv_scenario.specs.declared.scenario.Plan.{Plan}
use Rattle.sv_scenario.specs.Limits.{IsGoodPlan}
use Rattle.sv_scenario.specs.Sessions.{sessions_of_plan, sessions_in}
use Rattle.sv_script.proofs.Begun.{joins-counted}
use Rattle.law_system.proofs.Joined.{joined-within}
use Rattle.law_schedule.specs.Players.{Player, asked_in_run, at_player}
use Rattle.law_schedule.specs.Serving.{Server}
use Rattle.law_schedule.specs.Sound.{IsPlaying, ArePlaying, has_joined}
use Rattle.law_schedule.proofs.SoundTraces.{none-asked}
use Rattle.law_schedule.proofs.SoundPlayers.{IsFitting, IsKept}
use Rattle.law_schedule.proofs.SoundEntries.{begun_by, none-asked_in}

-- ---- Players have sessions of their own

-- The sessions that a player joined are those of its plan.
pub in-plan : (server : Server) (shape : Shape) (h : List Entry) (k s : ℕ) (plan : Plan) (p : Player) (n : ℕ) → IsPlaying shape k s plan p → IsFitting server h p → has_joined p n ≡ true →
    (s ≤ n) × (n < s + sessions_of_plan plan)
in-plan server shape h k s plan p n w fit j =
    let b = joined-within p.who p.first p.events n fit.proper j in
    let most = joins-counted p.who plan.steps p.events w.before w.follows in
    (omega (arith, b.0, w.first), omega (arith, b.1, w.first, most))

pub begun-above : (server : Server) (shape : Shape) (h : List Entry) (k s : ℕ) (plans : List Plan) (ps : List Player) (n : ℕ) → ArePlaying shape k s plans ps → AllByRecursion (IsFitting server h) ps →
    begun_by ps n ≡ true → s ≤ n
begun-above server shape h k s [] [] n w f b = absurd (true≢false (sym b))
begun-above server shape h k s [] (p ∷ ps) n w f b = absurd w
begun-above server shape h k s (plan ∷ plans) [] n w f b = absurd w
begun-above server shape h k s (plan ∷ plans) (p ∷ ps) n w f b =
    elim (or_cases (has_joined p n) (begun_by ps n) b) [
      | inl j ↦ (in-plan server shape h k s plan p n w.0 f.0 j).0
      | inr j ↦ (let above = begun-above server shape h (suc k) (s + sessions_of_plan plan) plans ps n w.1 f.1 j in omega (arith, above))
    ]

-- A session of a player's plan that it did not join was not begun at all.
abbrev pub IsOwn : (ℕ → Bool) → ℕ → Plan → Player → Type 0
IsOwn begun s plan p = (n : ℕ) → s ≤ n → n < s + sessions_of_plan plan → has_joined p n ≡ false → begun n ≡ false

abbrev pub AreOwn : (ℕ → Bool) → ℕ → List Plan → List Player → Type 0
AreOwn begun s [] [] = Unit {0}
AreOwn begun s (plan ∷ plans) (p ∷ ps) = IsOwn begun s plan p × AreOwn begun (s + sessions_of_plan plan) plans ps
AreOwn begun s _ _ = Unit {0}

own-more : (b c : ℕ → Bool) (low s : ℕ) (plans : List Plan) (ps : List Player) → low ≤ s → ((n : ℕ) → low ≤ n → b n ≡ false → c n ≡ false) → AreOwn b s plans ps → AreOwn c s plans ps
own-more b c low s [] [] l f a = tt
own-more b c low s [] (p ∷ ps) l f a = tt
own-more b c low s (plan ∷ plans) [] l f a = tt
own-more b c low s (plan ∷ plans) (p ∷ ps) l f a = (
  λ n above under j. f n (omega (arith, above, l)) (a.0 n above under j),
  own-more b c low (s + sessions_of_plan plan) plans ps (omega (arith, l)) f a.1,
)

pub all-own : (server : Server) (shape : Shape) (h : List Entry) (k s : ℕ) (plans : List Plan) (ps : List Player) → ArePlaying shape k s plans ps → AllByRecursion (IsFitting server h) ps →
    AreOwn (begun_by ps) s plans ps
all-own server shape h k s [] [] w f = tt
all-own server shape h k s [] (p ∷ ps) w f = tt
all-own server shape h k s (plan ∷ plans) [] w f = tt
all-own server shape h k s (plan ∷ plans) (p ∷ ps) w f =
    let next = s + sessions_of_plan plan in (
      λ n above under j. or_from (has_joined p n) (begun_by ps n) j
          (false_from_ne_true (begun_by ps n) (λ b. let late = begun-above server shape h (suc k) next plans ps n w.1 f.1 b in absurd (omega (arith, late, under)))),
      own-more (begun_by ps) (begun_by (p ∷ ps)) next next plans ps (omega arith)
          (λ n above b. or_from (has_joined p n) (begun_by ps n)
          (false_from_ne_true (has_joined p n) (λ j. let in_it = in-plan server shape h k s plan p n w.0 f.0 j in absurd (omega (arith, in_it.1, above)))) b)
          (all-own server shape h (suc k) next plans ps w.1 f.1),
    )

-- What is asked in a session is what its own player asks.
abbrev pub IsAlone : List Player → Player → Type 0
IsAlone whole p = (n : ℕ) → has_joined p n ≡ true → asked_in_run whole n ≡ asked p.who.client p.who.interest p.events n

alone-more : (server : Server) (shape : Shape) (h : List Entry) (k s low : ℕ) (plans : List Plan) (whole : List Player) (p : Player) (ps : List Player) → low ≤ s → ArePlaying shape k s plans ps → AllByRecursion (IsFitting server h) ps →
    ((n : ℕ) → low ≤ n → asked p.who.client p.who.interest p.events n ≡ []) → AllByRecursion (IsAlone whole) ps → AllByRecursion (IsAlone (p ∷ whole)) ps
alone-more server shape h k s low plans whole p [] l w f none a = tt
alone-more server shape h k s low [] whole p (q ∷ qs) l w f none a = absurd w
alone-more server shape h k s low (plan ∷ plans) whole p (q ∷ qs) l w f none a = (
  λ n j. ap (λ (rs : List Request). rs ++ asked_in_run whole n) (none n (let b = in-plan server shape h k s plan q n w.0 f.0 j in omega (arith, b.0, l))) ∙ a.0 n j,
  alone-more server shape h (suc k) (s + sessions_of_plan plan) low plans whole p qs (omega (arith, l)) w.1 f.1 none a.1,
)

pub all-alone : (server : Server) (shape : Shape) (h : List Entry) (k s : ℕ) (plans : List Plan) (ps : List Player) → ArePlaying shape k s plans ps → AllByRecursion (IsFitting server h) ps →
    AllByRecursion (IsAlone ps) ps
all-alone server shape h k s plans [] w f = tt
all-alone server shape h k s [] (p ∷ ps) w f = absurd w
all-alone server shape h k s (plan ∷ plans) (p ∷ ps) w f =
    let next = s + sessions_of_plan plan in (
      λ n j. ap (λ (rs : List Request). asked p.who.client p.who.interest p.events n ++ rs)
          (none-asked_in server h ps n f.1 (false_from_ne_true (begun_by ps n)
          (λ b. let late = begun-above server shape h (suc k) next plans ps n w.1 f.1 b in let mine = in-plan server shape h k s plan p n w.0 f.0 j in absurd (omega (arith, late, mine.1)))))
          ∙ append-nil (asked p.who.client p.who.interest p.events n),
      alone-more server shape h (suc k) next next plans ps p ps (omega arith) w.1 f.1
          (λ n above. none-asked p.who p.first p.events n f.0.proper (false_from_ne_true (has_joined p n)
          (λ j. let mine = in-plan server shape h k s plan p n w.0 f.0 j in absurd (omega (arith, mine.1, above)))))
          (all-alone server shape h (suc k) next plans ps w.1 f.1),
    )

-- ---- Turns of players

-- A turn of one player keeps what is true of it, whatever player it is.
abbrev pub KeepsEach : Server → Shape → List Entry → (ℕ → Bool) → (Player → Player) → Type 0
KeepsEach server shape h begun turn = (k s : ℕ) (plan : Plan) (p : Player) → IsGoodPlan shape plan → sessions_of_plan plan ≤ 64 → IsOwn begun s plan p → IsPlaying shape k s plan p → IsFitting server h p →
    IsKept server shape h k s plan p (turn p)

pub record AreKept (server : Server) (shape : Shape) (h : List Entry) (k s : ℕ) (plans : List Plan) (ps qs : List Player) : Type 0 where
  pub playing : ArePlaying shape k s plans qs
  pub fitting : AllByRecursion (IsFitting server h) qs
  pub more : (n : ℕ) → begun_by ps n ≡ true → begun_by qs n ≡ true

more-any : (p q : Player) (ps qs : List Player) (n : ℕ) → (has_joined p n ≡ true → has_joined q n ≡ true) → (begun_by ps n ≡ true → begun_by qs n ≡ true) →
    begun_by (p ∷ ps) n ≡ true → begun_by (q ∷ qs) n ≡ true
more-any p q ps qs n f g b =
    elim (or_cases (has_joined p n) (begun_by ps n) b) [
      | inl one ↦ or_left (has_joined q n) (begun_by qs n) (f one)
      | inr more ↦ or_right (has_joined q n) (begun_by qs n) (g more)
    ]

module _ (server : Server) (shape : Shape) (h : List Entry) (begun : ℕ → Bool) (turn : Player → Player) (keeps : KeepsEach server shape h begun turn) where
  pub one-kept : (i k s : ℕ) (plans : List Plan) (ps : List Player) → AllByRecursion (IsGoodPlan shape) plans → sessions_in plans ≤ 64 → AreOwn begun s plans ps →
      ArePlaying shape k s plans ps → AllByRecursion (IsFitting server h) ps → AreKept server shape h k s plans ps (at_player ps i turn)
  one-kept i k s plans [] good few own w f = record { playing = w; fitting = tt; more = λ n b. b }
  one-kept i k s [] (p ∷ ps) good few own w f = absurd w
  one-kept zero k s (plan ∷ plans) (p ∷ ps) good few own w f =
      let one = keeps k s plan p good.0 (omega (arith, few)) own.0 w.0 f.0 in
      record {
        playing = (one.playing, w.1);
        fitting = (one.fitting, f.1);
        more = λ n b. more-any p (turn p) ps ps n (one.more n) (λ c. c) b;
      }
  one-kept (suc i) k s (plan ∷ plans) (p ∷ ps) good few own w f =
      let rest = one-kept i (suc k) (s + sessions_of_plan plan) plans ps good.1 (omega (arith, few)) own.1 w.1 f.1 in
      record {
        playing = (w.0, rest.playing);
        fitting = (f.0, rest.fitting);
        more = λ n b. more-any p p ps (at_player ps i turn) n (λ c. c) (rest.more n) b;
      }

  pub each-kept : (k s : ℕ) (plans : List Plan) (ps : List Player) → AllByRecursion (IsGoodPlan shape) plans → sessions_in plans ≤ 64 → AreOwn begun s plans ps →
      ArePlaying shape k s plans ps → AllByRecursion (IsFitting server h) ps → AreKept server shape h k s plans ps (map turn ps)
  each-kept k s plans [] good few own w f = record { playing = w; fitting = tt; more = λ n b. b }
  each-kept k s [] (p ∷ ps) good few own w f = absurd w
  each-kept k s (plan ∷ plans) (p ∷ ps) good few own w f =
      let one = keeps k s plan p good.0 (omega (arith, few)) own.0 w.0 f.0 in
      let rest = each-kept (suc k) (s + sessions_of_plan plan) plans ps good.1 (omega (arith, few)) own.1 w.1 f.1 in
      record {
        playing = (one.playing, rest.playing);
        fitting = (one.fitting, rest.fitting);
        more = λ n b. more-any p (turn p) ps (map turn ps) n (one.more n) (rest.more n) b;
      }
