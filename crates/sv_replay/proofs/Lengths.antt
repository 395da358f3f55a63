-- The journal of a sound run is short: each session has at most 530 requests, and an End.
use Rattle.std.proofs.Common.{◌≡◌, ℕ, zero, suc, ◌+◌, ◌*◌, ◌<◌, ◌≤◌, Bool, true, false, ◌&&◌, ◌||◌, ◌==◌, not, inl, inr, List, [], ◌∷◌, ◌++◌, length, Some, slice_get, refl, sym, ap, ◌∙◌, arith, eqb-true, eq-eqb, true≢false}
use Rattle.std.specs.Prelude.{if◌then◌else◌}
use Rattle.std.specs.List.{list_any, AllByRecursion}
use Rattle.std.proofs.lemmas.Bool.{cases_Bool, cases_eq, cond_both, cond-true, cond-false, or_cases, or_parts}
use Rattle.std.proofs.lemmas.List.{length-append}
use Rattle.std.proofs.lemmas.List.Elements.{recursion_from_All}
use Rattle.std.proofs.lemmas.Option.{slice_get_within}
use Rattle.sv_wire.specs.declared.message.Request.{Request}
use Rattle.sv_journal.specs.declared.entry.Entry.{Entry}
use Rattle.sv_journal.specs.Sessions.{is_end, is_ended}
use Rattle.sv_scenario.specs.declared.scenario.Scenario.{Scenario}
use Rattle.sv_scenario.specs.Limits.{IsGoodScenario}
use Rattle.sv_scenario.specs.Sessions.{session_count}
use Rattle.sv_script.proofs.Asked.{few-asked}
use Rattle.law_system.specs.Fits.{requests_in, IsEndLast}
use Rattle.law_system.proofs.Entered.{is_of}
use Rattle.law_schedule.specs.Players.{Player}
use Rattle.law_schedule.specs.Serving.{Run, Server}
use Rattle.law_schedule.specs.Sound.{has_joined}
use Rattle.law_schedule.specs.Served.{AreHeard, IsSoundOver}
use Rattle.law_schedule.proofs.SoundCalls.{IsPlayer, player-at}
use Rattle.sv_replay.specs.Players.{asked_by_player}

-- ---- Entries by their sessions

-- How many entries a session has.
abbrev entries_of : List Entry → ℕ → ℕ
entries_of [] s = 0
entries_of (e ∷ h) s = if e.session == s then suc (entries_of h s) else entries_of h s

-- How many the first n sessions have.
abbrev entries_below : ℕ → List Entry → ℕ
entries_below zero h = 0
entries_below (suc n) h = entries_below n h + entries_of h n

here_one : (e : Entry) (h : List Entry) (s : ℕ) → e.session ≡ s → entries_of (e ∷ h) s ≡ suc (entries_of h s)
here_one e h s is = cond-true (e.session == s) (suc (entries_of h s)) (entries_of h s) (eq-eqb e.session s is)

here_grows : (e : Entry) (h : List Entry) (s : ℕ) → entries_of h s ≤ entries_of (e ∷ h) s
here_grows e h s = go (e.session == s)
  where
    go : (b : Bool) → entries_of h s ≤ (if b then suc (entries_of h s) else entries_of h s)
    go true = omega arith
    go false = omega arith

below_grows : (n : ℕ) (e : Entry) (h : List Entry) → entries_below n h ≤ entries_below n (e ∷ h)
below_grows zero e h = omega arith
below_grows (suc n) e h = omega (arith, below_grows n e h, here_grows e h n)

below_more : (n : ℕ) (e : Entry) (h : List Entry) → e.session < n → suc (entries_below n h) ≤ entries_below n (e ∷ h)
below_more zero e h low = absurd (omega (arith, low))
below_more (suc n) e h low =
    elim (cases_eq e.session n) [
      | inl is ↦ omega (arith, below_grows n e h, here_one e h n is)
      | inr other ↦ (let less : e.session < n = omega (arith, low, other) in omega (arith, below_more n e h less, here_grows e h n))
    ]

all_below : (n : ℕ) (h : List Entry) → AllByRecursion (λ (e : Entry). e.session < n) h → length h ≤ entries_below n h
all_below n [] all = omega arith
all_below n (e ∷ h) all = omega (arith, all_below n h all.1, below_more n e h all.0)

few_below : (n : ℕ) (h : List Entry) → ((s : ℕ) → entries_of h s ≤ 531) → entries_below n h ≤ 531 * n
few_below zero h few = omega arith
few_below (suc n) h few = omega (arith, few_below n h few, few n)

-- ---- A session's entries are its requests and at most one End

running_parts : (e : Entry) (h : List Entry) (s : ℕ) → is_ended (e ∷ h) s ≡ false → e.session ≡ s → (is_end e.request ≡ false) × (is_ended h s ≡ false)
running_parts e h s f is = go (is_end e.request) (is_ended h s) (sym (ap (λ (b : Bool). (b && is_end e.request) || is_ended h s) (eq-eqb e.session s is)) ∙ f)
  where
    go : (a b : Bool) → ((true && a) || b) ≡ false → (a ≡ false) × (b ≡ false)
    go true b e = cc
    go false true e = cc
    go false false e = (refl, refl)

running_rest : (e : Entry) (h : List Entry) (s : ℕ) → is_ended (e ∷ h) s ≡ false → is_ended h s ≡ false
running_rest e h s f = (or_parts (e.session == s && is_end e.request) (is_ended h s) f).1

one_more : (e : Entry) (h : List Entry) (s : ℕ) → e.session ≡ s → is_end e.request ≡ false → length (requests_in (e ∷ h) s) ≡ length (requests_in h s) + 1
one_more e h s is f =
    ap (λ (rs : List Request). length rs) (cond-true (e.session == s && not (is_end e.request)) (requests_in h s ++ e.request ∷ []) (requests_in h s) (rw (eq-eqb e.session s is, f) refl))
    ∙ length-append (requests_in h s) (e.request ∷ [])

others_same : (e : Entry) (h : List Entry) (s : ℕ) → (e.session == s) ≡ false → length (requests_in (e ∷ h) s) ≡ length (requests_in h s)
others_same e h s f = ap (λ (b : Bool). length (if b && not (is_end e.request) then requests_in h s ++ e.request ∷ [] else requests_in h s)) f

requests_grow : (e : Entry) (h : List Entry) (s : ℕ) → length (requests_in h s) ≤ length (requests_in (e ∷ h) s)
requests_grow e h s = go (e.session == s && not (is_end e.request))
  where
    go : (b : Bool) → length (requests_in h s) ≤ length (if b then requests_in h s ++ e.request ∷ [] else requests_in h s)
    go true = omega (arith, length-append (requests_in h s) (e.request ∷ []))
    go false = omega arith

running_many : (h : List Entry) (s : ℕ) → is_ended h s ≡ false → entries_of h s ≡ length (requests_in h s)
running_many [] s f = refl
running_many (e ∷ h) s f =
    let before = running_many h s (running_rest e h s f) in
    elim (cases_Bool (e.session == s)) [
      | inl y ↦ (let is = eqb-true e.session s y in omega (arith, before, here_one e h s is, one_more e h s is (running_parts e h s f is).0))
      | inr n ↦ cond-false (e.session == s) (suc (entries_of h s)) (entries_of h s) n ∙ before ∙ sym (others_same e h s n)
    ]

end_once : (h : List Entry) (s : ℕ) → IsEndLast h s → entries_of h s ≤ length (requests_in h s) + 1
end_once [] s last = omega arith
end_once (e ∷ h) s last =
    elim (cases_Bool (e.session == s)) [
      | inl y ↦ (let is = eqb-true e.session s y in omega (arith, running_many h s (last.0 is), here_one e h s is, requests_grow e h s))
      | inr n ↦ omega (arith, end_once h s last.1, cond-false (e.session == s) (suc (entries_of h s)) (entries_of h s) n, requests_grow e h s)
    ]

-- ---- Requests asked

player_asks : (server : Server) (scenario : Scenario) (run : Run) (p : Player) (s : ℕ) → IsPlayer server scenario.world.shape (session_count scenario) run.history p → length (asked_by_player p s) ≤ 530
player_asks server scenario run p s a = few-asked p.who p.first a.plan.steps p.events a.playing.before s a.good.few_steps a.fitting.proper a.playing.follows

-- The journal has no more requests of a session than are asked in it.
heard_few : (server : Server) (h : List Entry) (s : ℕ) (qs : List Request) → AreHeard server h s qs → length (requests_in h s) ≤ length qs
heard_few server [] s qs a = omega arith
heard_few server (e ∷ h) s qs a =
    cond_both (is_of e s) (requests_in h s ++ e.request ∷ []) (requests_in h s) (λ (rs : List Request). length rs ≤ length qs)
    (λ t. let one = a.0 t in omega (arith, slice_get_within qs (length (requests_in h s)) one.request one.next, length-append (requests_in h s) (e.request ∷ [])))
    (λ _. heard_few server h s qs a.1)

-- ---- The journal

-- Who joined a session.
pub owner_of : (ps : List Player) (s : ℕ) → list_any (λ (p : Player). has_joined p s) ps ≡ true → (k : ℕ) × ((p : Player) × ((slice_get ps k ≡ Some p) × (has_joined p s ≡ true)))
owner_of [] s h = absurd (true≢false (sym h))
owner_of (p ∷ ps) s h =
    elim (or_cases (has_joined p s) (list_any (λ (q : Player). has_joined q s) ps) h) [
      | inl e ↦ (0, (p, (refl, e)))
      | inr e ↦ (let f = owner_of ps s e in (suc f.0, f.1))
    ]

none_of : (begun : ℕ → Bool) (h : List Entry) (s : ℕ) → AllByRecursion (λ (e : Entry). begun e.session ≡ true) h → begun s ≡ false → entries_of h s ≡ 0
none_of begun [] s all f = refl
none_of begun (e ∷ h) s all f =
    elim (cases_Bool (e.session == s)) [
      | inl y ↦ absurd (true≢false (sym all.0 ∙ ap begun (eqb-true e.session s y) ∙ f))
      | inr n ↦ cond-false (e.session == s) (suc (entries_of h s)) (entries_of h s) n ∙ none_of begun h s all.1 f
    ]

session_few : (server : Server) (scenario : Scenario) (run : Run) → IsGoodScenario scenario → IsSoundOver server scenario run → (s : ℕ) → entries_of run.history s ≤ 531
session_few server scenario run good sound s =
    elim (cases_Bool (list_any (λ (p : Player). has_joined p s) run.players)) [
      | inr n ↦ omega (arith, none_of (λ (i : ℕ). list_any (λ (p : Player). has_joined p i) run.players) run.history s (recursion_from_All _ run.history sound.begun) n)
      | inl y ↦
          (let o = owner_of run.players s y in
          let a = player-at server scenario run good sound o.0 o.1.0 o.1.1.0 in
          let f = a.fitting.sessions s o.1.1.1 in
          omega (arith, end_once run.history s f.ended, heard_few server run.history s (asked_by_player o.1.0 s) f.heard, player_asks server scenario run o.1.0 s a))
    ]

-- A sound run has at most 33,984 entries, whatever the server.
pub history_few : (server : Server) (scenario : Scenario) (run : Run) → IsGoodScenario scenario → IsSoundOver server scenario run → length run.history ≤ 33984
history_few server scenario run good sound =
    let all = all_below (session_count scenario) run.history (recursion_from_All (λ (e : Entry). e.session < session_count scenario) run.history sound.sessions) in
    let few = few_below (session_count scenario) run.history (session_few server scenario run good sound) in
    omega (arith, all, few, good.sessions)
