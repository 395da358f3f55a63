-- The session that a player is in, or joins next.
use Rattle.std.proofs.Common.{◌≡◌, ℕ, ◌+◌, ◌-◌, ◌<◌, ◌≤◌, true, false, inl, inr, refl, arith}
use Rattle.std.proofs.lemmas.Bool.{cases_Bool}
use Rattle.sv_client.specs.Traces.{joins}
use Rattle.sv_script.specs.Following.{must_join}
use Rattle.law_schedule.specs.Players.{Player}
use Rattle.sv_replay.specs.Players.{session_of, IsFit}

pub place_between : (p : Player) → must_join p.events ≡ true → session_of p ≡ p.first + joins p.events
place_between p m = rw m refl

pub place_within : (p : Player) → must_join p.events ≡ false → session_of p ≡ (p.first + joins p.events) - 1
place_within p m = rw m refl

pub few_places : (p : Player) → IsFit 64 p → p.first + joins p.events ≤ 64
few_places p fit = elim (cases_Bool (must_join p.events)) [
  | inl y ↦ (let at : session_of p ≡ p.first + joins p.events = place_between p y in omega (arith, fit.known))
  | inr f ↦ (let at : session_of p ≡ (p.first + joins p.events) - 1 = place_within p f in omega (arith, fit.known))
]

pub fewer_fit : (n : ℕ) (p : Player) → n ≤ 64 → IsFit n p → IsFit 64 p
fewer_fit n p l fit = record { proper = fit.proper; begun = fit.begun; known = omega (arith, fit.known) }

pub first_few : (p : Player) → IsFit 64 p → p.first < 64
first_few p fit = elim (cases_Bool (must_join p.events)) [
  | inl y ↦ (let at : session_of p ≡ p.first + joins p.events = place_between p y in omega (arith, fit.known))
  | inr f ↦ (let at : session_of p ≡ (p.first + joins p.events) - 1 = place_within p f in omega (arith, fit.known, fit.begun f))
]
