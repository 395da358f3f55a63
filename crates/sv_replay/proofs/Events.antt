-- What one event of a client asks, takes and closes, where its first session has the number `first`.
use Rattle.std.proofs.Common.{◌≡◌, ℕ, suc, ◌+◌, ◌≤◌, Bool, true, false, ◌&&◌, ◌||◌, not, ◌==◌, List, [], ◌∷◌, ◌++◌, Option, Some, None, option_map, refl, sym, ap, ◌∙◌, arith, eq-eqb}
use Rattle.std.specs.Prelude.{if◌then◌else◌, unwrap_or}
use Rattle.std.specs.List.{list_any}
use Rattle.std.proofs.lemmas.List.{append-nil}
use Rattle.sv_wire.specs.declared.message.Request.{Request}
use Rattle.sv_wire.specs.declared.message.Request.TheVariants as requests
use Rattle.sv_wire.specs.declared.message.Reply.{Reply}
use Rattle.sv_client.specs.declared.trace.Event.{Event}
use Rattle.sv_client.specs.declared.trace.Event.TheVariants as events
use Rattle.sv_client.specs.Traces.{joins, current_session, is_session, makes, asked_by_event, got}
use Rattle.sv_client.specs.Taking.{Identity}
use Rattle.sv_client.specs.Proper.{AreProper}
use Rattle.sv_client.specs.Seen.{raised, latest_session, newly_asked}
use Rattle.sv_client.proofs.Shifts.{Up, up_joins, up_pending, up_held, up_makes, up_current}
use Rattle.sv_client.proofs.Sessions.{apart}
use Rattle.sv_script.specs.Laws.{is_got}
use Rattle.sv_script.specs.Following.{must_join, is_welcomed}
use Rattle.law_system.specs.Fits.{is_join_of}

-- ---- Flags

pub up_must : (first : ℕ) (t : List Event) → must_join (Up first t) ≡ must_join t
up_must first [] = refl
up_must first (events.Join s ∷ t) = refl
up_must first (events.Make a ∷ t) = refl
up_must first (events.Poll ∷ t) = refl
up_must first (events.Observe objects wait ∷ t) = refl
up_must first (events.Leave ∷ t) = refl
up_must first (events.Got s reply ∷ t) = refl
up_must first (events.Cut ∷ t) = refl
up_must first (events.Quit ∷ t) = refl
up_must first (events.Show os ∷ t) = refl

pub up_welcomed : (first : ℕ) (t : List Event) → is_welcomed (Up first t) ≡ is_welcomed t
up_welcomed first [] = refl
up_welcomed first (events.Join s ∷ t) = refl
up_welcomed first (events.Make a ∷ t) = up_welcomed first t
up_welcomed first (events.Poll ∷ t) = up_welcomed first t
up_welcomed first (events.Observe objects wait ∷ t) = up_welcomed first t
up_welcomed first (events.Leave ∷ t) = up_welcomed first t
up_welcomed first (events.Got s reply ∷ t) = refl
up_welcomed first (events.Cut ∷ t) = up_welcomed first t
up_welcomed first (events.Quit ∷ t) = up_welcomed first t
up_welcomed first (events.Show os ∷ t) = up_welcomed first t

-- ---- Asked

pub either_way : {X : Type 0} (b : Bool) (x : X) → (if b then x else x) ≡ x
either_way true x = refl
either_way false x = refl

one_asked : (o : Option ℕ) (first s : ℕ) (xs : List Request) →
    (if is_session (option_map (λ k. k + first) o) s then xs else []) ≡ (if unwrap_or o 0 + first == s then (if is_session o (unwrap_or o 0) then xs else []) else [])
one_asked None first s xs = sym (either_way (0 + first == s) [])
one_asked (Some n) first s xs = rw (eq-eqb n n refl) refl

asked_once : (first : ℕ) (t : List Event) (s : ℕ) (xs ys : List Request) → xs ≡ ys →
    (if is_session (current_session (Up first t)) s then xs else []) ≡ (if latest_session t + first == s then (if is_session (current_session t) (latest_session t) then ys else []) else [])
asked_once first t s xs ys e = rw (up_current first t, e) (one_asked (current_session t) first s ys)

-- What an event asks is asked of the session that then is the last one.
pub asks_up : (who : Identity) (first : ℕ) (t : List Event) (e : Event) → is_got e ≡ false → (s : ℕ) →
    asked_by_event who.client who.interest (Up first t) (raised first e) s ≡ (if latest_session (e ∷ t) + first == s then newly_asked who t e else [])
asks_up who first t (events.Join n) g s = rw (up_joins first t, up_pending first t, eq-eqb n n refl) refl
asks_up who first t (events.Make a) g s =
    asked_once first t s (requests.Submit (suc (makes (Up first t))) a ∷ []) (requests.Submit (suc (makes t)) a ∷ []) (ap (λ n. requests.Submit (suc n) a ∷ []) (up_makes first t))
asks_up who first t events.Poll g s = asked_once first t s (requests.Poll ∷ []) (requests.Poll ∷ []) refl
asks_up who first t (events.Observe objects wait) g s = asked_once first t s (requests.Observe objects wait ∷ []) (requests.Observe objects wait ∷ []) refl
asks_up who first t events.Leave g s = asked_once first t s (requests.Leave ∷ []) (requests.Leave ∷ []) refl
asks_up who first t (events.Got n reply) g s = cc
asks_up who first t events.Cut g s = sym (either_way (latest_session t + first == s) [])
asks_up who first t events.Quit g s = sym (either_way (latest_session t + first == s) [])
asks_up who first t (events.Show os) g s = sym (either_way (latest_session t + first == s) [])

-- What a reply of the last session makes a client ask.
pub asks_got : (who : Identity) (first : ℕ) (t : List Event) (m : ℕ) (reply : Reply) → m ≡ latest_session t → (s : ℕ) →
    asked_by_event who.client who.interest (Up first t) (events.Got (m + first) reply) s ≡ (if m + first == s then newly_asked who t (events.Got m reply) else [])
asks_got who first t m reply e s = rw (up_held first t, eq-eqb m (latest_session t) e) refl

-- ---- Got

pub gets_none : (first : ℕ) (t : List Event) (e : Event) → is_got e ≡ false → (n s : ℕ) → got (raised first e ∷ t) s ≡ got t s ++ (if n == s then [] else [])
gets_none first t e g n s = gets_same first t e g s ∙ sym (ap (λ (rs : List Reply). got t s ++ rs) (either_way (n == s) []) ∙ append-nil (got t s))
  where
    gets_same : (first : ℕ) (t : List Event) (e : Event) → is_got e ≡ false → (s : ℕ) → got (raised first e ∷ t) s ≡ got t s
    gets_same first t (events.Join n) g s = refl
    gets_same first t (events.Make a) g s = refl
    gets_same first t events.Poll g s = refl
    gets_same first t (events.Observe objects wait) g s = refl
    gets_same first t events.Leave g s = refl
    gets_same first t (events.Got n reply) g s = cc
    gets_same first t events.Cut g s = refl
    gets_same first t events.Quit g s = refl
    gets_same first t (events.Show os) g s = refl

pub gets_one : (t : List Event) (n : ℕ) (reply : Reply) (s : ℕ) → got (events.Got n reply ∷ t) s ≡ got t s ++ (if n == s then reply ∷ [] else [])
gets_one t n reply s = go (n == s)
  where
    go : (b : Bool) → (if b then got t s ++ reply ∷ [] else got t s) ≡ got t s ++ (if b then reply ∷ [] else [])
    go true = refl
    go false = sym (append-nil (got t s))

-- ---- Sessions begun

pub not_begun : (who : Identity) (first : ℕ) (t : List Event) → AreProper who first t → (k : ℕ) → first + joins t ≤ k → list_any (is_join_of k) t ≡ false
not_begun who first [] p k l = refl
not_begun who first (events.Join s ∷ t) p k l = rw (apart s k (omega (arith, p.0.next, l))) (not_begun who first t p.1 k (omega arith))
not_begun who first (events.Make a ∷ t) p k l = not_begun who first t p.1 k l
not_begun who first (events.Poll ∷ t) p k l = not_begun who first t p.1 k l
not_begun who first (events.Observe objects wait ∷ t) p k l = not_begun who first t p.1 k l
not_begun who first (events.Leave ∷ t) p k l = not_begun who first t p.1 k l
not_begun who first (events.Got s reply ∷ t) p k l = not_begun who first t p.1 k l
not_begun who first (events.Cut ∷ t) p k l = not_begun who first t p.1 k l
not_begun who first (events.Quit ∷ t) p k l = not_begun who first t p.1 k l
not_begun who first (events.Show os ∷ t) p k l = not_begun who first t p.1 k l

-- ---- Closed ends, as tests

pub keeps_closed : (x b : Bool) → x ≡ (x || (if b then false else false))
keeps_closed true b = refl
keeps_closed false b = sym (either_way b false)

pub closes_now : (has b : Bool) → (b ≡ true → has ≡ true) → (has && true) ≡ ((has && not b) || (if b then true else false))
closes_now true true h = refl
closes_now true false h = refl
closes_now false true h = h refl
closes_now false false h = refl

pub begins_one : (has b : Bool) → (b ≡ true → has ≡ false) → ((b || has) && not b) ≡ ((has && true) || (if b then false else false))
begins_one true true h = sym (h refl)
begins_one true false h = refl
begins_one false true h = refl
begins_one false false h = refl
