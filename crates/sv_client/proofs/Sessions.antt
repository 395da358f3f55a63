-- The sessions of a trace: which one is the last, and that nothing is asked or got in one that was not begun. How few actions a proper one makes.
use Rattle.std.proofs.Common.{◌≡◌, ℕ, zero, suc, ◌+◌, ◌-◌, ◌<◌, ◌≤◌, Bool, true, false, eqb, List, [], ◌∷◌, ◌++◌, Option, Some, None, refl, sym, ap, ◌∙◌, arith}
use Rattle.std.specs.Prelude.{if◌then◌else◌, unwrap_or}
use Rattle.std.proofs.lemmas.Bool.{ne_eqb}
use Rattle.sv_client.specs.declared.trace.Event.{Event}
use Rattle.sv_client.specs.declared.trace.Event.TheVariants as events
use Rattle.sv_client.specs.Traces.{joins, makes, current_session, is_session, asked, got}
use Rattle.sv_client.specs.Taking.{Identity}
use Rattle.sv_client.specs.Seen.{latest_session}
use Rattle.sv_client.specs.Proper.{AreProper, AreInTurn, in_session, most_made}
use Rattle.sv_world.specs.Limits.{most_sessions}

-- The last session after so many joins.
abbrev pub session_after : ℕ → ℕ → Option ℕ
session_after first zero = None
session_after first (suc n) = Some (first + n)

pub current_turn : (who : Identity) (first : ℕ) (t : List Event) → AreInTurn who first t → current_session t ≡ session_after first (joins t)
current_turn who first [] p = refl
current_turn who first (events.Join s ∷ t) p = ap (λ n. Some n) p.0
current_turn who first (events.Make a ∷ t) p = current_turn who first t p.1
current_turn who first (events.Poll ∷ t) p = current_turn who first t p.1
current_turn who first (events.Observe os wait ∷ t) p = current_turn who first t p.1
current_turn who first (events.Leave ∷ t) p = current_turn who first t p.1
current_turn who first (events.Got s reply ∷ t) p = current_turn who first t p.1
current_turn who first (events.Cut ∷ t) p = current_turn who first t p.1
current_turn who first (events.Quit ∷ t) p = current_turn who first t p.1
current_turn who first (events.Show os ∷ t) p = current_turn who first t p.1

after_below : (first n s k : ℕ) → session_after first n ≡ Some s → first + n ≤ k → s < k
after_below first zero s k e l = cc
after_below first (suc n) s k e l = let same : first + n ≡ s = cc in omega (arith, same, l)

before_next : (n : ℕ) → unwrap_or (session_after 0 n) 0 ≡ n - 1
before_next zero = refl
before_next (suc n) = omega arith

-- It is the one before the next one.
pub latest_turn : (who : Identity) (t : List Event) → AreInTurn who 0 t → latest_session t ≡ joins t - 1
latest_turn who t p = ap (λ (o : Option ℕ). unwrap_or o 0) (current_turn who 0 t p) ∙ before_next (joins t)

-- The session that was begun last is below the number of the next one.
pub below_turn : (who : Identity) (first : ℕ) (t : List Event) → AreInTurn who first t → (s k : ℕ) → current_session t ≡ Some s → first + joins t ≤ k → s < k
below_turn who first t p s k e l = after_below first (joins t) s k (sym (current_turn who first t p) ∙ e) l

pub apart : (s k : ℕ) → s < k → eqb s k ≡ false
apart s k l = ne_eqb s k (λ e. absurd (omega (arith, e, l)))

-- A session that was not begun is not the last one.
pub not_current_turn : (who : Identity) (first : ℕ) (t : List Event) → AreInTurn who first t → (k : ℕ) → first + joins t ≤ k → is_session (current_session t) k ≡ false
not_current_turn who first t p k l = go (current_session t) refl
  where
    go : (o : Option ℕ) → current_session t ≡ o → is_session o k ≡ false
    go None e = refl
    go (Some s) e = apart s k (below_turn who first t p s k e l)

no_ask : {X : Type 0} (b : Bool) (xs : List X) → b ≡ false → (if b then xs else []) ≡ []
no_ask true xs e = cc
no_ask false xs e = refl

pub both_empty : {X : Type 0} (xs ys : List X) → xs ≡ [] → ys ≡ [] → xs ++ ys ≡ []
both_empty xs ys e h = rw (e, h) refl

-- Nothing was got in a session that was not begun.
pub no_got_turn : (who : Identity) (first : ℕ) (t : List Event) → AreInTurn who first t → (k : ℕ) → first + joins t ≤ k → got t k ≡ []
no_got_turn who first [] p k l = refl
no_got_turn who first (events.Join s ∷ t) p k l = no_got_turn who first t p.1 k (omega arith)
no_got_turn who first (events.Make a ∷ t) p k l = no_got_turn who first t p.1 k l
no_got_turn who first (events.Poll ∷ t) p k l = no_got_turn who first t p.1 k l
no_got_turn who first (events.Observe os wait ∷ t) p k l = no_got_turn who first t p.1 k l
no_got_turn who first (events.Leave ∷ t) p k l = no_got_turn who first t p.1 k l
no_got_turn who first (events.Got s reply ∷ t) p k l = rw (apart s k (below_turn who first t p.1 s k p.0.current l)) (no_got_turn who first t p.1 k l)
no_got_turn who first (events.Cut ∷ t) p k l = no_got_turn who first t p.1 k l
no_got_turn who first (events.Quit ∷ t) p k l = no_got_turn who first t p.1 k l
no_got_turn who first (events.Show os ∷ t) p k l = no_got_turn who first t p.1 k l

-- Nor was anything asked in it.
pub no_asked_turn : (who : Identity) (first : ℕ) (t : List Event) → AreInTurn who first t → (k : ℕ) → first + joins t ≤ k → asked who.client who.interest t k ≡ []
no_asked_turn who first [] p k l = refl
no_asked_turn who first (events.Join s ∷ t) p k l =
    both_empty _ _ (no_asked_turn who first t p.1 k (omega arith)) (no_ask (eqb s k) _ (apart s k (omega (arith, p.0, l))))
no_asked_turn who first (events.Make a ∷ t) p k l =
    both_empty _ _ (no_asked_turn who first t p.1 k l) (no_ask (is_session (current_session t) k) _ (not_current_turn who first t p.1 k l))
no_asked_turn who first (events.Poll ∷ t) p k l =
    both_empty _ _ (no_asked_turn who first t p.1 k l) (no_ask (is_session (current_session t) k) _ (not_current_turn who first t p.1 k l))
no_asked_turn who first (events.Observe os wait ∷ t) p k l =
    both_empty _ _ (no_asked_turn who first t p.1 k l) (no_ask (is_session (current_session t) k) _ (not_current_turn who first t p.1 k l))
no_asked_turn who first (events.Leave ∷ t) p k l =
    both_empty _ _ (no_asked_turn who first t p.1 k l) (no_ask (is_session (current_session t) k) _ (not_current_turn who first t p.1 k l))
no_asked_turn who first (events.Got s reply ∷ t) p k l =
    both_empty _ _ (no_asked_turn who first t p.1 k l) (no_ask (eqb s k) _ (apart s k (below_turn who first t p.1 s k p.0.current l)))
no_asked_turn who first (events.Cut ∷ t) p k l = both_empty _ _ (no_asked_turn who first t p.1 k l) refl
no_asked_turn who first (events.Quit ∷ t) p k l = both_empty _ _ (no_asked_turn who first t p.1 k l) refl
no_asked_turn who first (events.Show os ∷ t) p k l = both_empty _ _ (no_asked_turn who first t p.1 k l) refl

-- A client in a session has one.
pub some_current : (t : List Event) → in_session t ≡ true → (s : ℕ) × (current_session t ≡ Some s)
some_current [] h = cc
some_current (events.Join s ∷ t) h = (s, refl)
some_current (events.Make a ∷ t) h = some_current t h
some_current (events.Poll ∷ t) h = some_current t h
some_current (events.Observe os wait ∷ t) h = some_current t h
some_current (events.Leave ∷ t) h = cc
some_current (events.Got s reply ∷ t) h = some_current t h
some_current (events.Cut ∷ t) h = some_current t h
some_current (events.Quit ∷ t) h = some_current t h
some_current (events.Show os ∷ t) h = some_current t h

-- ---- The same of proper traces

-- In a proper trace each event may come, and no more is done than the limits allow.
pub in_turn : (who : Identity) (first : ℕ) (t : List Event) → AreProper who first t → AreInTurn who first t
in_turn who first [] p = tt
in_turn who first (events.Join s ∷ t) p = (p.0.next, in_turn who first t p.1)
in_turn who first (events.Make a ∷ t) p = (record { joined = p.0.joined; good = p.0.good; room = p.0.room; calm = p.0.calm }, in_turn who first t p.1)
in_turn who first (events.Poll ∷ t) p = (p.0, in_turn who first t p.1)
in_turn who first (events.Observe os wait ∷ t) p = (p.0, in_turn who first t p.1)
in_turn who first (events.Leave ∷ t) p = (p.0, in_turn who first t p.1)
in_turn who first (events.Got s reply ∷ t) p = (p.0, in_turn who first t p.1)
in_turn who first (events.Cut ∷ t) p = (tt, in_turn who first t p.1)
in_turn who first (events.Quit ∷ t) p = (tt, in_turn who first t p.1)
in_turn who first (events.Show os ∷ t) p = (tt, in_turn who first t p.1)

pub proper_turn : (who : Identity) (first : ℕ) (t : List Event) → AreInTurn who first t → joins t ≤ most_sessions → makes t ≤ most_made → AreProper who first t
proper_turn who first [] p j m = tt
proper_turn who first (events.Join s ∷ t) p j m = (record { next = p.0; few = j }, proper_turn who first t p.1 (omega (arith, j)) m)
proper_turn who first (events.Make a ∷ t) p j m =
    (record { joined = p.0.joined; good = p.0.good; room = p.0.room; calm = p.0.calm; few = m }, proper_turn who first t p.1 j (omega (arith, m)))
proper_turn who first (events.Poll ∷ t) p j m = (p.0, proper_turn who first t p.1 j m)
proper_turn who first (events.Observe os wait ∷ t) p j m = (p.0, proper_turn who first t p.1 j m)
proper_turn who first (events.Leave ∷ t) p j m = (p.0, proper_turn who first t p.1 j m)
proper_turn who first (events.Got s reply ∷ t) p j m = (p.0, proper_turn who first t p.1 j m)
proper_turn who first (events.Cut ∷ t) p j m = (tt, proper_turn who first t p.1 j m)
proper_turn who first (events.Quit ∷ t) p j m = (tt, proper_turn who first t p.1 j m)
proper_turn who first (events.Show os ∷ t) p j m = (tt, proper_turn who first t p.1 j m)

pub current_is : (who : Identity) (first : ℕ) (t : List Event) → AreProper who first t → current_session t ≡ session_after first (joins t)
current_is who first t p = current_turn who first t (in_turn who first t p)

pub current_below : (who : Identity) (first : ℕ) (t : List Event) → AreProper who first t → (s k : ℕ) → current_session t ≡ Some s → first + joins t ≤ k → s < k
current_below who first t p s k e l = below_turn who first t (in_turn who first t p) s k e l

pub not_current : (who : Identity) (first : ℕ) (t : List Event) → AreProper who first t → (k : ℕ) → first + joins t ≤ k → is_session (current_session t) k ≡ false
not_current who first t p k l = not_current_turn who first t (in_turn who first t p) k l

pub no_got : (who : Identity) (first : ℕ) (t : List Event) → AreProper who first t → (k : ℕ) → first + joins t ≤ k → got t k ≡ []
no_got who first t p k l = no_got_turn who first t (in_turn who first t p) k l

pub no_asked : (who : Identity) (first : ℕ) (t : List Event) → AreProper who first t → (k : ℕ) → first + joins t ≤ k → asked who.client who.interest t k ≡ []
no_asked who first t p k l = no_asked_turn who first t (in_turn who first t p) k l

-- A client makes at most 65,536.
pub few_makes : (who : Identity) (first : ℕ) (t : List Event) → AreProper who first t → makes t ≤ 65536
few_makes who first [] p = omega arith
few_makes who first (events.Join s ∷ t) p = few_makes who first t p.1
few_makes who first (events.Make a ∷ t) p = omega (arith, p.0.few)
few_makes who first (events.Poll ∷ t) p = few_makes who first t p.1
few_makes who first (events.Observe os wait ∷ t) p = few_makes who first t p.1
few_makes who first (events.Leave ∷ t) p = few_makes who first t p.1
few_makes who first (events.Got s reply ∷ t) p = few_makes who first t p.1
few_makes who first (events.Cut ∷ t) p = few_makes who first t p.1
few_makes who first (events.Quit ∷ t) p = few_makes who first t p.1
few_makes who first (events.Show os ∷ t) p = few_makes who first t p.1
