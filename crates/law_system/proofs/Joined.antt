-- Which session each Join of a trace began.
use Rattle.std.proofs.Common.{◌≡◌, ℕ, suc, ◌<◌, ◌≤◌, true, false, ◌==◌, inl, inr, List, [], ◌∷◌, Option, Some, None, refl, sym, ◌∙◌, subst, arith, eqb-true, eq-eqb, ◌+◌, true≢false}
use Rattle.std.specs.Prelude.{if◌then◌else◌, All}
use Rattle.std.specs.List.{list_any, AllByRecursion}
use Rattle.std.proofs.lemmas.Bool.{cond-true, cond-false, cases_Bool, ne_eqb, or_left, or_right, or_cases, cases_eq}
use Rattle.std.proofs.lemmas.List.Elements.{recursion_from_All}
use Rattle.std.proofs.lemmas.Option.{none-some, same_Some}
use Rattle.sv_client.specs.declared.trace.Event.{Event}
use Rattle.sv_client.specs.declared.trace.Event.TheVariants as events
use Rattle.sv_client.specs.Traces.{joins, current_session}
use Rattle.sv_client.specs.Taking.{Identity}
use Rattle.sv_client.specs.Proper.{AreProper}
use Rattle.law_system.specs.Clients.{sessions_begun, AreClientEvents}
use Rattle.law_system.specs.Fits.{is_join_of}

-- The session that the n-th Join began, counted from 1.
abbrev pub session_at : List Event → ℕ → Option ℕ
session_at [] n = None
session_at (events.Join s ∷ t) n = if n == suc (joins t) then Some s else session_at t n
session_at (_ ∷ t) n = session_at t n

pub at-within : (t : List Event) (n s : ℕ) → session_at t n ≡ Some s → (0 < n) × (n ≤ joins t)
at-within [] n s e = absurd (none-some s e)
at-within (events.Join m ∷ t) n s e =
    elim (cases_Bool (n == suc (joins t))) [
      | inl y ↦ (let is : n ≡ suc (joins t) = eqb-true n (suc (joins t)) y in (omega arith, omega arith))
      | inr f ↦
          (let before = at-within t n s (sym (cond-false (n == suc (joins t)) (Some m) (session_at t n) f) ∙ e) in
          (before.0, omega (arith, before.1)))
    ]
at-within (events.Got m r ∷ t) n s e = at-within t n s e
at-within (events.Make action ∷ t) n s e = at-within t n s e
at-within (events.Poll ∷ t) n s e = at-within t n s e
at-within (events.Observe objects wait ∷ t) n s e = at-within t n s e
at-within (events.Leave ∷ t) n s e = at-within t n s e
at-within (events.Cut ∷ t) n s e = at-within t n s e
at-within (events.Quit ∷ t) n s e = at-within t n s e
at-within (events.Show objects ∷ t) n s e = at-within t n s e

pub at-join : (t : List Event) (s : ℕ) → session_at (events.Join s ∷ t) (suc (joins t)) ≡ Some s
at-join t s = cond-true (suc (joins t) == suc (joins t)) (Some s) (session_at t (suc (joins t))) (eq-eqb (suc (joins t)) (suc (joins t)) refl)

pub at-more : (e : Event) (t : List Event) (n s : ℕ) → session_at t n ≡ Some s → session_at (e ∷ t) n ≡ Some s
at-more (events.Join m) t n s e =
    let within = at-within t n s e in
    cond-false (n == suc (joins t)) (Some m) (session_at t n) (ne_eqb n (suc (joins t)) (λ q. absurd (omega (arith, within.1, q)))) ∙ e
at-more (events.Got m r) t n s e = e
at-more (events.Make action) t n s e = e
at-more events.Poll t n s e = e
at-more (events.Observe objects wait) t n s e = e
at-more events.Leave t n s e = e
at-more events.Cut t n s e = e
at-more events.Quit t n s e = e
at-more (events.Show objects) t n s e = e

-- The session that was begun last is that of the last Join.
pub current-at : (t : List Event) (s : ℕ) → current_session t ≡ Some s → session_at t (joins t) ≡ Some s
current-at [] s c = absurd (none-some s c)
current-at (events.Join m ∷ t) s c = at-join t m ∙ c
current-at (events.Got m r ∷ t) s c = current-at t s c
current-at (events.Make action ∷ t) s c = current-at t s c
current-at (events.Poll ∷ t) s c = current-at t s c
current-at (events.Observe objects wait ∷ t) s c = current-at t s c
current-at (events.Leave ∷ t) s c = current-at t s c
current-at (events.Cut ∷ t) s c = current-at t s c
current-at (events.Quit ∷ t) s c = current-at t s c
current-at (events.Show objects ∷ t) s c = current-at t s c

-- Each such session was joined.
pub at-joined : (t : List Event) (n s : ℕ) → session_at t n ≡ Some s → list_any (is_join_of s) t ≡ true
at-joined [] n s e = absurd (none-some s e)
at-joined (events.Join m ∷ t) n s e =
    elim (cases_Bool (n == suc (joins t))) [
      | inl y ↦ or_left (m == s) (list_any (is_join_of s) t) (eq-eqb m s (same_Some m s (sym (cond-true (n == suc (joins t)) (Some m) (session_at t n) y) ∙ e)))
      | inr f ↦ or_right (m == s) (list_any (is_join_of s) t) (at-joined t n s (sym (cond-false (n == suc (joins t)) (Some m) (session_at t n) f) ∙ e))
    ]
at-joined (events.Got m r ∷ t) n s e = at-joined t n s e
at-joined (events.Make action ∷ t) n s e = at-joined t n s e
at-joined (events.Poll ∷ t) n s e = at-joined t n s e
at-joined (events.Observe objects wait ∷ t) n s e = at-joined t n s e
at-joined (events.Leave ∷ t) n s e = at-joined t n s e
at-joined (events.Cut ∷ t) n s e = at-joined t n s e
at-joined (events.Quit ∷ t) n s e = at-joined t n s e
at-joined (events.Show objects ∷ t) n s e = at-joined t n s e

-- What holds of all sessions that were begun holds of each.
each-begun : (P : ℕ → Type 0) (t : List Event) → AllByRecursion P (sessions_begun t) → (n s : ℕ) → session_at t n ≡ Some s → P s
each-begun P [] each n s e = absurd (none-some s e)
each-begun P (events.Join m ∷ t) each n s e =
    elim (cases_Bool (n == suc (joins t))) [
      | inl y ↦ subst P (same_Some m s (sym (cond-true (n == suc (joins t)) (Some m) (session_at t n) y) ∙ e)) each.0
      | inr f ↦ each-begun P t each.1 n s (sym (cond-false (n == suc (joins t)) (Some m) (session_at t n) f) ∙ e)
    ]
each-begun P (events.Got m r ∷ t) each n s e = each-begun P t each n s e
each-begun P (events.Make action ∷ t) each n s e = each-begun P t each n s e
each-begun P (events.Poll ∷ t) each n s e = each-begun P t each n s e
each-begun P (events.Observe objects wait ∷ t) each n s e = each-begun P t each n s e
each-begun P (events.Leave ∷ t) each n s e = each-begun P t each n s e
each-begun P (events.Cut ∷ t) each n s e = each-begun P t each n s e
each-begun P (events.Quit ∷ t) each n s e = each-begun P t each n s e
each-begun P (events.Show objects ∷ t) each n s e = each-begun P t each n s e

-- A session that is above all that were begun is above each.
pub at-below : (t : List Event) (m : ℕ) → All (λ n. n < m) (sessions_begun t) → (n s : ℕ) → session_at t n ≡ Some s → s < m
at-below t m above n s e = each-begun (λ k. k < m) t (recursion_from_All (λ k. k < m) (sessions_begun t) above) n s e

-- No two Joins of a client's trace name one session.
pub at-one : (who : Identity) (t : List Event) → AreClientEvents who t → (a b s : ℕ) → session_at t a ≡ Some s → session_at t b ≡ Some s → a ≡ b
at-one who [] p a b s x y = absurd (none-some s x)
at-one who (events.Join m ∷ t) p a b s x y =
    elim (cases_Bool (a == suc (joins t))) [
      | inl i ↦ elim (cases_Bool (b == suc (joins t))) [
        | inl j ↦ eqb-true a (suc (joins t)) i ∙ sym (eqb-true b (suc (joins t)) j)
        | inr j ↦ absurd (again b (now a x i) (old b y j))
      ]
      | inr i ↦ elim (cases_Bool (b == suc (joins t))) [
        | inl j ↦ absurd (again a (now b y j) (old a x i))
        | inr j ↦ at-one who t p.1 a b s (old a x i) (old b y j)
      ]
    ]
  where
    now : (n : ℕ) → session_at (events.Join m ∷ t) n ≡ Some s → (n == suc (joins t)) ≡ true → m ≡ s
    now n e f = same_Some m s (sym (cond-true (n == suc (joins t)) (Some m) (session_at t n) f) ∙ e)

    old : (n : ℕ) → session_at (events.Join m ∷ t) n ≡ Some s → (n == suc (joins t)) ≡ false → session_at t n ≡ Some s
    old n e f = sym (cond-false (n == suc (joins t)) (Some m) (session_at t n) f) ∙ e

    again : (n : ℕ) → m ≡ s → session_at t n ≡ Some s → ⊥
    again n is e = let low : s < m = at-below t m p.0 n s e in absurd (omega (arith, is, low))
at-one who (events.Got m r ∷ t) p a b s x y = at-one who t p.1 a b s x y
at-one who (events.Make action ∷ t) p a b s x y = at-one who t p.1 a b s x y
at-one who (events.Poll ∷ t) p a b s x y = at-one who t p.1 a b s x y
at-one who (events.Observe objects wait ∷ t) p a b s x y = at-one who t p.1 a b s x y
at-one who (events.Leave ∷ t) p a b s x y = at-one who t p.1 a b s x y
at-one who (events.Cut ∷ t) p a b s x y = at-one who t p.1 a b s x y
at-one who (events.Quit ∷ t) p a b s x y = at-one who t p.1 a b s x y
at-one who (events.Show objects ∷ t) p a b s x y = at-one who t p.1 a b s x y

-- ---- The sessions joined

-- The sessions that a trace joined are those from its first one on.
pub joined-within : (who : Identity) (first : ℕ) (t : List Event) (n : ℕ) → AreProper who first t → list_any (is_join_of n) t ≡ true → (first ≤ n) × (n < first + joins t)
joined-within who first [] n p h = absurd (true≢false (sym h))
joined-within who first (events.Join s ∷ t) n p h =
    elim (or_cases (s == n) (list_any (is_join_of n) t) h) [
      | inl e ↦ (omega (arith, eqb-true s n e, p.0.next), omega (arith, eqb-true s n e, p.0.next))
      | inr e ↦ (let b = joined-within who first t n p.1 e in (b.0, omega (arith, b.1)))
    ]
joined-within who first (events.Make action ∷ t) n p h = joined-within who first t n p.1 h
joined-within who first (events.Poll ∷ t) n p h = joined-within who first t n p.1 h
joined-within who first (events.Observe objects wait ∷ t) n p h = joined-within who first t n p.1 h
joined-within who first (events.Leave ∷ t) n p h = joined-within who first t n p.1 h
joined-within who first (events.Got s reply ∷ t) n p h = joined-within who first t n p.1 h
joined-within who first (events.Cut ∷ t) n p h = joined-within who first t n p.1 h
joined-within who first (events.Quit ∷ t) n p h = joined-within who first t n p.1 h
joined-within who first (events.Show objects ∷ t) n p h = joined-within who first t n p.1 h

-- The sessions that were joined are the first ones.
pub joined-low : (who : Identity) (first : ℕ) (t : List Event) (s : ℕ) → AreProper who first t → list_any (is_join_of s) t ≡ true → s < first + joins t
joined-low who first t s p h = (joined-within who first t s p h).1

pub low-joined : (who : Identity) (first : ℕ) (t : List Event) (s : ℕ) → AreProper who first t → first ≤ s → s < first + joins t → list_any (is_join_of s) t ≡ true
low-joined who first [] s p a b = absurd (omega (arith, a, b))
low-joined who first (events.Join m ∷ t) s p a b =
    let number : m ≡ first + joins t = p.0.next in
    let later = low-joined who first t s p.1 a in
    elim (cases_eq m s) [
      | inl e ↦ or_left (m == s) (list_any (is_join_of s) t) (eq-eqb m s e)
      | inr n ↦ or_right (m == s) (list_any (is_join_of s) t) (later (omega arith))
    ]
low-joined who first (events.Got m reply ∷ t) s p a b = low-joined who first t s p.1 a b
low-joined who first (events.Make action ∷ t) s p a b = low-joined who first t s p.1 a b
low-joined who first (events.Poll ∷ t) s p a b = low-joined who first t s p.1 a b
low-joined who first (events.Observe objects wait ∷ t) s p a b = low-joined who first t s p.1 a b
low-joined who first (events.Leave ∷ t) s p a b = low-joined who first t s p.1 a b
low-joined who first (events.Cut ∷ t) s p a b = low-joined who first t s p.1 a b
low-joined who first (events.Quit ∷ t) s p a b = low-joined who first t s p.1 a b
low-joined who first (events.Show objects ∷ t) s p a b = low-joined who first t s p.1 a b
