-- Each session of a scenario is one of just one of its traces.
use Rattle.std.proofs.Common.{◌≡◌, ◌⊎◌, ℕ, suc, ◌+◌, ◌-◌, ◌<◌, ◌≤◌, true, ltb, inl, inr, List, [], ◌∷◌, reverse, Some, slice_get, refl, sym, ap, subst, arith}
use Rattle.std.specs.List.{list_any, AllByRecursion}
use Rattle.std.proofs.lemmas.Bool.{cases_Bool, ltb-true, ltb-false}
use Rattle.std.proofs.lemmas.List.{reverse-reverse}
use Rattle.std.proofs.lemmas.List.Elements.{All-from_recursion}
use Rattle.sv_world.specs.declared.world.Shape.{Shape}
use Rattle.sv_world.specs.declared.world.ClientId.{ClientId}
use Rattle.sv_client.specs.declared.trace.Event.{Event}
use Rattle.sv_client.specs.declared.trace.Trace.{Trace}
use Rattle.sv_client.specs.Proper.{Proper, identity_of}
use Rattle.sv_scenario.specs.declared.scenario.Plan.{Plan}
use Rattle.sv_scenario.specs.Sessions.{sessions_of_plan, sessions_in}
use Rattle.sv_script.specs.Following.{Follows}
use Rattle.sv_script.proofs.Begun.{joins-counted}
use Rattle.law_system.specs.Fits.{is_join_of, has_session, AreApart, AreAllApart}
use Rattle.law_system.specs.Records.{AreTracesOf, EachTrace}
use Rattle.law_system.proofs.Asked.{any-reverse}
use Rattle.law_system.proofs.Joined.{joined-within}

-- The trace that a session is one of, with what holds of it.
pub record IsOwner (P : Plan → Trace → Type 0) (Ls : List Trace) (s : ℕ) : Type 0 where
  pub place : ℕ
  pub trace : Trace
  pub plan : Plan
  pub member : slice_get Ls place ≡ Some trace
  pub number : ℕ
  pub session : trace.first + number ≡ s
  pub low : number < sessions_of_plan plan
  pub holds : P plan trace

below_or_not : (m n : ℕ) → (m < n) ⊎ (n ≤ m)
below_or_not m n = elim (cases_Bool (ltb m n)) [ inl e ↦ inl (ltb-true m n e) | inr e ↦ inr (ltb-false m n e) ]

pub owner : (P : Plan → Trace → Type 0) (k from s : ℕ) (plans : List Plan) (Ls : List Trace) → AreTracesOf k from plans Ls → EachTrace P plans Ls → from ≤ s → s < from + sessions_in plans → IsOwner P Ls s
owner P k from s [] [] a e above under = absurd (omega (arith, above, under))
owner P k from s [] (L ∷ Ls) a e above under = absurd a
owner P k from s (plan ∷ plans) [] a e above under = absurd a
owner P k from s (plan ∷ plans) (L ∷ Ls) a e above under =
    go (below_or_not s (from + sessions_of_plan plan)) (λ high. owner P (suc k) (from + sessions_of_plan plan) s plans Ls a.3 e.1 high (omega (arith, under)))
  where
    go : (s < from + sessions_of_plan plan) ⊎ (from + sessions_of_plan plan ≤ s) → (from + sessions_of_plan plan ≤ s → IsOwner P Ls s) → IsOwner P (L ∷ Ls) s
    go (inl low) rest =
        let first : L.first ≡ from = a.2 in
        record { place = 0; trace = L; plan = plan; member = refl; number = s - from; session = omega (arith, first, above); low = omega (arith, low, above); holds = e.0 }
    go (inr high) rest =
        let o = rest high in
        record { place = suc o.place; trace = o.trace; plan = o.plan; member = o.member; number = o.number; session = o.session; low = o.low; holds = o.holds }

-- ---- Sessions that were joined

-- The sessions that a trace joined are its own.
pub in_range : (shape : Shape) (plan : Plan) (L : Trace) (s : ℕ) → Proper shape L → Follows shape plan.steps L → has_session L s ≡ true → (L.first ≤ s) × (s < L.first + sessions_of_plan plan)
in_range shape plan L s proper follows has =
    let who = identity_of shape L in
    let whole = reverse L.events in
    let there : list_any (is_join_of s) whole ≡ true = any-reverse (is_join_of s) whole (subst (λ (l : List Event). list_any (is_join_of s) l ≡ true) (sym (reverse-reverse L.events)) has) in
    let b = joined-within who L.first whole s proper.events there in
    let most = joins-counted who plan.steps whole follows.left follows.follows in
    (b.0, omega (arith, b.1, most))

-- Traces after some number of clients and of sessions.
pub record IsAfter (k from : ℕ) (L : Trace) : Type 0 where
  pub client : k ≤ L.client.0
  pub sessions : (s : ℕ) → has_session L s ≡ true → from ≤ s

after_more : (j k from to : ℕ) → j ≤ k → from ≤ to → (Ls : List Trace) → AllByRecursion (IsAfter k to) Ls → AllByRecursion (IsAfter j from) Ls
after_more j k from to l m [] all = tt
after_more j k from to l m (L ∷ Ls) all = (
  record { client = (let c = all.0.client in omega (arith, c, l)); sessions = λ s h. let low = all.0.sessions s h in omega (arith, low, m) },
  after_more j k from to l m Ls all.1,
)

all_after : (shape : Shape) (k from : ℕ) (plans : List Plan) (Ls : List Trace) → AreTracesOf k from plans Ls → AllByRecursion (Proper shape) Ls → EachTrace (λ plan L. Follows shape plan.steps L) plans Ls →
    AllByRecursion (IsAfter k from) Ls
all_after shape k from [] [] a p f = tt
all_after shape k from [] (L ∷ Ls) a p f = absurd a
all_after shape k from (plan ∷ plans) [] a p f = tt
all_after shape k from (plan ∷ plans) (L ∷ Ls) a p f =
    let client : L.client.0 ≡ k = ap (λ (c : ClientId). c.0) a.0 in
    let first : L.first ≡ from = a.2 in (
      record { client = omega (arith, client); sessions = λ s h. let b = in_range shape plan L s p.0 f.0 h in omega (arith, b.0, first) },
      after_more k (suc k) from (from + sessions_of_plan plan) (omega arith) (omega arith) Ls (all_after shape (suc k) (from + sessions_of_plan plan) plans Ls a.3 p.1 f.1),
    )

apart_from : (shape : Shape) (plan : Plan) (k from : ℕ) (L : Trace) (Ls : List Trace) → L.client.0 ≡ k → L.first ≡ from → Proper shape L → Follows shape plan.steps L →
    AllByRecursion (IsAfter (suc k) (from + sessions_of_plan plan)) Ls → AllByRecursion (AreApart L) Ls
apart_from shape plan k from L [] c n p f all = tt
apart_from shape plan k from L (M ∷ Ms) c n p f all = (
  record {
    clients = λ same. let e = ap (λ (i : ClientId). i.0) same in let low = all.0.client in absurd (omega (arith, e, low, c));
    sessions = λ s h g. let b = in_range shape plan L s p f h in let low = all.0.sessions s g in absurd (omega (arith, b.1, low, n));
  },
  apart_from shape plan k from L Ms c n p f all.1,
)

pub all_apart : (shape : Shape) (k from : ℕ) (plans : List Plan) (Ls : List Trace) → AreTracesOf k from plans Ls → AllByRecursion (Proper shape) Ls → EachTrace (λ plan L. Follows shape plan.steps L) plans Ls →
    AreAllApart Ls
all_apart shape k from [] [] a p f = tt
all_apart shape k from [] (L ∷ Ls) a p f = absurd a
all_apart shape k from (plan ∷ plans) [] a p f = tt
all_apart shape k from (plan ∷ plans) (L ∷ Ls) a p f = (
  All-from_recursion (AreApart L) Ls
      (apart_from shape plan k from L Ls (ap (λ (c : ClientId). c.0) a.0) a.2 p.0 f.0 (all_after shape (suc k) (from + sessions_of_plan plan) plans Ls a.3 p.1 f.1)),
  all_apart shape (suc k) (from + sessions_of_plan plan) plans Ls a.3 p.1 f.1,
)
