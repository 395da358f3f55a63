-- What a proper trace that follows a script is like after its Leave and at its end, and how often it joins and makes.
use Rattle.std.proofs.Common.{◌≡◌, ℕ, suc, ◌+◌, ◌≤◌, Bool, true, false, ◌==◌, ◌⊎◌, inl, inr, List, [], ◌∷◌, ◌++◌, drop, length, Option, None, refl, sym, ap, subst, ◌∙◌, arith, true≢false}
use Rattle.std.specs.Prelude.{if◌then◌else◌}
use Rattle.std.specs.List.{list_any, AllByRecursion}
use Rattle.std.proofs.lemmas.Bool.{or_parts}
use Rattle.std.proofs.lemmas.List.{append-nil}
use Rattle.sv_wire.specs.declared.message.Reply.{Reply}
use Rattle.sv_wire.specs.declared.message.Reply.TheVariants as replies
use Rattle.sv_wire.specs.declared.message.Request.{Request}
use Rattle.sv_wire.specs.declared.message.Request.TheVariants as requests
use Rattle.sv_client.specs.declared.trace.Event.{Event}
use Rattle.sv_client.specs.declared.trace.Event.TheVariants as events
use Rattle.sv_client.specs.Traces.{makes, current_session, is_session, held_of, pending_of, done_for, asked}
use Rattle.sv_client.specs.Taking.{Identity, outstanding, allows, fault_after}
use Rattle.sv_client.specs.Proper.{AreProper, in_session}
use Rattle.sv_client.proofs.Outstanding.{outstanding_joined, outstanding_made, outstanding_polled, outstanding_observed, outstanding_left, outstanding_cut, outstanding_quit, outstanding_shown, outstanding_got}
use Rattle.sv_scenario.specs.declared.scenario.Step.{Step}
use Rattle.sv_client.proofs.Faultless.{kind-of}
use Rattle.sv_script.specs.Following.{FollowsTo, must_join, is_finished}
use Rattle.sv_script.proofs.Beginnings.{step-less, event-less, all-after}
use Rattle.sv_script.proofs.Ends.{has_leave, leave-append, leave-rest, no-submit, no-done, bye-after, no-step}
use Rattle.law_system.specs.Fits.{is_join_of}

-- ---- After a Leave

-- A client that left its latest session has no step left.
pub nothing-left : (who : Identity) (first : ℕ) (script : List Step) (t : List Event) (left : List Step) → AreProper who first t → FollowsTo who script t left →
    in_session t ≡ false → must_join t ≡ false → left ≡ []
nothing-left who first script [] left p f i m = absurd (true≢false m)
nothing-left who first script (events.Join s ∷ t) left p f i m = absurd (true≢false i)
nothing-left who first script (events.Leave ∷ t) left p f i m = f.1.1.same
nothing-left who first script (events.Got s reply ∷ t) left p f i m = f.1.1.same ∙ nothing-left who first script t f.0 p.1 f.1.0 i f.1.1.joined
nothing-left who first script (events.Make action ∷ t) left p f i m = absurd (true≢false (sym p.0.joined ∙ i))
nothing-left who first script (events.Poll ∷ t) left p f i m = absurd (true≢false (sym p.0.joined ∙ i))
nothing-left who first script (events.Observe objects wait ∷ t) left p f i m = absurd (true≢false (sym p.0.joined ∙ i))
nothing-left who first script (events.Cut ∷ t) left p f i m = absurd (true≢false m)
nothing-left who first script (events.Quit ∷ t) left p f i m =
    absurd (no-step who t f.0 events.Quit left f.1.1 (nothing-left who first script t f.0 p.1 f.1.0 i f.1.1.joined))
nothing-left who first script (events.Show objects ∷ t) left p f i m =
    absurd (no-step who t f.0 (events.Show objects) left f.1.1 (nothing-left who first script t f.0 p.1 f.1.0 i f.1.1.joined))

-- Where a Leave is outstanding, the client left its latest session.
leave-out : (who : Identity) (first : ℕ) (t : List Event) → AreProper who first t → has_leave (outstanding who t) ≡ true → in_session t ≡ false
leave-out who first [] p h = refl
leave-out who first (events.Join s ∷ t) p h =
    absurd (true≢false (sym h ∙ ap has_leave (outstanding_joined who first t p.1 s p.0.next) ∙ no-submit (pending_of t)))
leave-out who first (events.Leave ∷ t) p h = refl
leave-out who first (events.Got s reply ∷ t) p h =
    let now : has_leave (drop 1 (outstanding who t) ++ done_for (held_of t) reply) ≡ true = sym (ap has_leave (outstanding_got who first t s reply p.1 p.0)) ∙ h in
    leave-out who first t p.1 (leave-rest (outstanding who t) (leave-append (drop 1 (outstanding who t)) (done_for (held_of t) reply) (no-done (held_of t) reply) now))
leave-out who first (events.Make action ∷ t) p h =
    let now : has_leave (outstanding who t ++ requests.Submit (suc (makes t)) action ∷ []) ≡ true = sym (ap has_leave (outstanding_made who first t action p.1 p.0.joined)) ∙ h in
    leave-out who first t p.1 (leave-append (outstanding who t) (requests.Submit (suc (makes t)) action ∷ []) refl now)
leave-out who first (events.Poll ∷ t) p h =
    let now : has_leave (outstanding who t ++ requests.Poll ∷ []) ≡ true = sym (ap has_leave (outstanding_polled who first t p.1 p.0.joined)) ∙ h in
    leave-out who first t p.1 (leave-append (outstanding who t) (requests.Poll ∷ []) refl now)
leave-out who first (events.Observe objects wait ∷ t) p h =
    let now : has_leave (outstanding who t ++ requests.Observe objects wait ∷ []) ≡ true = sym (ap has_leave (outstanding_observed who first t objects wait p.1 p.0.joined)) ∙ h in
    leave-out who first t p.1 (leave-append (outstanding who t) (requests.Observe objects wait ∷ []) refl now)
leave-out who first (events.Cut ∷ t) p h = leave-out who first t p.1 (sym (ap has_leave (outstanding_cut who t)) ∙ h)
leave-out who first (events.Quit ∷ t) p h = leave-out who first t p.1 (sym (ap has_leave (outstanding_quit who t)) ∙ h)
leave-out who first (events.Show objects ∷ t) p h = leave-out who first t p.1 (sym (ap has_leave (outstanding_shown who t objects)) ∙ h)

only-bye : (s : ℕ) (t : List Event) (reply : Reply) → allows requests.Leave reply ≡ true → is_finished (events.Got s reply ∷ t) ≡ true
only-bye s t replies.Bye e = refl
only-bye s t (replies.Relay seq commit head items) e = absurd (true≢false (sym e))
only-bye s t (replies.Welcome commit head) e = absurd (true≢false (sym e))
only-bye s t (replies.Dropped seq chain far) e = absurd (true≢false (sym e))
only-bye s t (replies.Denied seq object) e = absurd (true≢false (sym e))
only-bye s t (replies.Seen last commit head items) e = absurd (true≢false (sym e))
only-bye s t (replies.Settled seq pos) e = absurd (true≢false (sym e))
only-bye s t (replies.Noted commit) e = absurd (true≢false (sym e))
only-bye s t replies.Idle e = absurd (true≢false (sym e))
only-bye s t (replies.Refused code detail) e = absurd (true≢false (sym e))

bye-to : (who : Identity) (s : ℕ) (t : List Event) (reply : Reply) (os : List Request) → os ≡ requests.Leave ∷ [] → fault_after who t os reply ≡ None → is_finished (events.Got s reply ∷ t) ≡ true
bye-to who s t reply os o e =
    only-bye s t reply (kind-of (allows requests.Leave reply) _ (ap (λ (qs : List Request). fault_after who t qs reply) (sym o) ∙ e))

-- After a Leave just the Leave is outstanding, until the client has its Bye.
pub left-or_finished : (who : Identity) (first : ℕ) (script : List Step) (t : List Event) (left : List Step) → AreProper who first t → FollowsTo who script t left →
    in_session t ≡ false → must_join t ≡ false → (outstanding who t ≡ requests.Leave ∷ []) ⊎ (is_finished t ≡ true)
left-or_finished who first script [] left p f i m = absurd (true≢false m)
left-or_finished who first script (events.Join s ∷ t) left p f i m = absurd (true≢false i)
left-or_finished who first script (events.Leave ∷ t) left p f i m =
    inl (outstanding_left who first t p.1 p.0.joined ∙ ap (λ (os : List Request). os ++ requests.Leave ∷ []) p.0.settled)
left-or_finished who first script (events.Got s reply ∷ t) left p f i m =
    elim (left-or_finished who first script t f.0 p.1 f.1.0 i f.1.1.joined) [
      | inl o ↦ inr (bye-to who s t reply (outstanding who t) o p.0.taken)
      | inr e ↦ absurd (true≢false (sym e ∙ f.1.1.here))
    ]
left-or_finished who first script (events.Make action ∷ t) left p f i m = absurd (true≢false (sym p.0.joined ∙ i))
left-or_finished who first script (events.Poll ∷ t) left p f i m = absurd (true≢false (sym p.0.joined ∙ i))
left-or_finished who first script (events.Observe objects wait ∷ t) left p f i m = absurd (true≢false (sym p.0.joined ∙ i))
left-or_finished who first script (events.Cut ∷ t) left p f i m = absurd (true≢false m)
left-or_finished who first script (events.Quit ∷ t) left p f i m = inr refl
left-or_finished who first script (events.Show objects ∷ t) left p f i m =
    elim (left-or_finished who first script t f.0 p.1 f.1.0 i f.1.1.joined) [
      | inl o ↦ inl (outstanding_shown who t objects ∙ o)
      | inr e ↦ absurd (true≢false (sym e ∙ f.1.1.here))
    ]

-- After the Bye nothing is outstanding, and the client is in no session.
bye-last : (who : Identity) (first : ℕ) (script : List Step) (s : ℕ) (t : List Event) (left : List Step) → AreProper who first (events.Got s replies.Bye ∷ t) →
    FollowsTo who script (events.Got s replies.Bye ∷ t) left → (outstanding who (events.Got s replies.Bye ∷ t) ≡ []) × (in_session t ≡ false)
bye-last who first script s t left p f =
    let out : in_session t ≡ false = leave-out who first t p.1 (bye-after who t (outstanding who t) p.0.taken) in (
      elim (left-or_finished who first script t f.0 p.1 f.1.0 out f.1.1.joined) [
        | inl o ↦ outstanding_got who first t s replies.Bye p.1 p.0 ∙ ap (λ (os : List Request). drop 1 os ++ done_for (held_of t) replies.Bye) o
        | inr e ↦ absurd (true≢false (sym e ∙ f.1.1.here))
      ],
      out,
    )

abbrev pub IsNoQuit : List Event → Type 0
IsNoQuit t = (u : List Event) → t ≡ events.Quit ∷ u → ⊥

pub finished-settled : (who : Identity) (first : ℕ) (script : List Step) (t : List Event) (left : List Step) → AreProper who first t → FollowsTo who script t left →
    IsNoQuit t → is_finished t ≡ true → (outstanding who t ≡ []) × (in_session t ≡ false)
finished-settled who first script [] left p f n h = absurd (true≢false (sym h))
finished-settled who first script (events.Quit ∷ t) left p f n h = absurd (n t refl)
finished-settled who first script (events.Got s replies.Bye ∷ t) left p f n h = bye-last who first script s t left p f
finished-settled who first script (events.Got s (replies.Welcome commit head) ∷ t) left p f n h = absurd (true≢false (sym h))
finished-settled who first script (events.Got s (replies.Relay seq commit head items) ∷ t) left p f n h = absurd (true≢false (sym h))
finished-settled who first script (events.Got s (replies.Dropped seq chain far) ∷ t) left p f n h = absurd (true≢false (sym h))
finished-settled who first script (events.Got s (replies.Denied seq object) ∷ t) left p f n h = absurd (true≢false (sym h))
finished-settled who first script (events.Got s (replies.Seen last commit head items) ∷ t) left p f n h = absurd (true≢false (sym h))
finished-settled who first script (events.Got s (replies.Settled seq pos) ∷ t) left p f n h = absurd (true≢false (sym h))
finished-settled who first script (events.Got s (replies.Noted commit) ∷ t) left p f n h = absurd (true≢false (sym h))
finished-settled who first script (events.Got s replies.Idle ∷ t) left p f n h = absurd (true≢false (sym h))
finished-settled who first script (events.Got s (replies.Refused code detail) ∷ t) left p f n h = absurd (true≢false (sym h))
finished-settled who first script (events.Join s ∷ t) left p f n h = absurd (true≢false (sym h))
finished-settled who first script (events.Make action ∷ t) left p f n h = absurd (true≢false (sym h))
finished-settled who first script (events.Poll ∷ t) left p f n h = absurd (true≢false (sym h))
finished-settled who first script (events.Observe objects wait ∷ t) left p f n h = absurd (true≢false (sym h))
finished-settled who first script (events.Leave ∷ t) left p f n h = absurd (true≢false (sym h))
finished-settled who first script (events.Cut ∷ t) left p f n h = absurd (true≢false (sym h))
finished-settled who first script (events.Show objects ∷ t) left p f n h = absurd (true≢false (sym h))

-- ---- Counts

pub makes-within : (who : Identity) (script : List Step) (t : List Event) (left : List Step) → FollowsTo who script t left → makes t + length left ≤ length script
makes-within who script [] left f = omega (arith, ap (λ (ss : List Step). length ss) f)
makes-within who script (events.Join s ∷ t) left f = omega (arith, makes-within who script t f.0 f.1.0, event-less who t f.0 (events.Join s) left f.1.1)
makes-within who script (events.Got s reply ∷ t) left f = omega (arith, makes-within who script t f.0 f.1.0, event-less who t f.0 (events.Got s reply) left f.1.1)
makes-within who script (events.Leave ∷ t) left f = omega (arith, makes-within who script t f.0 f.1.0, event-less who t f.0 events.Leave left f.1.1)
makes-within who script (events.Make action ∷ t) left f = omega (arith, makes-within who script t f.0 f.1.0, step-less who t f.0 (events.Make action) left f.1.1)
makes-within who script (events.Poll ∷ t) left f = omega (arith, makes-within who script t f.0 f.1.0, event-less who t f.0 events.Poll left f.1.1)
makes-within who script (events.Observe objects wait ∷ t) left f = omega (arith, makes-within who script t f.0 f.1.0, event-less who t f.0 (events.Observe objects wait) left f.1.1)
makes-within who script (events.Cut ∷ t) left f = omega (arith, makes-within who script t f.0 f.1.0, event-less who t f.0 events.Cut left f.1.1)
makes-within who script (events.Quit ∷ t) left f = omega (arith, makes-within who script t f.0 f.1.0, event-less who t f.0 events.Quit left f.1.1)
makes-within who script (events.Show objects ∷ t) left f = omega (arith, makes-within who script t f.0 f.1.0, event-less who t f.0 (events.Show objects) left f.1.1)

-- What holds of each step of a script holds of those that are left.
pub all-left : (P : Step → Type 0) (who : Identity) (script : List Step) (t : List Event) (left : List Step) → FollowsTo who script t left →
    AllByRecursion P script → AllByRecursion P left
all-left P who script [] left f a = subst (AllByRecursion P) (sym f) a
all-left P who script (e ∷ t) left f a = all-after P who t f.0 e left f.1.1 (all-left P who script t f.0 f.1.0 a)

-- ---- Sessions

pub not-current : (t : List Event) (n : ℕ) → list_any (is_join_of n) t ≡ false → is_session (current_session t) n ≡ false
not-current [] n h = refl
not-current (events.Join s ∷ t) n h = (or_parts (s == n) (list_any (is_join_of n) t) h).0
not-current (events.Make action ∷ t) n h = not-current t n h
not-current (events.Poll ∷ t) n h = not-current t n h
not-current (events.Observe objects wait ∷ t) n h = not-current t n h
not-current (events.Leave ∷ t) n h = not-current t n h
not-current (events.Got s reply ∷ t) n h = not-current t n h
not-current (events.Cut ∷ t) n h = not-current t n h
not-current (events.Quit ∷ t) n h = not-current t n h
not-current (events.Show objects ∷ t) n h = not-current t n h

none-more : {X : Type 0} (b : Bool) (xs ys : List X) → xs ≡ [] → b ≡ false → xs ++ (if b then ys else []) ≡ []
none-more b xs ys e h = rw (e, h) refl

-- Nothing is asked in a session that was not joined.
pub none-asked : (who : Identity) (first : ℕ) (t : List Event) (n : ℕ) → AreProper who first t → list_any (is_join_of n) t ≡ false →
    asked who.client who.interest t n ≡ []
none-asked who first [] n p h = refl
none-asked who first (events.Join s ∷ t) n p h =
    let parts = or_parts (s == n) (list_any (is_join_of n) t) h in
    none-more (s == n) (asked who.client who.interest t n) _ (none-asked who first t n p.1 parts.1) parts.0
none-asked who first (events.Make action ∷ t) n p h =
    none-more (is_session (current_session t) n) (asked who.client who.interest t n) _ (none-asked who first t n p.1 h) (not-current t n h)
none-asked who first (events.Poll ∷ t) n p h =
    none-more (is_session (current_session t) n) (asked who.client who.interest t n) _ (none-asked who first t n p.1 h) (not-current t n h)
none-asked who first (events.Observe objects wait ∷ t) n p h =
    none-more (is_session (current_session t) n) (asked who.client who.interest t n) _ (none-asked who first t n p.1 h) (not-current t n h)
none-asked who first (events.Leave ∷ t) n p h =
    none-more (is_session (current_session t) n) (asked who.client who.interest t n) _ (none-asked who first t n p.1 h) (not-current t n h)
none-asked who first (events.Got s reply ∷ t) n p h =
    none-more (s == n) (asked who.client who.interest t n) _ (none-asked who first t n p.1 h)
    (sym (ap (λ (o : Option ℕ). is_session o n) p.0.current) ∙ not-current t n h)
none-asked who first (events.Cut ∷ t) n p h = append-nil (asked who.client who.interest t n) ∙ none-asked who first t n p.1 h
none-asked who first (events.Quit ∷ t) n p h = append-nil (asked who.client who.interest t n) ∙ none-asked who first t n p.1 h
none-asked who first (events.Show objects ∷ t) n p h = append-nil (asked who.client who.interest t n) ∙ none-asked who first t n p.1 h
