-- A trace's requests and replies of a session, event by event.
use Rattle.std.proofs.Common.{◌≡◌, ℕ, zero, suc, ◌+◌, ◌<◌, ◌≤◌, Bool, true, false, ◌==◌, ◌⊎◌, inl, inr, List, [], ◌∷◌, ◌++◌, map, drop, reverse, length, Option, Some, None, slice_get, refl, sym, ap, ◌∙◌, subst, arith, eqb-true, eq-eqb, true≢false, ◌||◌}
use Rattle.std.specs.Prelude.{if◌then◌else◌}
use Rattle.std.specs.List.{list_any}
use Rattle.std.proofs.lemmas.Bool.{cond_both, cond-true, cond-false, cases_Bool, or_left, or_right}
use Rattle.std.proofs.lemmas.Option.{none-some, same_Some}
use mathlib.Core.List.{reverse_aux}
use mathlib.Core.Bool.{or-false}
use Rattle.sv_pending.specs.Pending.{PendingAction}
use Rattle.sv_wire.specs.declared.message.Done1.{Done1}
use Rattle.sv_wire.specs.declared.message.Request.{Request}
use Rattle.sv_wire.specs.declared.message.Request.TheVariants as requests
use Rattle.sv_wire.specs.declared.message.Reply.{Reply}
use Rattle.sv_wire.specs.declared.message.Reply.TheVariants as replies
use Rattle.sv_client.specs.declared.trace.Event.{Event}
use Rattle.sv_client.specs.declared.trace.Event.TheVariants as events
use Rattle.sv_client.specs.Traces.{joins, makes, current_session, is_session, held_of, head_held, results_of, done_for, pending_of, submit_of, asked_by_event, asked, got}
use Rattle.sv_client.specs.Taking.{Identity, unanswered, allows, Unasked, fault_after, is_out_of_order, has_bad_item}
use Rattle.sv_client.specs.Proper.{MayGet}
use Rattle.sv_client.proofs.Faultless.{kind-of, order-of, good-of}
use Rattle.law_system.specs.Clients.{MayComeNext, AreClientEvents}
use Rattle.law_system.specs.Fronts.{IsFront}
use Rattle.law_system.specs.Fits.{is_join_of}
use Rattle.law_system.proofs.Fronts.{front-all, front-then, front-append, get-push_cases}
use Rattle.law_system.proofs.Joined.{session_at, at-join, at-more, at-below}

pub other-session : (o : Option ℕ) (s : ℕ) → (o ≡ Some s → ⊥) → is_session o s ≡ false
other-session None s f = refl
other-session (Some n) s f = elim (cases_Bool (n == s)) [ inr e ↦ e | inl e ↦ absurd (f (ap Some (eqb-true n s e))) ]

-- The events up to some one.
pub data IsPart (t : List Event) : List Event → Type 0 where
  all : IsPart t t
  then_one : {u : List Event} (e : Event) → IsPart t u → IsPart t (e ∷ u)

pub part-rest : (t : List Event) (e : Event) (u : List Event) → IsPart (e ∷ t) u → IsPart t u
part-rest t e whole all = then_one e all
part-rest t e whole (then_one {u} d p) = then_one d (part-rest t e u p)

pub at-part : (t u : List Event) → IsPart t u → (n s : ℕ) → session_at t n ≡ Some s → session_at u n ≡ Some s
at-part t whole all n s e = e
at-part t whole (then_one {u} d b) n s e = at-more d u n s (at-part t u b n s e)

pub get-append_cases : {X : Type 0} (xs ys : List X) (i : ℕ) (x : X) → slice_get (xs ++ ys) i ≡ Some x →
    (slice_get xs i ≡ Some x) ⊎ ((j : ℕ) × ((i ≡ length xs + j) × (slice_get ys j ≡ Some x)))
get-append_cases [] ys i x e = inr (i, (omega arith, e))
get-append_cases (z ∷ xs) ys zero x e = inl e
get-append_cases (z ∷ xs) ys (suc i) x e =
    elim (get-append_cases xs ys i x e) [ inl s ↦ inl s | inr s ↦ (let q : i ≡ length xs + s.0 = s.1.0 in inr (s.0, (omega arith, s.1.1))) ]

pub get-drop : {X : Type 0} (n : ℕ) (xs : List X) (y : X) (ys : List X) → drop n xs ≡ y ∷ ys → slice_get xs n ≡ Some y
get-drop zero [] y ys e = cc
get-drop zero (x ∷ xs) y ys e = cc
get-drop (suc n) [] y ys e = cc
get-drop (suc n) (x ∷ xs) y ys e = get-drop n xs y ys e

module _ (who : Identity) where
  abbrev asked_in_trace : List Event → ℕ → List Request
  asked_in_trace t s = asked who.client who.interest t s

  pub proper-part : (t u : List Event) → IsPart t u → AreClientEvents who u → AreClientEvents who t
  proper-part t whole all p = p
  proper-part t whole (then_one {u} e b) p = proper-part t u b p.1

  pub asked-part : (t u : List Event) → IsPart t u → (s : ℕ) → IsFront (asked who.client who.interest t s) (asked who.client who.interest u s)
  asked-part t whole all s = front-all (asked_in_trace t s)
  asked-part t whole (then_one {u} e b) s =
      front-then (asked_in_trace t s) (asked_in_trace u s) (asked_in_trace (e ∷ u) s) (asked-part t u b s) (front-append (asked_in_trace u s) (asked_by_event who.client who.interest u e s))

  -- ---- Gots

  got-one : (e : Event) (t : List Event) (s : ℕ) → IsFront (got t s) (got (e ∷ t) s)
  got-one (events.Got n reply) t s = cond_both (n == s) (got t s ++ reply ∷ []) (got t s) (IsFront (got t s)) (λ e. front-append (got t s) (reply ∷ [])) (λ e. front-all (got t s))
  got-one (events.Join n) t s = front-all (got t s)
  got-one (events.Make action) t s = front-all (got t s)
  got-one events.Poll t s = front-all (got t s)
  got-one (events.Observe objects wait) t s = front-all (got t s)
  got-one events.Leave t s = front-all (got t s)
  got-one events.Cut t s = front-all (got t s)
  got-one events.Quit t s = front-all (got t s)
  got-one (events.Show objects) t s = front-all (got t s)

  pub got-part : (t u : List Event) → IsPart t u → (s : ℕ) → IsFront (got t s) (got u s)
  got-part t whole all s = front-all (got t s)
  got-part t whole (then_one {u} e b) s = front-then (got t s) (got u s) (got (e ∷ u) s) (got-part t u b s) (got-one e u s)

  -- A reply that was got, with the events before it.
  pub record IsGot (u : List Event) (s n : ℕ) (reply : Reply) : Type 0 where
    pub before : List Event
    pub part : IsPart (events.Got s reply ∷ before) u
    pub place : n ≡ length (got before s)

  got-later : (e : Event) (u : List Event) (s n : ℕ) (reply : Reply) → IsGot u s n reply → IsGot (e ∷ u) s n reply
  got-later e u s n reply g = record { before = g.before; part = then_one e g.part; place = g.place }

  got-more : (m : ℕ) (r : Reply) (t : List Event) (s n : ℕ) (reply : Reply) → (slice_get (got t s) n ≡ Some reply → IsGot t s n reply) →
      slice_get (got (events.Got m r ∷ t) s) n ≡ Some reply → IsGot (events.Got m r ∷ t) s n reply
  got-more m r t s n reply before is =
      elim (cases_Bool (m == s)) [
        | inr f ↦ got-later (events.Got m r) t s n reply (before (sym (ap (λ (l : List Reply). slice_get l n) (cond-false (m == s) _ _ f)) ∙ is))
        | inl f ↦ elim (get-push_cases (got t s) r n reply (sym (ap (λ (l : List Reply). slice_get l n) (cond-true (m == s) _ _ f)) ∙ is)) [
          | inl g ↦ got-later (events.Got m r) t s n reply (before g)
          | inr g ↦
              (let there : events.Got m r ≡ events.Got s reply = ap (λ (k : ℕ). events.Got k r) (eqb-true m s f) ∙ ap (events.Got s) (sym g.1) in
              record { before = t; part = subst (λ (e : Event). IsPart (events.Got s reply ∷ t) (e ∷ t)) (sym there) all; place = g.0 })
        ]
      ]

  pub got-when : (u : List Event) (s n : ℕ) (reply : Reply) → slice_get (got u s) n ≡ Some reply → IsGot u s n reply
  got-when [] s n reply is = absurd (none-some reply is)
  got-when (events.Got m r ∷ t) s n reply is = got-more m r t s n reply (got-when t s n reply) is
  got-when (events.Join m ∷ t) s n reply is = got-later (events.Join m) t s n reply (got-when t s n reply is)
  got-when (events.Make action ∷ t) s n reply is = got-later (events.Make action) t s n reply (got-when t s n reply is)
  got-when (events.Poll ∷ t) s n reply is = got-later events.Poll t s n reply (got-when t s n reply is)
  got-when (events.Observe objects wait ∷ t) s n reply is = got-later (events.Observe objects wait) t s n reply (got-when t s n reply is)
  got-when (events.Leave ∷ t) s n reply is = got-later events.Leave t s n reply (got-when t s n reply is)
  got-when (events.Cut ∷ t) s n reply is = got-later events.Cut t s n reply (got-when t s n reply is)
  got-when (events.Quit ∷ t) s n reply is = got-later events.Quit t s n reply (got-when t s n reply is)
  got-when (events.Show objects ∷ t) s n reply is = got-later (events.Show objects) t s n reply (got-when t s n reply is)

  -- ---- What a reply that was got answers

  pub record Answers (t : List Event) (s : ℕ) (reply : Reply) : Type 0 where
    pub current : current_session t ≡ Some s
    pub request : Request
    pub asked_there : slice_get (asked who.client who.interest t s) (length (got t s)) ≡ Some request
    pub kind : allows request reply ≡ true
    pub ordered : is_out_of_order t reply ≡ false
    pub good : has_bad_item who (pending_of t) request reply ≡ false

  answers-first : (t : List Event) (s : ℕ) (reply : Reply) (qs : List Request) → current_session t ≡ Some s → drop (length (got t s)) (asked_in_trace t s) ≡ qs →
      fault_after who t qs reply ≡ None → Answers t s reply
  answers-first t s reply [] c e f = absurd (none-some Unasked (sym f))
  answers-first t s reply (q ∷ qs) c e f = record {
    current = c;
    request = q;
    asked_there = get-drop (length (got t s)) (asked_in_trace t s) q qs e;
    kind = kind-of (allows q reply) _ f;
    ordered = order-of (allows q reply) (is_out_of_order t reply) _ f;
    good = good-of (allows q reply) (is_out_of_order t reply) (has_bad_item who (pending_of t) q reply) _ f;
  }

  pub may-answer : (t : List Event) (s : ℕ) (reply : Reply) → MayGet who t s reply → Answers t s reply
  may-answer t s reply m =
      answers-first t s reply (drop (length (got t s)) (asked_in_trace t s)) m.current refl
      (subst (λ (o : Option ℕ). fault_after who t (unanswered who t o) reply ≡ None) m.current m.taken)

  pub got-answers : (u : List Event) → AreClientEvents who u → (s n : ℕ) (reply : Reply) → (g : IsGot u s n reply) → Answers g.before s reply
  got-answers u p s n reply g = may-answer g.before s reply (proper-part (events.Got s reply ∷ g.before) u g.part p).0

  -- ---- Dones

  -- A Done that is asked reports the results of a reply that was got just before.
  pub record IsDone (u : List Event) (s n : ℕ) (results : List Done1) : Type 0 where
    pub reply : Reply
    pub before : List Event
    pub part : IsPart (events.Got s reply ∷ before) u
    pub place : n ≡ length (asked who.client who.interest before s)
    pub asks : done_for (held_of before) reply ≡ requests.Done results ∷ []

  done-later : (e : Event) (u : List Event) (s n : ℕ) (results : List Done1) → IsDone u s n results → IsDone (e ∷ u) s n results
  done-later e u s n results d = record { reply = d.reply; before = d.before; part = then_one e d.part; place = d.place; asks = d.asks }

  done-first : (t : List Event) (s : ℕ) (results own : List Done1) (reply : Reply) (j : ℕ) → done_for (held_of t) reply ≡ requests.Done own ∷ [] →
      slice_get (requests.Done own ∷ []) j ≡ Some (requests.Done results) → IsDone (events.Got s reply ∷ t) s (length (asked_in_trace t s) + j) results
  done-first t s results own reply zero is e = record {
    reply = reply;
    before = t;
    part = all;
    place = omega arith;
    asks = is ∙ ap (λ (q : Request). q ∷ []) (same_Some (requests.Done own) (requests.Done results) e);
  }
  done-first t s results own reply (suc j) is e = absurd (none-some (requests.Done results) e)

  done-by : (t : List Event) (s : ℕ) (results : List Done1) (reply : Reply) (j : ℕ) → slice_get (done_for (held_of t) reply) j ≡ Some (requests.Done results) →
      IsDone (events.Got s reply ∷ t) s (length (asked_in_trace t s) + j) results
  done-by t s results (replies.Relay seq commit head items) j e =
      done-first t s results (results_of (held_of t ++ head_held commit head) items) (replies.Relay seq commit head items) j refl e
  done-by t s results (replies.Seen last commit head []) j e = absurd (none-some (requests.Done results) e)
  done-by t s results (replies.Seen last commit head (item ∷ items)) j e =
      done-first t s results (results_of (held_of t ++ head_held commit head) (item ∷ items)) (replies.Seen last commit head (item ∷ items)) j refl e
  done-by t s results (replies.Welcome commit head) j e = absurd (none-some (requests.Done results) e)
  done-by t s results (replies.Dropped seq chain far) j e = absurd (none-some (requests.Done results) e)
  done-by t s results (replies.Denied seq object) j e = absurd (none-some (requests.Done results) e)
  done-by t s results (replies.Settled seq pos) j e = absurd (none-some (requests.Done results) e)
  done-by t s results (replies.Noted commit) j e = absurd (none-some (requests.Done results) e)
  done-by t s results replies.Idle j e = absurd (none-some (requests.Done results) e)
  done-by t s results (replies.Refused code detail) j e = absurd (none-some (requests.Done results) e)
  done-by t s results replies.Bye j e = absurd (none-some (requests.Done results) e)

  no-done_if : (b : Bool) (q : Request) (j : ℕ) (results : List Done1) → slice_get (if b then q ∷ [] else []) j ≡ Some (requests.Done results) → q ≡ requests.Done results
  no-done_if true q zero results e = same_Some q (requests.Done results) e
  no-done_if true q (suc j) results e = absurd (none-some (requests.Done results) e)
  no-done_if false q j results e = absurd (none-some (requests.Done results) e)

  no-done_submits : (ps : List PendingAction) (j : ℕ) (results : List Done1) → slice_get (map submit_of ps) j ≡ Some (requests.Done results) → ⊥
  no-done_submits [] j results e = none-some (requests.Done results) e
  no-done_submits (p ∷ ps) zero results e = (let f : requests.Submit p.seq p.action ≡ requests.Done results = same_Some _ _ e in cc)
  no-done_submits (p ∷ ps) (suc j) results e = no-done_submits ps j results e

  no-done_join : (b : Bool) (q : Request) (ps : List PendingAction) (j : ℕ) (results : List Done1) → slice_get (if b then q ∷ map submit_of ps else []) j ≡ Some (requests.Done results) →
      (q ≡ requests.Done results → ⊥) → ⊥
  no-done_join true q ps zero results e f = f (same_Some q (requests.Done results) e)
  no-done_join true q ps (suc j) results e f = no-done_submits ps j results e
  no-done_join false q ps j results e f = none-some (requests.Done results) e

  done-of_event : (e : Event) (t : List Event) (s j : ℕ) (results : List Done1) → slice_get (asked_by_event who.client who.interest t e s) j ≡ Some (requests.Done results) →
      IsDone (e ∷ t) s (length (asked_in_trace t s) + j) results
  done-of_event (events.Got m r) t s j results e =
      elim (cases_Bool (m == s)) [
        | inr f ↦ absurd (none-some (requests.Done results) (sym (ap (λ (l : List Request). slice_get l j) (cond-false (m == s) _ _ f)) ∙ e))
        | inl f ↦ subst (λ (k : ℕ). IsDone (events.Got k r ∷ t) s (length (asked_in_trace t s) + j) results) (sym (eqb-true m s f))
            (done-by t s results r j (sym (ap (λ (l : List Request). slice_get l j) (cond-true (m == s) _ _ f)) ∙ e))
      ]
  done-of_event (events.Join m) t s j results e =
      absurd (no-done_join (m == s) (requests.Join who.client (suc (joins t)) who.interest) (pending_of t) j results e (λ f. cc))
  done-of_event (events.Make action) t s j results e =
      (let f : requests.Submit (suc (makes t)) action ≡ requests.Done results = no-done_if (is_session (current_session t) s) _ j results e in cc)
  done-of_event events.Poll t s j results e = (let f : requests.Poll ≡ requests.Done results = no-done_if (is_session (current_session t) s) _ j results e in cc)
  done-of_event (events.Observe objects wait) t s j results e = (let f : requests.Observe objects wait ≡ requests.Done results = no-done_if (is_session (current_session t) s) _ j results e in cc)
  done-of_event events.Leave t s j results e = (let f : requests.Leave ≡ requests.Done results = no-done_if (is_session (current_session t) s) _ j results e in cc)
  done-of_event events.Cut t s j results e = absurd (none-some (requests.Done results) e)
  done-of_event events.Quit t s j results e = absurd (none-some (requests.Done results) e)
  done-of_event (events.Show objects) t s j results e = absurd (none-some (requests.Done results) e)

  pub done-when : (u : List Event) (s n : ℕ) (results : List Done1) → slice_get (asked who.client who.interest u s) n ≡ Some (requests.Done results) → IsDone u s n results
  done-when [] s n results e = absurd (none-some (requests.Done results) e)
  done-when (ev ∷ t) s n results e =
      let before = done-when t s n results in
      elim (get-append_cases (asked_in_trace t s) (asked_by_event who.client who.interest t ev s) n (requests.Done results) e) [
        | inl g ↦ done-later ev t s n results (before g)
        | inr g ↦ subst (λ (k : ℕ). IsDone (ev ∷ t) s k results) (sym g.1.0) (done-of_event ev t s g.0 results g.1.1)
      ]

  -- ---- The first request

  -- A session's first request is its Join, whose life says which Join of the trace it is; the current session has one.
  pub record IsBegun (t : List Event) (s : ℕ) : Type 0 where
    pub life : ℕ
    pub rest : List Request
    pub asked_are : asked who.client who.interest t s ≡ requests.Join who.client life who.interest ∷ rest
    pub numbered : session_at t life ≡ Some s
    pub among : life ≤ joins t

  begun-more : (t : List Event) (e : Event) (s : ℕ) → joins t ≤ joins (e ∷ t) → IsBegun t s → IsBegun (e ∷ t) s
  begun-more t e s l b = record {
    life = b.life;
    rest = b.rest ++ asked_by_event who.client who.interest t e s;
    asked_are = ap (λ (qs : List Request). qs ++ asked_by_event who.client who.interest t e s) b.asked_are;
    numbered = at-more e t b.life s b.numbered;
    among = (let m : b.life ≤ joins t = b.among in omega arith);
  }

  -- Nothing was asked in the session, which is not the current one, or it was begun.
  abbrev IsBegunOrNot : List Event → ℕ → Type 0
  IsBegunOrNot t s = ((asked who.client who.interest t s ≡ []) × (current_session t ≡ Some s → ⊥)) ⊎ IsBegun t s

  still-not : (t : List Event) (e : Event) (s : ℕ) → joins t ≤ joins (e ∷ t) → ((current_session t ≡ Some s → ⊥) → asked_by_event who.client who.interest t e s ≡ []) →
      (current_session (e ∷ t) ≡ current_session t) → IsBegunOrNot t s → IsBegunOrNot (e ∷ t) s
  still-not t e s l f c (inr b) = inr (begun-more t e s l b)
  still-not t e s l f c (inl b) =
      inl (ap (λ (qs : List Request). qs ++ asked_by_event who.client who.interest t e s) b.0 ∙ f b.1, λ g. b.1 (sym c ∙ g))

  not-asked : (t : List Event) (q : Request) (s : ℕ) → (current_session t ≡ Some s → ⊥) → (if is_session (current_session t) s then q ∷ [] else []) ≡ []
  not-asked t q s f = cond-false (is_session (current_session t) s) _ _ (other-session (current_session t) s f)

  begun-join : (t : List Event) (m s : ℕ) → IsBegunOrNot t s → IsBegunOrNot (events.Join m ∷ t) s
  begun-join t m s (inr b) = inr (begun-more t (events.Join m) s (omega arith) b)
  begun-join t m s (inl b) =
      let now = requests.Join who.client (suc (joins t)) who.interest ∷ map submit_of (pending_of t) in
      elim (cases_Bool (m == s)) [
        | inl e ↦
            (let is : m ≡ s = eqb-true m s e in
            inr (record {
              life = suc (joins t);
              rest = map submit_of (pending_of t);
              asked_are = ap (λ (qs : List Request). qs ++ (if m == s then now else [])) b.0 ∙ cond-true (m == s) now [] e;
              numbered = at-join t m ∙ ap Some is;
              among = omega arith;
            }))
        | inr e ↦ inl (
          ap (λ (qs : List Request). qs ++ (if m == s then now else [])) b.0 ∙ cond-false (m == s) now [] e,
          λ g. true≢false (sym (eq-eqb m s (same_Some m s g)) ∙ e),
        )
      ]

  begun-got : (t : List Event) (m : ℕ) (r : Reply) (s : ℕ) → current_session t ≡ Some m → IsBegunOrNot t s → IsBegunOrNot (events.Got m r ∷ t) s
  begun-got t m r s c b =
      still-not t (events.Got m r) s (omega arith)
      (λ f. cond-false (m == s) _ _ (elim (cases_Bool (m == s)) [ inr e ↦ e | inl e ↦ absurd (f (c ∙ ap Some (eqb-true m s e))) ])) refl b

  pub begun-or_not : (t : List Event) → AreClientEvents who t → (s : ℕ) → ((asked who.client who.interest t s ≡ []) × (current_session t ≡ Some s → ⊥)) ⊎ IsBegun t s
  begun-or_not [] p s = inl (refl, λ g. none-some s g)
  begun-or_not (events.Join m ∷ t) p s = begun-join t m s (begun-or_not t p.1 s)
  begun-or_not (events.Got m r ∷ t) p s = begun-got t m r s p.0.current (begun-or_not t p.1 s)
  begun-or_not (events.Make action ∷ t) p s = still-not t (events.Make action) s (omega arith) (not-asked t _ s) refl (begun-or_not t p.1 s)
  begun-or_not (events.Poll ∷ t) p s = still-not t events.Poll s (omega arith) (not-asked t _ s) refl (begun-or_not t p.1 s)
  begun-or_not (events.Observe objects wait ∷ t) p s = still-not t (events.Observe objects wait) s (omega arith) (not-asked t _ s) refl (begun-or_not t p.1 s)
  begun-or_not (events.Leave ∷ t) p s = still-not t events.Leave s (omega arith) (not-asked t _ s) refl (begun-or_not t p.1 s)
  begun-or_not (events.Cut ∷ t) p s = still-not t events.Cut s (omega arith) (λ f. refl) refl (begun-or_not t p.1 s)
  begun-or_not (events.Quit ∷ t) p s = still-not t events.Quit s (omega arith) (λ f. refl) refl (begun-or_not t p.1 s)
  begun-or_not (events.Show objects ∷ t) p s = still-not t (events.Show objects) s (omega arith) (λ f. refl) refl (begun-or_not t p.1 s)

  -- A Join names a session that was not begun before.
  pub begun-older : (t : List Event) (m : ℕ) → MayComeNext who t (events.Join m) → (s : ℕ) → IsBegun t s → s < m
  begun-older t m above s b = at-below t m above b.life s b.numbered

-- ---- Joins

pub current-joined : (t : List Event) (s : ℕ) → current_session t ≡ Some s → list_any (is_join_of s) t ≡ true
current-joined [] s c = absurd (none-some s c)
current-joined (events.Join m ∷ t) s c = or_left (m == s) (list_any (is_join_of s) t) (eq-eqb m s (same_Some m s c))
current-joined (events.Got m r ∷ t) s c = current-joined t s c
current-joined (events.Make action ∷ t) s c = current-joined t s c
current-joined (events.Poll ∷ t) s c = current-joined t s c
current-joined (events.Observe objects wait ∷ t) s c = current-joined t s c
current-joined (events.Leave ∷ t) s c = current-joined t s c
current-joined (events.Cut ∷ t) s c = current-joined t s c
current-joined (events.Quit ∷ t) s c = current-joined t s c
current-joined (events.Show objects ∷ t) s c = current-joined t s c

pub any-part : (p : Event → Bool) (t u : List Event) → IsPart t u → list_any p t ≡ true → list_any p u ≡ true
any-part p t whole all h = h
any-part p t whole (then_one {u} e b) h = or_right (p e) (list_any p u) (any-part p t u b h)

or-move : (a b c : Bool) → (b || (a || c)) ≡ ((a || b) || c)
or-move true true c = refl
or-move true false c = refl
or-move false true c = refl
or-move false false c = refl

any-onto : {X : Type 0} (test : X → Bool) (xs ys : List X) → list_any test (reverse_aux xs ys) ≡ (list_any test xs || list_any test ys)
any-onto test [] ys = refl
any-onto test (x ∷ xs) ys = any-onto test xs (x ∷ ys) ∙ or-move (test x) (list_any test xs) (list_any test ys)

pub any-reversed : {X : Type 0} (test : X → Bool) (xs : List X) → list_any test (reverse xs) ≡ list_any test xs
any-reversed test xs = any-onto test xs [] ∙ or-false (list_any test xs)

pub any-reverse : (p : Event → Bool) (xs : List Event) → list_any p (reverse xs) ≡ true → list_any p xs ≡ true
any-reverse p xs h = sym (any-reversed p xs) ∙ h

pub any-turned : (p : Event → Bool) (xs : List Event) → list_any p xs ≡ true → list_any p (reverse xs) ≡ true
any-turned p xs h = any-reversed p xs ∙ h
