-- How the outstanding requests of a trace change with each event.
use Rattle.std.proofs.Common.{◌≡◌, ℕ, suc, ◌+◌, ◌<◌, ◌≤◌, Bool, true, false, eqb, List, [], ◌∷◌, ◌++◌, length, drop, map, Option, Some, None, refl, sym, ap, subst, ◌∙◌, arith}
use Rattle.std.specs.Prelude.{if◌then◌else◌}
use Rattle.std.proofs.lemmas.Bool.{eqb-true, eq-eqb}
use Rattle.std.proofs.lemmas.List.{length-drop, length-append, drop-append-le, drop-drop, append-nil}
use Rattle.sv_world.specs.declared.action.Action.{Action}
use Rattle.sv_world.specs.declared.world.ObjectId.{ObjectId}
use Rattle.sv_wire.specs.declared.message.Reply.{Reply}
use Rattle.sv_wire.specs.declared.message.Request.{Request}
use Rattle.sv_wire.specs.declared.message.Request.TheVariants as requests
use Rattle.sv_client.specs.declared.trace.Event.{Event}
use Rattle.sv_client.specs.declared.trace.Event.TheVariants as events
use Rattle.sv_client.specs.Traces.{joins, makes, current_session, is_session, asked, asked_by_event, got, done_for, held_of, pending_of, submit_of}
use Rattle.sv_client.specs.Taking.{Identity, outstanding, unanswered, fault_after, first_fault_of_reply}
use Rattle.sv_client.specs.Proper.{AreProper, AreInTurn, MayGet, in_session}
use Rattle.sv_client.proofs.Sessions.{no_got_turn, no_asked_turn, some_current, in_turn}

-- A reply without a fault answers some request.
pub answers_some : (who : Identity) (t : List Event) (reply : Reply) → first_fault_of_reply who t reply ≡ None → 0 < length (outstanding who t)
answers_some who t reply e = go (outstanding who t) e
  where
    go : (rs : List Request) → fault_after who t rs reply ≡ None → 0 < length rs
    go [] h = cc
    go (r ∷ rs) h = omega arith

pub outstanding_in : (who : Identity) (t : List Event) (s : ℕ) → current_session t ≡ Some s → outstanding who t ≡ drop (length (got t s)) (asked who.client who.interest t s)
outstanding_in who t s e = ap (unanswered who t) e

drop_after : (n : ℕ) (xs : List Request) → drop (n + 1) xs ≡ drop 1 (drop n xs)
drop_after n xs = sym (drop-drop 1 n xs)

more_asked : (n : ℕ) (xs ys : List Request) → n ≤ length xs → n ≤ length (xs ++ ys)
more_asked n xs ys l = rw (length-append xs ys) (omega arith)

got_one : (b : Bool) (xs : List Reply) (reply : Reply) (n : ℕ) → (b ≡ true → length xs < n) → length xs ≤ n → length (if b then xs ++ reply ∷ [] else xs) ≤ n
got_one true xs reply n f l = rw (length-append xs (reply ∷ [])) (omega (arith, f refl))
got_one false xs reply n f l = l

-- A reply that may be got answers a request, of which there are more than replies.
pub got_less : (who : Identity) (t : List Event) (s : ℕ) (reply : Reply) → MayGet who t s reply → length (got t s) < length (asked who.client who.interest t s)
got_less who t s reply m =
    let some : 0 < length (drop (length (got t s)) (asked who.client who.interest t s)) = subst (λ (rs : List Request). 0 < length rs) (outstanding_in who t s m.current) (answers_some who t reply m.taken) in
    let long = length-drop (length (got t s)) (asked who.client who.interest t s) in
    omega (arith, some, long)

-- No more is got in a session than was asked in it.
pub got_within_turn : (who : Identity) (first : ℕ) (t : List Event) → AreInTurn who first t → (k : ℕ) → length (got t k) ≤ length (asked who.client who.interest t k)
got_within_turn who first [] p k = omega arith
got_within_turn who first (events.Join s ∷ t) p k = more_asked (length (got t k)) (asked who.client who.interest t k) (asked_by_event who.client who.interest t (events.Join s) k) (got_within_turn who first t p.1 k)
got_within_turn who first (events.Make a ∷ t) p k = more_asked (length (got t k)) (asked who.client who.interest t k) (asked_by_event who.client who.interest t (events.Make a) k) (got_within_turn who first t p.1 k)
got_within_turn who first (events.Poll ∷ t) p k = more_asked (length (got t k)) (asked who.client who.interest t k) (asked_by_event who.client who.interest t events.Poll k) (got_within_turn who first t p.1 k)
got_within_turn who first (events.Observe os wait ∷ t) p k = more_asked (length (got t k)) (asked who.client who.interest t k) (asked_by_event who.client who.interest t (events.Observe os wait) k) (got_within_turn who first t p.1 k)
got_within_turn who first (events.Leave ∷ t) p k = more_asked (length (got t k)) (asked who.client who.interest t k) (asked_by_event who.client who.interest t events.Leave k) (got_within_turn who first t p.1 k)
got_within_turn who first (events.Got s reply ∷ t) p k =
    more_asked (length (got (events.Got s reply ∷ t) k)) (asked who.client who.interest t k) (asked_by_event who.client who.interest t (events.Got s reply) k)
    (got_one (eqb s k) (got t k) reply (length (asked who.client who.interest t k)) (λ same. subst (λ (n : ℕ). length (got t n) < length (asked who.client who.interest t n)) (eqb-true s k same) (got_less who t s reply p.0)) (got_within_turn who first t p.1 k))
got_within_turn who first (events.Cut ∷ t) p k = more_asked (length (got t k)) (asked who.client who.interest t k) [] (got_within_turn who first t p.1 k)
got_within_turn who first (events.Quit ∷ t) p k = more_asked (length (got t k)) (asked who.client who.interest t k) [] (got_within_turn who first t p.1 k)
got_within_turn who first (events.Show os ∷ t) p k = more_asked (length (got t k)) (asked who.client who.interest t k) [] (got_within_turn who first t p.1 k)

-- ---- What is outstanding after each event

pub joined_turn : (who : Identity) (first : ℕ) (t : List Event) → AreInTurn who first t → (s : ℕ) → s ≡ first + joins t
    → outstanding who (events.Join s ∷ t) ≡ requests.Join who.client (suc (joins t)) who.interest ∷ map submit_of (pending_of t)
joined_turn who first t p s e =
    rw (no_got_turn who first t p s (omega (arith, e)), no_asked_turn who first t p s (omega (arith, e)), eq-eqb s s refl) refl

more_asked_now : (who : Identity) (first : ℕ) (t : List Event) → AreInTurn who first t → (s : ℕ) → current_session t ≡ Some s → (rs : List Request)
    → drop (length (got t s)) (asked who.client who.interest t s ++ rs) ≡ outstanding who t ++ rs
more_asked_now who first t p s e rs =
    drop-append-le (length (got t s)) (asked who.client who.interest t s) rs (got_within_turn who first t p s)
    ∙ ap (λ (os : List Request). os ++ rs) (sym (outstanding_in who t s e))

pub is_current : (t : List Event) (s : ℕ) → current_session t ≡ Some s → is_session (current_session t) s ≡ true
is_current t s e = ap (λ o. is_session o s) e ∙ eq-eqb s s refl

pub when : {X : Type 0} (b : Bool) (xs ys : List X) → b ≡ true → (if b then xs else ys) ≡ xs
when true xs ys e = refl
when false xs ys e = cc

-- One more request is outstanding after an event that asks one of the last session.
asked_more : (who : Identity) (first : ℕ) (t : List Event) → AreInTurn who first t → (s : ℕ) → current_session t ≡ Some s → (e : Event) (rs : List Request)
    → asked_by_event who.client who.interest t e s ≡ rs
    → drop (length (got t s)) (asked who.client who.interest t s ++ asked_by_event who.client who.interest t e s) ≡ outstanding who t ++ rs
asked_more who first t p s c e rs h =
    ap (λ (xs : List Request). drop (length (got t s)) (asked who.client who.interest t s ++ xs)) h ∙ more_asked_now who first t p s c rs

pub made_turn : (who : Identity) (first : ℕ) (t : List Event) (a : Action) → AreInTurn who first t → in_session t ≡ true
    → outstanding who (events.Make a ∷ t) ≡ outstanding who t ++ requests.Submit (suc (makes t)) a ∷ []
made_turn who first t a p j =
    let c = some_current t j in
    ap (unanswered who (events.Make a ∷ t)) c.1
    ∙ asked_more who first t p c.0 c.1 (events.Make a) (requests.Submit (suc (makes t)) a ∷ []) (when (is_session (current_session t) c.0) _ _ (is_current t c.0 c.1))

pub polled_turn : (who : Identity) (first : ℕ) (t : List Event) → AreInTurn who first t → in_session t ≡ true
    → outstanding who (events.Poll ∷ t) ≡ outstanding who t ++ requests.Poll ∷ []
polled_turn who first t p j =
    let c = some_current t j in
    ap (unanswered who (events.Poll ∷ t)) c.1
    ∙ asked_more who first t p c.0 c.1 events.Poll (requests.Poll ∷ []) (when (is_session (current_session t) c.0) _ _ (is_current t c.0 c.1))

pub observed_turn : (who : Identity) (first : ℕ) (t : List Event) (os : List ObjectId) (wait : ℕ) → AreInTurn who first t → in_session t ≡ true
    → outstanding who (events.Observe os wait ∷ t) ≡ outstanding who t ++ requests.Observe os wait ∷ []
observed_turn who first t os wait p j =
    let c = some_current t j in
    ap (unanswered who (events.Observe os wait ∷ t)) c.1
    ∙ asked_more who first t p c.0 c.1 (events.Observe os wait) (requests.Observe os wait ∷ []) (when (is_session (current_session t) c.0) _ _ (is_current t c.0 c.1))

pub left_turn : (who : Identity) (first : ℕ) (t : List Event) → AreInTurn who first t → in_session t ≡ true
    → outstanding who (events.Leave ∷ t) ≡ outstanding who t ++ requests.Leave ∷ []
left_turn who first t p j =
    let c = some_current t j in
    ap (unanswered who (events.Leave ∷ t)) c.1
    ∙ asked_more who first t p c.0 c.1 events.Leave (requests.Leave ∷ []) (when (is_session (current_session t) c.0) _ _ (is_current t c.0 c.1))

no_more : (who : Identity) (t : List Event) (e : Event) (o : Option ℕ) → ((s : ℕ) → got (e ∷ t) s ≡ got t s) → ((s : ℕ) → asked_by_event who.client who.interest t e s ≡ [])
    → unanswered who (e ∷ t) o ≡ unanswered who t o
no_more who t e None g a = refl
no_more who t e (Some s) g a = rw (g s, a s, append-nil (asked who.client who.interest t s)) refl

-- Cut, Quit and Show leave it.
pub outstanding_cut : (who : Identity) (t : List Event) → outstanding who (events.Cut ∷ t) ≡ outstanding who t
outstanding_cut who t = no_more who t events.Cut (current_session t) (λ s. refl) (λ s. refl)

pub outstanding_quit : (who : Identity) (t : List Event) → outstanding who (events.Quit ∷ t) ≡ outstanding who t
outstanding_quit who t = no_more who t events.Quit (current_session t) (λ s. refl) (λ s. refl)

pub outstanding_shown : (who : Identity) (t : List Event) (os : List ObjectId) → outstanding who (events.Show os ∷ t) ≡ outstanding who t
outstanding_shown who t os = no_more who t (events.Show os) (current_session t) (λ s. refl) (λ s. refl)

-- A reply takes the oldest request out, and puts its Done, if it has one, behind the others.
pub got_turn : (who : Identity) (first : ℕ) (t : List Event) (s : ℕ) (reply : Reply) → AreInTurn who first t → MayGet who t s reply
    → outstanding who (events.Got s reply ∷ t) ≡ drop 1 (outstanding who t) ++ done_for (held_of t) reply
got_turn who first t s reply p m =
    ap (unanswered who (events.Got s reply ∷ t)) m.current
    ∙ rw (eq-eqb s s refl, length-append (got t s) (reply ∷ [])) (
    drop-append-le (length (got t s) + 1) (asked who.client who.interest t s) (done_for (held_of t) reply) (omega (arith, got_less who t s reply m))
    ∙ ap (λ (xs : List Request). xs ++ done_for (held_of t) reply)
    (drop_after (length (got t s)) (asked who.client who.interest t s) ∙ ap (drop 1) (sym (outstanding_in who t s m.current))))

-- ---- The same of proper traces

pub got_within : (who : Identity) (first : ℕ) (t : List Event) → AreProper who first t → (k : ℕ) → length (got t k) ≤ length (asked who.client who.interest t k)
got_within who first t p k = got_within_turn who first t (in_turn who first t p) k

pub outstanding_joined : (who : Identity) (first : ℕ) (t : List Event) → AreProper who first t → (s : ℕ) → s ≡ first + joins t
    → outstanding who (events.Join s ∷ t) ≡ requests.Join who.client (suc (joins t)) who.interest ∷ map submit_of (pending_of t)
outstanding_joined who first t p s e = joined_turn who first t (in_turn who first t p) s e

pub outstanding_made : (who : Identity) (first : ℕ) (t : List Event) (a : Action) → AreProper who first t → in_session t ≡ true
    → outstanding who (events.Make a ∷ t) ≡ outstanding who t ++ requests.Submit (suc (makes t)) a ∷ []
outstanding_made who first t a p j = made_turn who first t a (in_turn who first t p) j

pub outstanding_polled : (who : Identity) (first : ℕ) (t : List Event) → AreProper who first t → in_session t ≡ true
    → outstanding who (events.Poll ∷ t) ≡ outstanding who t ++ requests.Poll ∷ []
outstanding_polled who first t p j = polled_turn who first t (in_turn who first t p) j

pub outstanding_observed : (who : Identity) (first : ℕ) (t : List Event) (os : List ObjectId) (wait : ℕ) → AreProper who first t → in_session t ≡ true
    → outstanding who (events.Observe os wait ∷ t) ≡ outstanding who t ++ requests.Observe os wait ∷ []
outstanding_observed who first t os wait p j = observed_turn who first t os wait (in_turn who first t p) j

pub outstanding_left : (who : Identity) (first : ℕ) (t : List Event) → AreProper who first t → in_session t ≡ true
    → outstanding who (events.Leave ∷ t) ≡ outstanding who t ++ requests.Leave ∷ []
outstanding_left who first t p j = left_turn who first t (in_turn who first t p) j

pub outstanding_got : (who : Identity) (first : ℕ) (t : List Event) (s : ℕ) (reply : Reply) → AreProper who first t → MayGet who t s reply
    → outstanding who (events.Got s reply ∷ t) ≡ drop 1 (outstanding who t) ++ done_for (held_of t) reply
outstanding_got who first t s reply p m = got_turn who first t s reply (in_turn who first t p) m
