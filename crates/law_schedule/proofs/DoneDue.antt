-- A session had its End only where its loop had stopped before, or its client's end was closed.
use Rattle.std.proofs.Common.{◌≡◌, ℕ, zero, suc, Bool, true, false, ◌&&◌, ◌||◌, ◌==◌, not, ◌⊎◌, inl, inr, List, [], ◌∷◌, map, length, drop, refl, sym, ap, ◌∙◌, subst, eqb-true, true≢false}
use Rattle.std.specs.Prelude.{is_some}
use Rattle.std.specs.List.{list_any, AllByRecursion}
use Rattle.std.proofs.lemmas.Bool.{cases_Bool, and_parts, and_from, or_cases, or_left, or_right, not_from_false, or_parts}
use Rattle.std.proofs.lemmas.List.Concat.{flat_map-cons}
use Rattle.sv_pending.specs.Pending.{PendingAction}
use Rattle.sv_versions.specs.Held.{Held}
use Rattle.sv_world.specs.declared.world.ClientId.{ClientId}
use Rattle.sv_world.specs.declared.world.ObjectId.{ObjectId}
use Rattle.sv_wire.specs.declared.message.Request.{Request}
use Rattle.sv_wire.specs.declared.message.Request.TheVariants as requests
use Rattle.sv_wire.specs.declared.message.Reply.{Reply}
use Rattle.sv_wire.specs.declared.message.Reply.TheVariants as replies
use Rattle.sv_journal.specs.declared.entry.Entry.{Entry}
use Rattle.sv_journal.specs.Sessions.{is_end, is_ended}
use Rattle.sv_session.specs.Requests.{stop_of}
use Rattle.sv_client.specs.declared.trace.Event.{Event}
use Rattle.sv_client.specs.declared.trace.Event.TheVariants as events
use Rattle.sv_client.specs.Traces.{submit_of, pending_of, held_of, done_for, is_session, current_session, makes, joins, asked_by_event, asked}
use Rattle.law_system.specs.Fits.{requests_in}
use Rattle.law_system.proofs.Every.{each-append, each-if}
use Rattle.law_schedule.specs.Players.{Player, asked_in_run, has_closed}
use Rattle.law_schedule.specs.Serving.{Server, served, is_stopped, session_served, all_served, sessions_served}
use Rattle.law_schedule.proofs.DoneGiven.{HearsEnds}
use Rattle.law_schedule.proofs.DoneLists.{repeated-keeps}
use Rattle.law_schedule.proofs.DoneSessions.{is_spent, IsTurn, over, stops, steps, closes, waits, turn-is, other-turn}

-- ---- No client asks an End

abbrev AreAsked : List Request → Type 0
AreAsked qs = AllByRecursion (λ (q : Request). is_end q ≡ false) qs

submits-asked : (ps : List PendingAction) → AreAsked (map submit_of ps)
submits-asked [] = tt
submits-asked (p ∷ ps) = (refl, submits-asked ps)

done-asked : (held : List Held) (reply : Reply) → AreAsked (done_for held reply)
done-asked held (replies.Relay seq commit head items) = (refl, tt)
done-asked held (replies.Welcome commit head) = tt
done-asked held (replies.Dropped seq chain far) = tt
done-asked held (replies.Denied seq object) = tt
done-asked held (replies.Seen last commit head []) = tt
done-asked held (replies.Seen last commit head (item ∷ items)) = (refl, tt)
done-asked held (replies.Settled seq pos) = tt
done-asked held (replies.Noted commit) = tt
done-asked held replies.Idle = tt
done-asked held (replies.Refused code detail) = tt
done-asked held replies.Bye = tt

event-asked : (client : ClientId) (interest : List ObjectId) (t : List Event) (e : Event) (s : ℕ) → AreAsked (asked_by_event client interest t e s)
event-asked client interest t (events.Join n) s =
    each-if (λ (q : Request). is_end q ≡ false) (n == s) (requests.Join client (suc (joins t)) interest ∷ map submit_of (pending_of t)) (refl, submits-asked (pending_of t))
event-asked client interest t (events.Make action) s = each-if (λ (q : Request). is_end q ≡ false) (is_session (current_session t) s) (requests.Submit (suc (makes t)) action ∷ []) (refl, tt)
event-asked client interest t events.Poll s = each-if (λ (q : Request). is_end q ≡ false) (is_session (current_session t) s) (requests.Poll ∷ []) (refl, tt)
event-asked client interest t (events.Observe objects wait) s = each-if (λ (q : Request). is_end q ≡ false) (is_session (current_session t) s) (requests.Observe objects wait ∷ []) (refl, tt)
event-asked client interest t events.Leave s = each-if (λ (q : Request). is_end q ≡ false) (is_session (current_session t) s) (requests.Leave ∷ []) (refl, tt)
event-asked client interest t (events.Got n reply) s = each-if (λ (q : Request). is_end q ≡ false) (n == s) (done_for (held_of t) reply) (done-asked (held_of t) reply)
event-asked client interest t events.Cut s = tt
event-asked client interest t events.Quit s = tt
event-asked client interest t (events.Show objects) s = tt

all-asked : (client : ClientId) (interest : List ObjectId) (t : List Event) (s : ℕ) → AreAsked (asked client interest t s)
all-asked client interest [] s = tt
all-asked client interest (e ∷ t) s =
    each-append (λ (q : Request). is_end q ≡ false) (asked client interest t s) (asked_by_event client interest t e s) (all-asked client interest t s) (event-asked client interest t e s)

run-asked : (ps : List Player) (s : ℕ) → AreAsked (asked_in_run ps s)
run-asked [] s = tt
run-asked (p ∷ ps) s =
    subst AreAsked (sym (flat_map-cons (λ (p : Player). asked p.who.client p.who.interest p.events s) p ps))
    (each-append (λ (q : Request). is_end q ≡ false) (asked p.who.client p.who.interest p.events s) (asked_in_run ps s) (all-asked p.who.client p.who.interest p.events s) (run-asked ps s))

drop-asked : (n : ℕ) (qs : List Request) → AreAsked qs → AreAsked (drop n qs)
drop-asked zero qs a = a
drop-asked (suc n) [] a = tt
drop-asked (suc n) (q ∷ qs) a = drop-asked n qs a.1

pub next-asked : (ps : List Player) (s n : ℕ) (q : Request) (rest : List Request) → drop n (asked_in_run ps s) ≡ q ∷ rest → is_end q ≡ false
next-asked ps s n q rest e = (subst AreAsked e (drop-asked n (asked_in_run ps s) (run-asked ps s))).0

-- ---- Ends that are due

-- A session that had its End was spent before, or its client's end is closed.
abbrev pub EndsAreDue : List Player → List Entry → Type 0
EndsAreDue ps h = (s : ℕ) → is_ended h s ≡ true → (is_spent h s ≡ true) ⊎ (list_any (has_closed s) ps ≡ true)

pub spent-first : (h : List Entry) (s : ℕ) → is_ended h s ≡ false → is_stopped h s ≡ true → is_spent h s ≡ true
spent-first [] s n c = cc
spent-first (e ∷ h) s n c =
    let later = spent-first h s in
    let here = (e.session == s && not (is_end e.request)) && is_some (stop_of e.reply) in
    let none = or_parts (e.session == s && is_end e.request) (is_ended h s) n in
    elim (or_cases (e.session == s && is_some (stop_of e.reply)) (is_stopped h s) c) [
      | inr x ↦ or_right here (is_spent h s) (later none.1 x)
      | inl x ↦
          (let p = and_parts (e.session == s) (is_some (stop_of e.reply)) x in
          or_left here (is_spent h s) (and_from (e.session == s && not (is_end e.request)) (is_some (stop_of e.reply))
          (and_from (e.session == s) (not (is_end e.request)) p.0 (not_from_false (is_end e.request) (other-false (e.session == s) (is_end e.request) p.0 none.0))) p.1))
    ]
  where
    other-false : (a b : Bool) → a ≡ true → (a && b) ≡ false → b ≡ false
    other-false true b x y = y
    other-false false b x y = absurd (true≢false (sym x))

module _ (server : Server) (ps : List Player) (hears : HearsEnds server) where
  spent-more : (h : List Entry) (s : ℕ) (q : Request) → is_spent h s ≡ true → is_spent (served server h s q) s ≡ true
  spent-more h s q e = or_right _ (is_spent h s) e

  due-turned : (s : ℕ) (h g : List Entry) → IsTurn server ps s h g → EndsAreDue ps h → is_ended g s ≡ true → (is_spent g s ≡ true) ⊎ (list_any (has_closed s) ps ≡ true)
  due-turned s h g (over e f) d x = subst (λ (j : List Entry). (is_spent j s ≡ true) ⊎ (list_any (has_closed s) ps ≡ true)) (sym f) (d s e)
  due-turned s h g (stops e c f) d x = inl (ap (λ (j : List Entry). is_spent j s) f ∙ spent-more h s requests.End (spent-first h s e c))
  due-turned s h g (closes e n c f) d x = inr c
  due-turned s h g (waits c n k f) d x =
      subst (λ (j : List Entry). (is_spent j s ≡ true) ⊎ (list_any (has_closed s) ps ≡ true)) (sym f) (d s (sym (ap (λ (j : List Entry). is_ended j s) f) ∙ x))
  due-turned s h g (steps e c q rest n f) d x =
      (let now : ((s == s && is_end (server.hears h s q)) || is_ended h s) ≡ true = sym (ap (λ (j : List Entry). is_ended j s) f) ∙ x in
      elim (or_cases (s == s && is_end (server.hears h s q)) (is_ended h s) now) [
        | inl y ↦ absurd (true≢false (sym (sym (hears h s q) ∙ (and_parts (s == s) (is_end (server.hears h s q)) y).1) ∙ next-asked ps s (length (requests_in h s)) q rest n))
        | inr y ↦ absurd (true≢false (sym y ∙ e))
      ])

  -- A session's turn keeps that.
  pub due-turn : (t : ℕ) (h : List Entry) → EndsAreDue ps h → EndsAreDue ps (session_served server ps h t)
  due-turn t h d s x =
      elim (cases_Bool (t == s)) [
        | inl y ↦ due-turned s h (session_served server ps h t)
            (subst (λ (n : ℕ). IsTurn server ps n h (session_served server ps h t)) (eqb-true t s y) (turn-is server ps t h)) d x
        | inr y ↦
            (let same = other-turn server ps s t h y in
            elim (d s (sym same.ended ∙ x)) [ inl z ↦ inl (same.spent ∙ z) | inr z ↦ inr z ])
      ]

  -- So do the sessions' turns of a round.
  pub due-round : (ss : List ℕ) (h : List Entry) → EndsAreDue ps h → EndsAreDue ps (sessions_served server ps h ss)
  due-round [] h d = d
  due-round (t ∷ ss) h d =
      due-round ss (all_served server ps h t)
      (repeated-keeps (EndsAreDue ps) (λ (g : List Entry). session_served server ps g t) (due-turn t) (suc (length (asked_in_run ps t))) h d)
