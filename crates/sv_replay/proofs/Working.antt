-- What a turn leaves to do: less, where it found something to do.
use Rattle.std.proofs.Common.{◌≡◌, ◌⊎◌, inl, inr, ℕ, zero, suc, ◌+◌, ◌-◌, ◌<◌, ◌≤◌, Bool, true, false, ◌||◌, ◌==◌, List, [], ◌∷◌, ◌++◌, drop, length, set, slice_get, Option, Some, None, refl, sym, ap, subst, ◌∙◌, arith, eq-eqb}
use Rattle.std.specs.Prelude.{if◌then◌else◌}
use Rattle.std.specs.List.{list_any}
use Rattle.std.proofs.lemmas.Bool.{cases_Bool, cond-true, cond-false}
use Rattle.std.proofs.lemmas.List.{length-append, length-drop}
use Rattle.std.proofs.lemmas.Option.{slice_get_within}
use Rattle.sv_wire.specs.declared.message.Reply.{Reply}
use Rattle.sv_wire.specs.declared.message.Request.{Request}
use Rattle.sv_wire.specs.declared.message.Request.TheVariants as requests
use Rattle.sv_journal.specs.declared.entry.Entry.{Entry}
use Rattle.sv_journal.specs.History.{Authored, accepted, full_reply}
use Rattle.sv_journal.specs.Sessions.{is_end, is_ended}
use Rattle.sv_client.specs.declared.trace.Event.TheVariants as events
use Rattle.sv_client.specs.Traces.{current_session, got}
use Rattle.sv_client.specs.Taking.{Fault, first_fault_of_reply}
use Rattle.sv_script.specs.Following.{must_join}
use Rattle.law_system.specs.Fits.{requests_in, replies_in}
use Rattle.law_system.proofs.Entered.{is_of}
use Rattle.law_schedule.specs.Players.{Player, asked_in_run, has_closed, open_session, takes, takes_if, take_in, take_turn, at_player, repeated, does, take_turns}
use Rattle.law_schedule.specs.Serving.{Run, Server, served, is_stopped, session_served}
use Rattle.law_schedule.specs.Served.{KeepsSound}
use Rattle.law_schedule.proofs.DoneLists.{repeated-still, open-by}
use Rattle.sv_replay.specs.Machine.{after_session, after_take}
use Rattle.sv_replay.specs.Serving.{one_if}
use Rattle.sv_replay.specs.Work.{work_left, work_in, work_for, work_of_session, work_of_client, Found}
use Rattle.sv_replay.proofs.Turns.{repeated-enough, place-is, place-again, place-none}
use Rattle.sv_replay.proofs.Machines.{get_set, set_same}

-- ---- A session's turns

entry_lessens : (server : Server) (keeps : KeepsSound server) (ps : List Player) (s : ℕ) (h : List Entry) (q : Request) → is_ended h s ≡ false →
    (is_end q ≡ true) ⊎ ((is_end q ≡ false) × (length (requests_in h s) < length (asked_in_run ps s))) → work_left ps s (served server h s q) < work_left ps s h
entry_lessens server keeps ps s h q running (inl end) =
    let here : (s == s) ≡ true = eq-eqb s s refl in
    let ends : is_end (server.hears h s q) ≡ true = keeps.ends h s q ∙ end in
    let same : requests_in (served server h s q) s ≡ requests_in h s = rw (here, ends) refl in
    let ended : is_ended (served server h s q) s ≡ true = rw (here, ends) refl in
    subst (λ (n : ℕ). n < work_left ps s h)
    (sym (ap (λ (rs : List Request). length (drop (length rs) (asked_in_run ps s)) + (if is_ended (served server h s q) s then 0 else 1)) same
    ∙ ap (λ (b : Bool). length (drop (length (requests_in h s)) (asked_in_run ps s)) + (if b then 0 else 1)) ended))
    (subst (λ (b : Bool). length (drop (length (requests_in h s)) (asked_in_run ps s)) + 0 < length (drop (length (requests_in h s)) (asked_in_run ps s)) + (if b then 0 else 1)) (sym running) (omega arith))
entry_lessens server keeps ps s h q running (inr asked) =
    let here : (s == s) ≡ true = eq-eqb s s refl in
    let goes : is_end (server.hears h s q) ≡ false = keeps.ends h s q ∙ asked.0 in
    let more : requests_in (served server h s q) s ≡ requests_in h s ++ server.hears h s q ∷ [] = rw (here, goes) refl in
    let still : is_ended (served server h s q) s ≡ false = rw (here, goes) running in
    let long : length (requests_in h s ++ server.hears h s q ∷ []) ≡ length (requests_in h s) + 1 = length-append (requests_in h s) (server.hears h s q ∷ []) in
    let a : length (drop (length (requests_in h s ++ server.hears h s q ∷ [])) (asked_in_run ps s)) ≡ length (asked_in_run ps s) - length (requests_in h s ++ server.hears h s q ∷ []) = length-drop (length (requests_in h s ++ server.hears h s q ∷ [])) (asked_in_run ps s) in
    let b : length (drop (length (requests_in h s)) (asked_in_run ps s)) ≡ length (asked_in_run ps s) - length (requests_in h s) = length-drop (length (requests_in h s)) (asked_in_run ps s) in
    subst (λ (n : ℕ). n < work_left ps s h)
    (sym (ap (λ (rs : List Request). length (drop (length rs) (asked_in_run ps s)) + (if is_ended (served server h s q) s then 0 else 1)) more
    ∙ ap (λ (b : Bool). length (drop (length (requests_in h s ++ server.hears h s q ∷ [])) (asked_in_run ps s)) + (if b then 0 else 1)) still))
    (subst (λ (x : Bool). length (drop (length (requests_in h s ++ server.hears h s q ∷ [])) (asked_in_run ps s)) + 1 < length (drop (length (requests_in h s)) (asked_in_run ps s)) + (if x then 0 else 1)) (sym running)
    (omega (arith, a, b, long, asked.1)))

add_one_length : {X : Type 0} (x : X) (xs : List X) → length (x ∷ xs) ≡ length xs + 1
add_one_length x xs = omega arith

turn_lessens : (server : Server) (keeps : KeepsSound server) (ps : List Player) (s : ℕ) (h : List Entry) → (session_served server ps h s ≡ h) ⊎ (work_left ps s (session_served server ps h s) < work_left ps s h)
turn_lessens server keeps ps s h = elim (cases_Bool (is_ended h s)) [
  | inl ended ↦ inl (rw ended refl)
  | inr running ↦ elim (cases_Bool (is_stopped h s)) [
    | inl stops ↦ inr (lessens running requests.End (rw (running, stops) refl) (inl refl))
    | inr goes ↦ waits running goes (drop (length (requests_in h s)) (asked_in_run ps s)) refl
  ]
]
  where
    lessens : is_ended h s ≡ false → (q : Request) → session_served server ps h s ≡ served server h s q → (is_end q ≡ true) ⊎ ((is_end q ≡ false) × (length (requests_in h s) < length (asked_in_run ps s))) →
        work_left ps s (session_served server ps h s) < work_left ps s h
    lessens running q is kind = subst (λ (g : List Entry). work_left ps s g < work_left ps s h) (sym is) (entry_lessens server keeps ps s h q running kind)

    kind : (q : Request) (qs : List Request) → drop (length (requests_in h s)) (asked_in_run ps s) ≡ q ∷ qs → (is_end q ≡ true) ⊎ ((is_end q ≡ false) × (length (requests_in h s) < length (asked_in_run ps s)))
    kind q qs e = elim (cases_Bool (is_end q)) [
      | inl y ↦ inl y
      | inr f ↦ inr (
        f,
        (let l : length (q ∷ qs) ≡ length (asked_in_run ps s) - length (requests_in h s) = sym (ap length e) ∙ length-drop (length (requests_in h s)) (asked_in_run ps s) in
            let more : length (q ∷ qs) ≡ length qs + 1 = add_one_length q qs in omega arith),
      )
    ]

    closes : is_ended h s ≡ false → is_stopped h s ≡ false → drop (length (requests_in h s)) (asked_in_run ps s) ≡ [] → (session_served server ps h s ≡ h) ⊎ (work_left ps s (session_served server ps h s) < work_left ps s h)
    closes running goes none = elim (cases_Bool (list_any (has_closed s) ps)) [
      | inl shut ↦ inr (lessens running requests.End (rw (running, goes, none, shut) refl) (inl refl))
      | inr linked ↦ inl (rw (running, goes, none, linked) refl)
    ]

    waits : is_ended h s ≡ false → is_stopped h s ≡ false → (qs : List Request) → drop (length (requests_in h s)) (asked_in_run ps s) ≡ qs → (session_served server ps h s ≡ h) ⊎ (work_left ps s (session_served server ps h s) < work_left ps s h)
    waits running goes [] none = closes running goes none
    waits running goes (q ∷ qs) some = inr (lessens running q (rw (running, goes, some) refl) (kind q qs some))

turn_grows : (server : Server) (keeps : KeepsSound server) (ps : List Player) (s : ℕ) (h : List Entry) → (session_served server ps h s ≡ h) ⊎ (length (session_served server ps h s) ≡ length h + 1)
turn_grows server keeps ps s h = elim (cases_Bool (is_ended h s)) [
  | inl ended ↦ inl (rw ended refl)
  | inr running ↦ elim (cases_Bool (is_stopped h s)) [
    | inl stops ↦ inr (grows requests.End (rw (running, stops) refl))
    | inr goes ↦ waits running goes (drop (length (requests_in h s)) (asked_in_run ps s)) refl
  ]
]
  where
    grows : (q : Request) → session_served server ps h s ≡ served server h s q → length (session_served server ps h s) ≡ length h + 1
    grows q is = let long : length (session_served server ps h s) ≡ length (served server h s q) = ap (λ (g : List Entry). length g) is in omega (arith, long)

    closes : is_ended h s ≡ false → is_stopped h s ≡ false → drop (length (requests_in h s)) (asked_in_run ps s) ≡ [] → (session_served server ps h s ≡ h) ⊎ (length (session_served server ps h s) ≡ length h + 1)
    closes running goes none = elim (cases_Bool (list_any (has_closed s) ps)) [
      | inl shut ↦ inr (grows requests.End (rw (running, goes, none, shut) refl))
      | inr linked ↦ inl (rw (running, goes, none, linked) refl)
    ]

    waits : is_ended h s ≡ false → is_stopped h s ≡ false → (qs : List Request) → drop (length (requests_in h s)) (asked_in_run ps s) ≡ qs → (session_served server ps h s ≡ h) ⊎ (length (session_served server ps h s) ≡ length h + 1)
    waits running goes [] none = closes running goes none
    waits running goes (q ∷ qs) some = inr (grows q (rw (running, goes, some) refl))

-- A turn that entered something left less to do, and one that did not changed nothing.
pub turn_found : (server : Server) (keeps : KeepsSound server) (ps : List Player) (s : ℕ) (h g : List Entry) (found : Bool) → g ≡ session_served server ps h s → length g ≡ length h + one_if found →
    Found (work_of_session s) (record { history = h; players = ps }) (record { history = g; players = ps }) found
turn_found server keeps ps s h g true is long = elim (turn_lessens server keeps ps s h) [
  | inl e ↦ absurd (let same : length g ≡ length h = ap (λ (x : List Entry). length x) (is ∙ e) in omega (arith, long, same))
  | inr less ↦ subst (λ (x : List Entry). work_left ps s x < work_left ps s h) (sym is) less
]
turn_found server keeps ps s h g false is long = elim (turn_grows server keeps ps s h) [
  | inl e ↦ ap (λ (x : List Entry). record { history = x; players = ps }) (is ∙ e)
  | inr more ↦ absurd (let same : length g ≡ length (session_served server ps h s) = ap (λ (x : List Entry). length x) is in omega (arith, long, same, more))
]

at_most_one : (b : Bool) → (if b then 0 else 1) ≤ 1
at_most_one true = omega arith
at_most_one false = omega arith

-- A turn before all turns of a session is one of them.
pub serve_again : (server : Server) (keeps : KeepsSound server) (s : ℕ) (run : Run) → after_session server s (record run { history = session_served server run.players run.history s }) ≡ after_session server s run
serve_again server keeps s run =
    let ps = run.players in
    let h = run.history in
    let most : length (drop (length (requests_in h s)) (asked_in_run ps s)) ≡ length (asked_in_run ps s) - length (requests_in h s) = length-drop (length (requests_in h s)) (asked_in_run ps s) in
    let one : (if is_ended h s then 0 else 1) ≤ 1 = at_most_one (is_ended h s) in
    ap (λ (g : List Entry). record run { history = g })
    (repeated-enough (work_left ps s) (λ h. session_served server ps h s) (turn_lessens server keeps ps s) (suc (suc (length (asked_in_run ps s)))) (suc (length (asked_in_run ps s))) h
    (omega (arith, most, one)) (omega (arith, most, one)))

-- Where a turn changes nothing, all turns of a session change nothing.
pub serve_still : (server : Server) (s : ℕ) (run : Run) → record run { history = session_served server run.players run.history s } ≡ run → after_session server s run ≡ run
serve_still server s run e =
    ap (λ (g : List Entry). record run { history = g })
    (repeated-still (suc (length (asked_in_run run.players s))) (λ h. session_served server run.players h s) run.history (ap (λ (x : Run). x.history) e))

-- ---- Replies that wait for a player

-- A reply that is got is one fewer that waits, and the link stays open.
got_lessens : (h : List Entry) (p : Player) (s : ℕ) (reply : Reply) → open_session p ≡ Some s → slice_get (replies_in (accepted h) h s) (length (got p.events s)) ≡ Some reply →
    work_in h (does p (events.Got s reply) p.left) (open_session (does p (events.Got s reply) p.left)) < work_in h p (open_session p)
got_lessens h p s reply o e =
    let parts = open-by p.closed (must_join p.events) (current_session p.events) s o in
    let next : open_session (does p (events.Got s reply) p.left) ≡ Some s = ap (λ (b : Bool). if b || false then None else current_session p.events) parts.0 ∙ parts.1.1 in
    let grown : got (events.Got s reply ∷ p.events) s ≡ got p.events s ++ reply ∷ [] = rw (eq-eqb s s refl) refl in
    let long : length (got p.events s ++ reply ∷ []) ≡ length (got p.events s) + 1 = length-append (got p.events s) (reply ∷ []) in
    let within : length (got p.events s) < length (replies_in (accepted h) h s) = slice_get_within (replies_in (accepted h) h s) (length (got p.events s)) reply e in
    let a : length (drop (length (got p.events s ++ reply ∷ [])) (replies_in (accepted h) h s)) ≡ length (replies_in (accepted h) h s) - length (got p.events s ++ reply ∷ []) =
    length-drop (length (got p.events s ++ reply ∷ [])) (replies_in (accepted h) h s) in
    let b : length (drop (length (got p.events s)) (replies_in (accepted h) h s)) ≡ length (replies_in (accepted h) h s) - length (got p.events s) =
    length-drop (length (got p.events s)) (replies_in (accepted h) h s) in
    subst (λ (x : Option ℕ). work_in h (does p (events.Got s reply) p.left) (open_session (does p (events.Got s reply) p.left)) < work_in h p x) (sym o)
    (subst (λ (x : Option ℕ). work_in h (does p (events.Got s reply) p.left) x < length (drop (length (got p.events s)) (replies_in (accepted h) h s))) (sym next)
    (subst (λ (rs : List Reply). length (drop (length rs) (replies_in (accepted h) h s)) < length (drop (length (got p.events s)) (replies_in (accepted h) h s))) (sym grown) (omega arith)))

take_lessens : (h : List Entry) (p : Player) → (take_turn h p ≡ p) ⊎ (work_in h (take_turn h p) (open_session (take_turn h p)) < work_in h p (open_session p))
take_lessens h p = opens (open_session p) refl
  where
    fits : (s : ℕ) (reply : Reply) → open_session p ≡ Some s → slice_get (replies_in (accepted h) h s) (length (got p.events s)) ≡ Some reply → (o : Option Fault) →
        first_fault_of_reply p.who p.events reply ≡ o → (take_turn h p ≡ p) ⊎ (work_in h (take_turn h p) (open_session (take_turn h p)) < work_in h p (open_session p))
    fits s reply o e (Some fault) f = inl (ap (take_in h p) o ∙ ap (takes p s) e ∙ ap (takes_if p s reply) f)
    fits s reply o e None f =
        inr (subst (λ (q : Player). work_in h q (open_session q) < work_in h p (open_session p)) (sym (ap (take_in h p) o ∙ ap (takes p s) e ∙ ap (takes_if p s reply) f)) (got_lessens h p s reply o e))

    waits : (s : ℕ) → open_session p ≡ Some s → (r : Option Reply) → slice_get (replies_in (accepted h) h s) (length (got p.events s)) ≡ r →
        (take_turn h p ≡ p) ⊎ (work_in h (take_turn h p) (open_session (take_turn h p)) < work_in h p (open_session p))
    waits s o None e = inl (ap (take_in h p) o ∙ ap (takes p s) e)
    waits s o (Some reply) e = fits s reply o e (first_fault_of_reply p.who p.events reply) refl

    opens : (o : Option ℕ) → open_session p ≡ o → (take_turn h p ≡ p) ⊎ (work_in h (take_turn h p) (open_session (take_turn h p)) < work_in h p (open_session p))
    opens None o = inl (ap (take_in h p) o)
    opens (Some s) o = waits s o (slice_get (replies_in (accepted h) h s) (length (got p.events s))) refl

few_replies : (A : List Authored) (h : List Entry) (s : ℕ) → length (replies_in A h s) ≤ length h
few_replies A [] s = omega arith
few_replies A (e ∷ h) s = elim (cases_Bool (is_of e s)) [
  | inl y ↦ subst (λ (rs : List Reply). length rs ≤ length (e ∷ h)) (sym (cond-true (is_of e s) (replies_in A h s ++ full_reply A e.reply ∷ []) (replies_in A h s) y))
      (omega (arith, few_replies A h s, length-append (replies_in A h s) (full_reply A e.reply ∷ [])))
  | inr f ↦ subst (λ (rs : List Reply). length rs ≤ length (e ∷ h)) (sym (cond-false (is_of e s) (replies_in A h s ++ full_reply A e.reply ∷ []) (replies_in A h s) f))
      (omega (arith, few_replies A h s))
]

few_waiting : (h : List Entry) (p : Player) (o : Option ℕ) → work_in h p o ≤ length h
few_waiting h p None = omega arith
few_waiting h p (Some s) = omega (arith, length-drop (length (got p.events s)) (replies_in (accepted h) h s), few_replies (accepted h) h s)

took_more : (p : Player) (s : ℕ) (reply : Reply) → length (does p (events.Got s reply) p.left).events ≡ length p.events + 1
took_more p s reply = omega arith

take_grows : (h : List Entry) (p : Player) → (take_turn h p ≡ p) ⊎ (length (take_turn h p).events ≡ length p.events + 1)
take_grows h p = opens (open_session p) refl
  where
    grows : (s : ℕ) (reply : Reply) → take_turn h p ≡ does p (events.Got s reply) p.left → length (take_turn h p).events ≡ length p.events + 1
    grows s reply is = ap (λ (q : Player). length q.events) is ∙ took_more p s reply

    fits : (s : ℕ) (reply : Reply) → open_session p ≡ Some s → slice_get (replies_in (accepted h) h s) (length (got p.events s)) ≡ Some reply → (o : Option Fault) →
        first_fault_of_reply p.who p.events reply ≡ o → (take_turn h p ≡ p) ⊎ (length (take_turn h p).events ≡ length p.events + 1)
    fits s reply o e (Some fault) f = inl (ap (take_in h p) o ∙ ap (takes p s) e ∙ ap (takes_if p s reply) f)
    fits s reply o e None f = inr (grows s reply (ap (take_in h p) o ∙ ap (takes p s) e ∙ ap (takes_if p s reply) f))

    waits : (s : ℕ) → open_session p ≡ Some s → (r : Option Reply) → slice_get (replies_in (accepted h) h s) (length (got p.events s)) ≡ r →
        (take_turn h p ≡ p) ⊎ (length (take_turn h p).events ≡ length p.events + 1)
    waits s o None e = inl (ap (take_in h p) o ∙ ap (takes p s) e)
    waits s o (Some reply) e = fits s reply o e (first_fault_of_reply p.who p.events reply) refl

    opens : (o : Option ℕ) → open_session p ≡ o → (take_turn h p ≡ p) ⊎ (length (take_turn h p).events ≡ length p.events + 1)
    opens None o = inl (ap (take_in h p) o)
    opens (Some s) o = waits s o (slice_get (replies_in (accepted h) h s) (length (got p.events s))) refl

-- A turn that took a reply left fewer, and one that did not changed nothing.
pub take_found : (h : List Entry) (ps : List Player) (k : ℕ) (p q : Player) (found : Bool) → slice_get ps k ≡ Some p → q ≡ take_turn h p → length q.events ≡ length p.events + one_if found →
    Found (work_of_client k) (record { history = h; players = ps }) (record { history = h; players = set ps k q }) found
take_found h ps k p q true at is long = elim (take_lessens h p) [
  | inl e ↦ absurd (let same : length q.events ≡ length p.events = ap (λ (x : Player). length x.events) (is ∙ e) in omega (arith, long, same))
  | inr less ↦
      subst (λ (o : Option Player). work_for h (slice_get (set ps k q) k) < work_for h o) (sym at)
      (subst (λ (o : Option Player). work_for h o < work_for h (Some p)) (sym (get_set ps k p q at)) (subst (λ (x : Player). work_for h (Some x) < work_for h (Some p)) (sym is) less))
]
take_found h ps k p q false at is long = elim (take_grows h p) [
  | inl e ↦ ap (λ (xs : List Player). record { history = h; players = xs }) (set_same ps k p q at (is ∙ e))
  | inr more ↦ absurd (let same : length q.events ≡ length (take_turn h p).events = ap (λ (x : Player). length x.events) is in omega (arith, long, same, more))
]

place_out : (f : Player → Player) (ps : List Player) (k : ℕ) → slice_get ps k ≡ None → at_player ps k f ≡ ps
place_out f [] k e = refl
place_out f (p ∷ ps) zero e = cc
place_out f (p ∷ ps) (suc k) e = ap (λ (qs : List Player). p ∷ qs) (place_out f ps k e)

-- A turn before all takes of a client is one of them.
pub take_again : (k : ℕ) (run : Run) → after_take k (record run { players = at_player run.players k (take_turn run.history) }) ≡ after_take k run
take_again k run = ap (λ (ps : List Player). record run { players = ps }) (place-again (length h) (take_turn h) run.players k ∙ one_more (slice_get run.players k) refl)
  where
    h : List Entry
    h = run.history

    one_more : (o : Option Player) → slice_get run.players k ≡ o → at_player run.players k (repeated (suc (length h)) (take_turn h)) ≡ at_player run.players k (take_turns h)
    one_more None none = place_out (repeated (suc (length h)) (take_turn h)) run.players k none ∙ sym (place_out (take_turns h) run.players k none)
    one_more (Some p) at =
        let few = few_waiting h p (open_session p) in
        place-is (repeated (suc (length h)) (take_turn h)) run.players k p at
        ∙ ap (λ (q : Player). set run.players k q)
        (repeated-enough (λ (q : Player). work_in h q (open_session q)) (take_turn h) (take_lessens h) (suc (length h)) (length h) p few (omega (arith, few)))
        ∙ sym (place-is (take_turns h) run.players k p at)

-- Where a turn changes nothing, all takes of a client change nothing.
pub take_still : (k : ℕ) (run : Run) → record run { players = at_player run.players k (take_turn run.history) } ≡ run → after_take k run ≡ run
take_still k run e = ap (λ (ps : List Player). record run { players = ps }) (stays (length run.history) (take_turn run.history) run.players (ap (λ (x : Run). x.players) e))
  where
    stays : (n : ℕ) (f : Player → Player) (ps : List Player) → at_player ps k f ≡ ps → at_player ps k (repeated n f) ≡ ps
    stays zero f ps e = place-none f ps k
    stays (suc n) f ps e = sym (place-again n f ps k) ∙ ap (λ (qs : List Player). at_player qs k (repeated n f)) e ∙ stays n f ps e

-- ---- Whether a turn found something

pub found_less : (work : Run → ℕ) (old new : Run) (found : Bool) → found ≡ true → Found work old new found → work new < work old
found_less work old new true e f = f
found_less work old new false e f = cc

pub found_none : (work : Run → ℕ) (old new : Run) (found : Bool) → found ≡ false → Found work old new found → new ≡ old
found_none work old new true e f = cc
found_none work old new false e f = f
