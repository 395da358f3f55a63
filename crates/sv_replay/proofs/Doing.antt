-- What a player's event does over its session's connection.
use Rattle.std.proofs.Common.{◌≡◌, inl, inr, ℕ, zero, suc, ◌+◌, ◌-◌, ◌≤◌, Bool, true, false, ◌&&◌, ◌||◌, not, ◌==◌, List, [], ◌∷◌, ◌++◌, Option, Some, None, option_map, refl, sym, ap, subst, ◌∙◌, arith, eqb-true, eq-eqb}
use Rattle.std.specs.Prelude.{if◌then◌else◌, unwrap_or}
use Rattle.std.specs.List.{list_any}
use Rattle.std.proofs.lemmas.Bool.{or_left}
use Rattle.std.proofs.lemmas.List.{append-nil}
use Rattle.sv_wire.specs.declared.message.Request.{Request}
use Rattle.sv_wire.specs.declared.message.Reply.{Reply}
use Rattle.sv_client.specs.declared.trace.Event.{Event}
use Rattle.sv_client.specs.declared.trace.Event.TheVariants as events
use Rattle.sv_client.specs.Traces.{joins, is_join, current_session, is_session, asked, asked_by_event, got}
use Rattle.sv_client.specs.Taking.{Identity}
use Rattle.sv_client.specs.Proper.{AreProper}
use Rattle.sv_client.specs.Seen.{raised, latest_session, newly_asked}
use Rattle.sv_client.proofs.Shifts.{Up, up_joins, up_current}
use Rattle.sv_client.proofs.Sessions.{session_after, current_is}
use Rattle.sv_scenario.specs.declared.scenario.Step.{Step}
use Rattle.sv_script.specs.Laws.{is_got}
use Rattle.sv_script.specs.Following.{must_join}
use Rattle.law_system.specs.Fits.{is_join_of}
use Rattle.law_system.specs.Outcomes.{is_quit}
use Rattle.law_system.proofs.Asked.{current-joined}
use Rattle.law_schedule.specs.Players.{Player, open_session, has_closed}
use Rattle.sv_replay.specs.Players.{session_of, asked_by_player, IsFit, Moves, is_closing}
use Rattle.sv_replay.proofs.Places.{place_between, place_within}
use Rattle.sv_replay.proofs.Events.{up_must, either_way, asks_up, asks_got, gets_none, gets_one, not_begun, keeps_closed, closes_now, begins_one}

-- A player by its client's own events.
abbrev pub player : Identity → ℕ → List Event → List Step → Bool → Player
player who first t left closed = record { who = who; first = first; events = Up first t; left = left; closed = closed }

-- ---- The session that a player is in

latest_from : (o : Option ℕ) (first j : ℕ) → option_map (λ k. k + first) o ≡ session_after first j → 1 ≤ j → unwrap_or o 0 + first ≡ (first + j) - 1
latest_from o first zero e l = absurd (omega arith)
latest_from None first (suc j) e l = cc
latest_from (Some n) first (suc j) e l = let same : n + first ≡ first + j = cc in omega arith

some_from : (first j : ℕ) → 1 ≤ j → session_after first j ≡ Some ((first + j) - 1)
some_from first zero l = absurd (omega arith)
some_from first (suc j) l = let same : first + j ≡ (first + suc j) - 1 = omega arith in ap (λ n. Some n) same

-- In a session it is the one that was begun last.
pub session_current : (p : Player) → AreProper p.who p.first p.events → must_join p.events ≡ false → 1 ≤ joins p.events → current_session p.events ≡ Some (session_of p)
session_current p proper m l = current_is p.who p.first p.events proper ∙ some_from p.first (joins p.events) l ∙ ap (λ n. Some n) (sym (place_within p m))

pub session_latest : (who : Identity) (first : ℕ) (t : List Event) (left : List Step) (closed : Bool) → AreProper who first (Up first t) → must_join t ≡ false → 1 ≤ joins (Up first t) →
    latest_session t + first ≡ session_of (player who first t left closed)
session_latest who first t left closed proper m l =
    latest_from (current_session t) first (joins (Up first t)) (sym (up_current first t) ∙ current_is who first (Up first t) proper) l
    ∙ sym (place_within (player who first t left closed) (up_must first t ∙ m))

-- ---- Events

-- A join is of the next session, and comes where one is needed.
pub record JoinsNext (t : List Event) (e : Event) : Type 0 where
  pub needed : is_join e ≡ must_join t
  pub next : (n : ℕ) → e ≡ events.Join n → n ≡ joins t

module _ (who : Identity) (first : ℕ) (t : List Event) (left : List Step) (fit : IsFit 64 (player who first t left false)) where
  abbrev old : Player
  old = player who first t left false

  abbrev after : Event → List Step → Player
  after e rest = player who first (e ∷ t) rest (is_quit e)

  in_it : must_join t ≡ false → current_session (Up first t) ≡ Some (session_of old)
  in_it m = session_current old fit.proper (up_must first t ∙ m) (fit.begun (up_must first t ∙ m))

  joined_it : must_join t ≡ false → list_any (is_join_of (session_of old)) (Up first t) ≡ true
  joined_it m = current-joined (Up first t) (session_of old) (in_it m)

  last_is : must_join t ≡ false → latest_session t + first ≡ session_of old
  last_is m = session_latest who first t left false fit.proper m (fit.begun (up_must first t ∙ m))

  next_is : (n : ℕ) → JoinsNext t (events.Join n) → n + first ≡ session_of old
  next_is n j =
      let next : n ≡ joins t = j.next n refl in
      let count : joins (Up first t) ≡ joins t = up_joins first t in
      let here : session_of old ≡ first + joins (Up first t) = place_between old (up_must first t ∙ sym j.needed) in
      omega arith

  place_is : (e : Event) → JoinsNext t e → latest_session (e ∷ t) + first ≡ session_of old
  place_is (events.Join n) j = next_is n j
  place_is (events.Make a) j = last_is (sym j.needed)
  place_is events.Poll j = last_is (sym j.needed)
  place_is (events.Observe objects wait) j = last_is (sym j.needed)
  place_is events.Leave j = last_is (sym j.needed)
  place_is (events.Got n reply) j = last_is (sym j.needed)
  place_is events.Cut j = last_is (sym j.needed)
  place_is events.Quit j = last_is (sym j.needed)
  place_is (events.Show os) j = last_is (sym j.needed)

  open_is : must_join t ≡ false → open_session old ≡ current_session (Up first t)
  open_is m = rw (up_must first t ∙ m) refl

  open_none : must_join t ≡ true → open_session old ≡ None
  open_none m = rw (up_must first t ∙ m) refl

  kept : must_join t ≡ false → (s : ℕ) → (list_any (is_join_of s) (Up first t) && not (is_session (current_session (Up first t)) s))
      ≡ (has_closed s old || (if session_of old == s then false else false))
  kept m s = keeps_closed (list_any (is_join_of s) (Up first t) && not (is_session (current_session (Up first t)) s)) (session_of old == s)
      ∙ ap (λ (o : Option ℕ). (list_any (is_join_of s) (Up first t) && not (is_session o s)) || (if session_of old == s then false else false)) (sym (open_is m))

  shut : must_join t ≡ false → (s : ℕ) → (list_any (is_join_of s) (Up first t) && true) ≡ (has_closed s old || (if session_of old == s then true else false))
  shut m s =
      let there : (session_of old == s) ≡ true → list_any (is_join_of s) (Up first t) ≡ true = λ e. subst (λ n. list_any (is_join_of n) (Up first t) ≡ true) (eqb-true (session_of old) s e) (joined_it m) in
      closes_now (list_any (is_join_of s) (Up first t)) (session_of old == s) there
      ∙ ap (λ (o : Option ℕ). (list_any (is_join_of s) (Up first t) && not (is_session o s)) || (if session_of old == s then true else false)) (sym (open_is m ∙ in_it m))

  begins : (n : ℕ) → JoinsNext t (events.Join n) → (s : ℕ) → ((n + first == s || list_any (is_join_of s) (Up first t)) && not (n + first == s))
      ≡ (has_closed s old || (if session_of old == s then false else false))
  begins n j s =
      let here : session_of old ≡ first + joins (Up first t) = place_between old (up_must first t ∙ sym j.needed) in
      let fresh : (n + first == s) ≡ true → list_any (is_join_of s) (Up first t) ≡ false =
      λ e. not_begun who first (Up first t) fit.proper s (let same : n + first ≡ s = eqb-true (n + first) s e in let next : n + first ≡ session_of old = next_is n j in omega arith) in
      begins_one (list_any (is_join_of s) (Up first t)) (n + first == s) fresh
      ∙ ap (λ (k : ℕ). (list_any (is_join_of s) (Up first t) && true) || (if k == s then false else false)) (next_is n j)
      ∙ ap (λ (o : Option ℕ). (list_any (is_join_of s) (Up first t) && not (is_session o s)) || (if session_of old == s then false else false)) (sym (open_none (sym j.needed)))

  closes : (e : Event) → JoinsNext t e → is_got e ≡ false → (rest : List Step) → (s : ℕ) →
      has_closed s (after e rest) ≡ (has_closed s old || (if session_of old == s then is_closing e else false))
  closes (events.Join n) j g rest s = begins n j s
  closes (events.Make a) j g rest s = kept (sym j.needed) s
  closes events.Poll j g rest s = kept (sym j.needed) s
  closes (events.Observe objects wait) j g rest s = kept (sym j.needed) s
  closes events.Leave j g rest s = kept (sym j.needed) s
  closes (events.Got n reply) j g rest s = cc
  closes events.Cut j g rest s = shut (sym j.needed) s
  closes events.Quit j g rest s = shut (sym j.needed) s
  closes (events.Show os) j g rest s = kept (sym j.needed) s

  begun_here : (e : Event) → JoinsNext t e → is_got e ≡ false → list_any (is_join_of (session_of old)) (raised first e ∷ Up first t) ≡ true
  begun_here (events.Join n) j g = or_left (n + first == session_of old) (list_any (is_join_of (session_of old)) (Up first t)) (eq-eqb (n + first) (session_of old) (next_is n j))
  begun_here (events.Make a) j g = joined_it (sym j.needed)
  begun_here events.Poll j g = joined_it (sym j.needed)
  begun_here (events.Observe objects wait) j g = joined_it (sym j.needed)
  begun_here events.Leave j g = joined_it (sym j.needed)
  begun_here (events.Got n reply) j g = cc
  begun_here events.Cut j g = joined_it (sym j.needed)
  begun_here events.Quit j g = joined_it (sym j.needed)
  begun_here (events.Show os) j g = joined_it (sym j.needed)

  asks_here : (e : Event) → JoinsNext t e → is_got e ≡ false → (s : ℕ) →
      asked who.client who.interest (Up first t) s ++ asked_by_event who.client who.interest (Up first t) (raised first e) s
      ≡ asked who.client who.interest (Up first t) s ++ (if session_of old == s then newly_asked who t e else [])
  asks_here e j g s = ap (λ (rs : List Request). asked who.client who.interest (Up first t) s ++ rs)
      (asks_up who first t e g s ∙ ap (λ (n : ℕ). if n == s then newly_asked who t e else []) (place_is e j))

  -- Each event but a Got asks over its session's connection, and a Cut or a Quit closes its end.
  pub event_moves : (e : Event) → JoinsNext t e → is_got e ≡ false → (rest : List Step) →
      Moves (session_of old) old (after e rest) (newly_asked who t e) [] (is_closing e)
  event_moves e j g rest = record {
    asks = asks_here e j g;
    gets = gets_none first (Up first t) e g (session_of old);
    closes = closes e j g rest;
    begun = inl (begun_here e j g);
  }

  -- Closing the link for good is no event.
  pub close_moves : must_join t ≡ false → Moves (session_of old) old (record old { closed = true }) [] [] true
  close_moves m = record {
    asks = λ s. sym (ap (λ (rs : List Request). asked who.client who.interest (Up first t) s ++ rs) (either_way (session_of old == s) []) ∙ append-nil (asked who.client who.interest (Up first t) s));
    gets = λ s. sym (ap (λ (rs : List Reply). got (Up first t) s ++ rs) (either_way (session_of old == s) []) ∙ append-nil (got (Up first t) s));
    closes = shut m;
    begun = inl (joined_it m);
  }

  -- A reply of the last session is got, and asks over its connection.
  pub got_moves : must_join t ≡ false → (m : ℕ) (reply : Reply) → m ≡ latest_session t →
      Moves (session_of old) old (player who first (events.Got m reply ∷ t) left false) (newly_asked who t (events.Got m reply)) (reply ∷ []) false
  got_moves j m reply e = record {
    asks = λ s. ap (λ (rs : List Request). asked who.client who.interest (Up first t) s ++ rs)
        (asks_got who first t m reply e s ∙ ap (λ (n : ℕ). if n == s then newly_asked who t (events.Got m reply) else []) (ap (λ n. n + first) e ∙ last_is j));
    gets = λ s. gets_one (Up first t) (m + first) reply s ∙ ap (λ (n : ℕ). got (Up first t) s ++ (if n == s then reply ∷ [] else [])) (ap (λ n. n + first) e ∙ last_is j);
    closes = kept j;
    begun = inl (joined_it j);
  }

-- A player that does nothing.
pub still_moves : (p : Player) → Moves (session_of p) p p [] [] false
still_moves p = record {
  asks = λ s. sym (ap (λ (rs : List Request). asked_by_player p s ++ rs) (either_way (session_of p == s) []) ∙ append-nil (asked_by_player p s));
  gets = λ s. sym (ap (λ (rs : List Reply). got p.events s ++ rs) (either_way (session_of p == s) []) ∙ append-nil (got p.events s));
  closes = λ s. keeps_closed (has_closed s p) (session_of p == s);
  begun = inr (refl, refl);
}

-- Steps left are no matter for the connection.
pub left_moves : (p : Player) (left : List Step) → Moves (session_of p) p (record p { left = left }) [] [] false
left_moves p left = record { asks = (still_moves p).asks; gets = (still_moves p).gets; closes = (still_moves p).closes; begun = inr (refl, refl) }
