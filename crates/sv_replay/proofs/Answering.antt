-- A session's turn keeps each connection in step with the run.
use Rattle.std.proofs.Common.{◌≡◌, ◌⊎◌, inl, inr, ℕ, ◌+◌, ◌-◌, ◌≤◌, Bool, true, false, ◌&&◌, ◌||◌, ◌==◌, List, [], ◌∷◌, ◌++◌, drop, length, refl, sym, ap, subst, ◌∙◌, arith, eq-eqb}
use Rattle.std.specs.Prelude.{is_some, if◌then◌else◌}
use Rattle.std.specs.List.{list_any}
use Rattle.std.proofs.lemmas.Bool.{cases_Bool, cond-true, cond-false}
use Rattle.std.proofs.lemmas.List.{drop-append-le, drop-drop, length-append, length-drop}
use mathlib.Core.Bool.{or-false}
use Rattle.sv_wire.specs.declared.message.Reply.{Reply}
use Rattle.sv_wire.specs.declared.message.Request.{Request}
use Rattle.sv_wire.specs.declared.message.Request.TheVariants as requests
use Rattle.sv_journal.specs.declared.entry.Entry.{Entry}
use Rattle.sv_journal.specs.History.{accepted}
use Rattle.sv_journal.specs.Sessions.{is_end, is_ended}
use Rattle.sv_session.specs.Requests.{stop_of}
use Rattle.law_system.specs.Fits.{requests_in, replies_in}
use Rattle.law_system.proofs.Entered.{is_of, of-from}
use Rattle.law_schedule.specs.Players.{Player, asked_in_run, has_closed}
use Rattle.law_schedule.specs.Serving.{Run, Server, entry_by, served, serves_next, is_stopped, session_served}
use Rattle.law_schedule.specs.Served.{RepliesNameAccepted, KeepsSound}
use Rattle.sv_exchange.specs.View.{ExchangeView}
use Rattle.law_schedule.proofs.DoneDue.{next-asked}
use Rattle.sv_replay.specs.Players.{got_in_run, IsChannel}
use Rattle.sv_replay.specs.Serving.{whole_reply, next_history, next_channel}
use Rattle.sv_replay.proofs.Served.{replies_stay, next_ended, next_stopped, next_closed, next_idle, next_asked}

abbrev pub run_at : List Entry → List Player → Run
run_at h ps = record { history = h; players = ps }

-- ---- Entries

module _ (server : Server) (keeps : KeepsSound server) (h : List Entry) (ps : List Player) (s : ℕ) (q : Request) (named : RepliesNameAccepted h) where
  abbrev e : Entry
  e = entry_by server h s q

  not_of_requests : (n : ℕ) → is_of e n ≡ false → requests_in (e ∷ h) n ≡ requests_in h n
  not_of_requests n f = cond-false (is_of e n) (requests_in h n ++ server.hears h s q ∷ []) (requests_in h n) f

  not_of_replies : (n : ℕ) → is_of e n ≡ false → replies_in (accepted (e ∷ h)) (e ∷ h) n ≡ replies_in (accepted h) h n
  not_of_replies n f =
      cond-false (is_of e n) (replies_in (accepted (e ∷ h)) h n ++ whole_reply server h s q ∷ []) (replies_in (accepted (e ∷ h)) h n) f
      ∙ sym (replies_stay e h n named)

  -- An entry that adds no request and no reply to a session.
  not_of_channel : (n : ℕ) (c : ExchangeView) (stopped : Bool) → is_of e n ≡ false → stopped ≡ is_stopped (e ∷ h) n → IsChannel (run_at h ps) n c → IsChannel (run_at (e ∷ h) ps) n (record c { stopped = stopped })
  not_of_channel n c stopped f stop is =
      let asks = not_of_requests n f in
      let gives = not_of_replies n f in
      record {
        asked = subst (λ (rs : List Request). length rs ≤ length (asked_in_run ps n)) (sym asks) is.asked;
        requests = is.requests ∙ ap (λ (rs : List Request). drop (length rs) (asked_in_run ps n)) (sym asks);
        got = subst (λ (rs : List Reply). length (got_in_run ps n) ≤ length rs) (sym gives) is.got;
        replies = is.replies ∙ ap (λ (rs : List Reply). drop (length (got_in_run ps n)) rs) (sym gives);
        closed = is.closed;
        stopped = stop;
      }

  -- Entries of other sessions.
  pub other_entry : (n : ℕ) (c : ExchangeView) → (s == n) ≡ false → IsChannel (run_at h ps) n c → IsChannel (run_at (e ∷ h) ps) n c
  other_entry n c f is = not_of_channel n c c.stopped (rw f refl) (is.stopped ∙ sym (rw f refl)) is

  -- An End.
  pub end_entry : (c : ExchangeView) → q ≡ requests.End → IsChannel (run_at h ps) s c → IsChannel (run_at (e ∷ h) ps) s (record c { stopped = true })
  end_entry c end is =
      let here : (s == s) ≡ true = eq-eqb s s refl in
      let ends : is_end (server.hears h s q) ≡ true = keeps.ends h s q ∙ ap is_end end in
      let stops : is_some (stop_of (server.answers h s q)) ≡ true = ap (λ (x : Request). is_some (stop_of (server.answers h s x))) end ∙ ap (λ l. is_some (stop_of l)) (keeps.bye h s) in
      not_of_channel s c true (rw (here, ends) refl) (sym (rw (here, stops) refl)) is

  -- The first request that waits, with its reply.
  pub asked_entry : (c : ExchangeView) (qs : List Request) → c.requests ≡ q ∷ qs → is_stopped h s ≡ false → IsChannel (run_at h ps) s c →
      IsChannel (run_at (e ∷ h) ps) s (record c { requests = qs; replies = c.replies ++ whole_reply server h s q ∷ []; stopped = is_some (stop_of (server.answers h s q)) })
  asked_entry c qs waits running is =
      let left : drop (length (requests_in h s)) (asked_in_run ps s) ≡ q ∷ qs = sym is.requests ∙ waits in
      let asked : is_end q ≡ false = next-asked ps s (length (requests_in h s)) q qs left in
      let of_it : is_of e s ≡ true = of-from e s refl (keeps.ends h s q ∙ asked) in
      let asks : requests_in (e ∷ h) s ≡ requests_in h s ++ server.hears h s q ∷ [] = cond-true (is_of e s) (requests_in h s ++ server.hears h s q ∷ []) (requests_in h s) of_it in
      let gives : replies_in (accepted (e ∷ h)) (e ∷ h) s ≡ replies_in (accepted h) h s ++ whole_reply server h s q ∷ [] =
      cond-true (is_of e s) (replies_in (accepted (e ∷ h)) h s ++ whole_reply server h s q ∷ []) (replies_in (accepted (e ∷ h)) h s) of_it
      ∙ ap (λ (rs : List Reply). rs ++ whole_reply server h s q ∷ []) (sym (replies_stay e h s named)) in
      let one : length (requests_in h s ++ server.hears h s q ∷ []) ≡ length (requests_in h s) + 1 = length-append (requests_in h s) (server.hears h s q ∷ []) in
      let more : length (replies_in (accepted h) h s ++ whole_reply server h s q ∷ []) ≡ length (replies_in (accepted h) h s) + 1 =
      length-append (replies_in (accepted h) h s) (whole_reply server h s q ∷ []) in
      record {
        asked = (let long : length (q ∷ qs) ≡ length (asked_in_run ps s) - length (requests_in h s) = ap length (sym left) ∙ length-drop (length (requests_in h s)) (asked_in_run ps s) in
            subst (λ (rs : List Request). length rs ≤ length (asked_in_run ps s)) (sym asks) (omega (arith, one, long)));
        requests = sym (next_left (length (requests_in h s)) (asked_in_run ps s) q qs left) ∙ ap (λ (n : ℕ). drop n (asked_in_run ps s)) (sym one)
            ∙ ap (λ (rs : List Request). drop (length rs) (asked_in_run ps s)) (sym asks);
        got = subst (λ (rs : List Reply). length (got_in_run ps s) ≤ length rs) (sym gives) (omega (arith, is.got, more));
        replies = ap (λ (rs : List Reply). rs ++ whole_reply server h s q ∷ []) is.replies
            ∙ sym (drop-append-le (length (got_in_run ps s)) (replies_in (accepted h) h s) (whole_reply server h s q ∷ []) is.got)
            ∙ ap (λ (rs : List Reply). drop (length (got_in_run ps s)) rs) (sym gives);
        closed = is.closed;
        stopped = sym (stops_here s h (is_some (stop_of (server.answers h s q))) running);
      }
    where
      stops_here : (s : ℕ) (h : List Entry) (b : Bool) → is_stopped h s ≡ false → ((s == s && b) || is_stopped h s) ≡ b
      stops_here s h b f = rw (eq-eqb s s refl, f) (or-false b)

      next_left : {X : Type 0} (n : ℕ) (xs : List X) (y : X) (ys : List X) → drop n xs ≡ y ∷ ys → drop (n + 1) xs ≡ ys
      next_left n xs y ys e = sym (drop-drop 1 n xs) ∙ ap (λ zs. drop 1 zs) e

-- ---- Turns

module _ (server : Server) (keeps : KeepsSound server) (h : List Entry) (ps : List Player) (s : ℕ) (c : ExchangeView) (is : IsChannel (run_at h ps) s c) where
  pub session_turn_is : next_history server h s c ≡ session_served server ps h s
  session_turn_is =
      ap (λ (b : Bool). if is_ended h s then h else if b then served server h s requests.End else serves_next server h s c.closed c.requests) is.stopped
      ∙ ap (λ (b : Bool). if is_ended h s then h else if is_stopped h s then served server h s requests.End else serves_next server h s b c.requests) is.closed
      ∙ ap (λ (qs : List Request). if is_ended h s then h else if is_stopped h s then served server h s requests.End else serves_next server h s (list_any (has_closed s) ps) qs) is.requests

  at_turn : (g : List Entry) (d : ExchangeView) → (next_history server h s c ≡ g) × (next_channel server h s c ≡ d) → IsChannel (run_at g ps) s d → IsChannel (run_at (next_history server h s c) ps) s (next_channel server h s c)
  at_turn g d n made =
      subst (λ (x : ExchangeView). IsChannel (run_at (next_history server h s c) ps) s x) (sym n.1) (subst (λ (k : List Entry). IsChannel (run_at k ps) s d) (sym n.0) made)

  -- The session's own connection.
  pub own_served : RepliesNameAccepted h → IsChannel (run_at (next_history server h s c) ps) s (next_channel server h s c)
  own_served named = elim (cases_Bool (is_ended h s)) [
    | inl ended ↦ at_turn h c (next_ended server h s c ended) is
    | inr running ↦ elim (cases_Bool c.stopped) [
      | inl stops ↦ at_turn _ _ (next_stopped server h s c running stops) (end_entry server keeps h ps s requests.End named c refl is)
      | inr goes ↦ waits running goes c.requests refl
    ]
  ]
    where
      closes : is_ended h s ≡ false → c.stopped ≡ false → c.requests ≡ [] → IsChannel (run_at (next_history server h s c) ps) s (next_channel server h s c)
      closes running goes none = elim (cases_Bool c.closed) [
        | inl shut ↦ at_turn _ _ (next_closed server h s c running goes none shut) (end_entry server keeps h ps s requests.End named c refl is)
        | inr linked ↦ at_turn h c (next_idle server h s c running goes none linked) is
      ]

      waits : is_ended h s ≡ false → c.stopped ≡ false → (qs : List Request) → c.requests ≡ qs → IsChannel (run_at (next_history server h s c) ps) s (next_channel server h s c)
      waits running goes [] none = closes running goes none
      waits running goes (q ∷ qs) some = at_turn _ _ (next_asked server h s c q qs running goes some) (asked_entry server keeps h ps s q named c qs some (sym is.stopped ∙ goes) is)

  next_cases : (next_history server h s c ≡ h) ⊎ ((q : Request) × (next_history server h s c ≡ served server h s q))
  next_cases = elim (cases_Bool (is_ended h s)) [
    | inl ended ↦ inl (next_ended server h s c ended).0
    | inr running ↦ elim (cases_Bool c.stopped) [
      | inl stops ↦ inr (requests.End, (next_stopped server h s c running stops).0)
      | inr goes ↦ waits running goes c.requests refl
    ]
  ]
    where
      closes : is_ended h s ≡ false → c.stopped ≡ false → c.requests ≡ [] → (next_history server h s c ≡ h) ⊎ ((q : Request) × (next_history server h s c ≡ served server h s q))
      closes running goes none = elim (cases_Bool c.closed) [
        | inl shut ↦ inr (requests.End, (next_closed server h s c running goes none shut).0)
        | inr linked ↦ inl (next_idle server h s c running goes none linked).0
      ]

      waits : is_ended h s ≡ false → c.stopped ≡ false → (qs : List Request) → c.requests ≡ qs → (next_history server h s c ≡ h) ⊎ ((q : Request) × (next_history server h s c ≡ served server h s q))
      waits running goes [] none = closes running goes none
      waits running goes (q ∷ qs) some = inr (q, (next_asked server h s c q qs running goes some).0)

  -- The connections of other sessions.
  pub other_served : (n : ℕ) (d : ExchangeView) → (s == n) ≡ false → RepliesNameAccepted h → IsChannel (run_at h ps) n d → IsChannel (run_at (next_history server h s c) ps) n d
  other_served n d f named there = elim next_cases [
    | inl same ↦ subst (λ (k : List Entry). IsChannel (run_at k ps) n d) (sym same) there
    | inr one ↦ subst (λ (k : List Entry). IsChannel (run_at k ps) n d) (sym one.1) (other_entry server keeps h ps s one.0 named n d f there)
  ]
