-- What a session's turn does, and that a session has nothing left to do after its turns of a round.
use Rattle.std.proofs.Common.{◌≡◌, ℕ, zero, suc, ◌+◌, ◌≤◌, ◌<◌, Bool, true, false, ◌&&◌, ◌||◌, ◌==◌, not, ◌⊎◌, inl, inr, List, [], ◌∷◌, ◌++◌, length, drop, refl, sym, ap, ◌∙◌, subst, arith, eqb-true, eq-eqb, true≢false}
use Rattle.std.specs.Prelude.{is_some, if◌then◌else◌}
use Rattle.std.specs.List.{list_any}
use Rattle.std.proofs.lemmas.Bool.{cond-true, cases_Bool, and_from, or_left, not_from_false}
use Rattle.std.proofs.lemmas.List.{length-append, length-drop}
use Rattle.sv_world.specs.Control.{is_in}
use Rattle.sv_world.proofs.Members.{is_in-cons_cases}
use Rattle.sv_wire.specs.declared.message.Request.{Request}
use Rattle.sv_wire.specs.declared.message.Request.TheVariants as requests
use Rattle.sv_journal.specs.declared.entry.Entry.{Entry}
use Rattle.sv_journal.specs.Sessions.{is_end, is_ended}
use Rattle.sv_session.specs.Requests.{stop_of}
use Rattle.law_system.specs.Fits.{requests_in}
use Rattle.law_system.proofs.Places.{drop-none}
use Rattle.law_schedule.specs.Players.{Player, asked_in_run, has_closed, repeated}
use Rattle.law_schedule.specs.Serving.{Server, served, serves_next, is_stopped, session_served, all_served, sessions_served}
use Rattle.law_schedule.proofs.DoneGiven.{HearsEnds}
use Rattle.law_schedule.proofs.DoneLists.{repeated-keeps}

-- The session was answered a reply that stops its loop, to a request that is no End.
abbrev pub is_spent : List Entry → ℕ → Bool
is_spent h s = list_any (λ (e : Entry). (e.session == s && not (is_end e.request)) && is_some (stop_of e.reply)) h

-- ---- Other sessions

-- A history says the same of a session as another one.
pub record IsSameIn (s : ℕ) (h g : List Entry) : Type 0 where
  pub asked : requests_in g s ≡ requests_in h s
  pub ended : is_ended g s ≡ is_ended h s
  pub stopped : is_stopped g s ≡ is_stopped h s
  pub spent : is_spent g s ≡ is_spent h s

pub same-all : (s : ℕ) (h g : List Entry) → g ≡ h → IsSameIn s h g
same-all s h g e = record {
  asked = ap (λ (j : List Entry). requests_in j s) e;
  ended = ap (λ (j : List Entry). is_ended j s) e;
  stopped = ap (λ (j : List Entry). is_stopped j s) e;
  spent = ap (λ (j : List Entry). is_spent j s) e;
}

same-other : (t s : ℕ) (e : Entry) (h : List Entry) → (e.session == s) ≡ false → IsSameIn s h (e ∷ h)
same-other t s e h n = record {
  asked = ap (λ (b : Bool). if b && not (is_end e.request) then requests_in h s ++ e.request ∷ [] else requests_in h s) n;
  ended = ap (λ (b : Bool). (b && is_end e.request) || is_ended h s) n;
  stopped = ap (λ (b : Bool). (b && is_some (stop_of e.reply)) || is_stopped h s) n;
  spent = ap (λ (b : Bool). ((b && not (is_end e.request)) && is_some (stop_of e.reply)) || is_spent h s) n;
}

-- ---- A turn

-- What a session's turn makes of the history, and why.
pub data IsTurn (server : Server) (ps : List Player) (s : ℕ) (h g : List Entry) : Type 0 where
  over : is_ended h s ≡ true → g ≡ h → IsTurn server ps s h g
  stops : is_ended h s ≡ false → is_stopped h s ≡ true → g ≡ served server h s requests.End → IsTurn server ps s h g
  steps : is_ended h s ≡ false → is_stopped h s ≡ false → (q : Request) (rest : List Request) → drop (length (requests_in h s)) (asked_in_run ps s) ≡ q ∷ rest →
      g ≡ served server h s q → IsTurn server ps s h g
  closes : is_ended h s ≡ false → drop (length (requests_in h s)) (asked_in_run ps s) ≡ [] → list_any (has_closed s) ps ≡ true →
      g ≡ served server h s requests.End → IsTurn server ps s h g
  waits : is_stopped h s ≡ false → drop (length (requests_in h s)) (asked_in_run ps s) ≡ [] → list_any (has_closed s) ps ≡ false → g ≡ h → IsTurn server ps s h g

turn-by : (server : Server) (ps : List Player) (s : ℕ) (h : List Entry) (b c d : Bool) (w : List Request) → is_ended h s ≡ b → is_stopped h s ≡ c → list_any (has_closed s) ps ≡ d →
    drop (length (requests_in h s)) (asked_in_run ps s) ≡ w → IsTurn server ps s h (if b then h else if c then served server h s requests.End else serves_next server h s d w)
turn-by server ps s h true c d w e f g k = over e refl
turn-by server ps s h false true d w e f g k = stops e f refl
turn-by server ps s h false false d (q ∷ w) e f g k = steps e f q w k refl
turn-by server ps s h false false true [] e f g k = closes e k g refl
turn-by server ps s h false false false [] e f g k = waits f k g refl

pub turn-is : (server : Server) (ps : List Player) (s : ℕ) (h : List Entry) → IsTurn server ps s h (session_served server ps h s)
turn-is server ps s h =
    turn-by server ps s h (is_ended h s) (is_stopped h s) (list_any (has_closed s) ps) (drop (length (requests_in h s)) (asked_in_run ps s)) refl refl refl refl

same-turned : (server : Server) (ps : List Player) (s t : ℕ) (h g : List Entry) → (t == s) ≡ false → IsTurn server ps t h g → IsSameIn s h g
same-turned server ps s t h g n (over e f) = same-all s h g f
same-turned server ps s t h g n (stops e c f) = subst (IsSameIn s h) (sym f) (same-other t s _ h n)
same-turned server ps s t h g n (steps e c q rest d f) = subst (IsSameIn s h) (sym f) (same-other t s _ h n)
same-turned server ps s t h g n (closes e d c f) = subst (IsSameIn s h) (sym f) (same-other t s _ h n)
same-turned server ps s t h g n (waits c d k f) = same-all s h g f

pub other-turn : (server : Server) (ps : List Player) (s t : ℕ) (h : List Entry) → (t == s) ≡ false → IsSameIn s h (session_served server ps h t)
other-turn server ps s t h n = same-turned server ps s t h (session_served server ps h t) n (turn-is server ps t h)

-- ---- Quiet sessions

-- The session finds nothing to do: it has its End, or its loop goes on, nothing waits and the client's end is open.
abbrev pub IsQuiet : List Player → List Entry → ℕ → Type 0
IsQuiet ps h s = (is_ended h s ≡ true)
    ⊎ ((is_stopped h s ≡ false) × ((length (asked_in_run ps s) ≤ length (requests_in h s)) × (list_any (has_closed s) ps ≡ false)))

drop-some : {X : Type 0} (n : ℕ) (xs : List X) (x : X) (ys : List X) → drop n xs ≡ x ∷ ys → n < length xs
drop-some n xs x ys e = let l = length-drop n xs in let z = ap length e in omega (arith, l, z)

module _ (server : Server) (ps : List Player) (s : ℕ) (hears : HearsEnds server) where
  quiet-turned : (h g : List Entry) → IsQuiet ps h s → IsTurn server ps s h g → g ≡ h
  quiet-turned h g q (over e f) = f
  quiet-turned h g q (waits c d k f) = f
  quiet-turned h g (inl x) (stops e c f) = absurd (true≢false (sym x ∙ e))
  quiet-turned h g (inl x) (steps e c p rest d f) = absurd (true≢false (sym x ∙ e))
  quiet-turned h g (inl x) (closes e d c f) = absurd (true≢false (sym x ∙ e))
  quiet-turned h g (inr x) (stops e c f) = absurd (true≢false (sym c ∙ x.0))
  quiet-turned h g (inr x) (steps e c p rest d f) =
      (let l = drop-some (length (requests_in h s)) (asked_in_run ps s) p rest d in let m = x.1.0 in absurd (omega (arith, l, m)))
  quiet-turned h g (inr x) (closes e d c f) = absurd (true≢false (sym c ∙ x.1.1))

  -- A session that is quiet does nothing at its turn.
  pub quiet-still : (h : List Entry) → IsQuiet ps h s → session_served server ps h s ≡ h
  quiet-still h q = quiet-turned h (session_served server ps h s) q (turn-is server ps s h)

  quiet-same : (h g : List Entry) → IsSameIn s h g → IsQuiet ps h s → IsQuiet ps g s
  quiet-same h g e (inl x) = inl (e.ended ∙ x)
  quiet-same h g e (inr x) =
      (let more = ap (λ (qs : List Request). length qs) e.asked in let l = x.1.0 in inr (e.stopped ∙ x.0, (omega (arith, more, l), x.1.1)))

  -- The turns of all sessions leave it quiet.
  quiet-kept : (t : ℕ) (h : List Entry) → IsQuiet ps h s → IsQuiet ps (session_served server ps h t) s
  quiet-kept t h q =
      elim (cases_Bool (t == s)) [
        | inr n ↦ quiet-same h (session_served server ps h t) (other-turn server ps s t h n) q
        | inl y ↦ subst (λ (n : ℕ). IsQuiet ps (session_served server ps h n) s) (sym (eqb-true t s y)) (subst (λ (g : List Entry). IsQuiet ps g s) (sym (quiet-still h q)) q)
      ]

  pub quiet-all_kept : (ss : List ℕ) (h : List Entry) → IsQuiet ps h s → IsQuiet ps (sessions_served server ps h ss) s
  quiet-all_kept [] h q = q
  quiet-all_kept (t ∷ ss) h q =
      quiet-all_kept ss (all_served server ps h t)
      (repeated-keeps (λ (g : List Entry). IsQuiet ps g s) (λ (g : List Entry). session_served server ps g t) (quiet-kept t) (suc (length (asked_in_run ps t))) h q)

  ended-now : (h : List Entry) (q : Request) → is_end q ≡ true → is_ended (served server h s q) s ≡ true
  ended-now h q e = or_left (s == s && is_end (server.hears h s q)) (is_ended h s) (and_from (s == s) (is_end (server.hears h s q)) (eq-eqb s s refl) (hears h s q ∙ e))

  asked-now : (h : List Entry) (q : Request) → is_end q ≡ false → length (requests_in (served server h s q) s) ≡ length (requests_in h s) + 1
  asked-now h q e =
      ap length (cond-true (s == s && not (is_end (server.hears h s q))) (requests_in h s ++ server.hears h s q ∷ []) (requests_in h s)
      (and_from (s == s) (not (is_end (server.hears h s q))) (eq-eqb s s refl) (not_from_false (is_end (server.hears h s q)) (hears h s q ∙ e))))
      ∙ length-append (requests_in h s) (server.hears h s q ∷ [])

  -- One more request is stepped, or the session is quiet.
  abbrev IsFurther : List Entry → List Entry → Type 0
  IsFurther h g = ((length (requests_in h s) < length (asked_in_run ps s)) × (length (requests_in g s) ≡ length (requests_in h s) + 1)) ⊎ IsQuiet ps g s

  further-by : (h g : List Entry) → IsTurn server ps s h g → IsFurther h g
  further-by h g (over e f) = inr (inl (ap (λ (j : List Entry). is_ended j s) f ∙ e))
  further-by h g (stops e c f) = inr (inl (ap (λ (j : List Entry). is_ended j s) f ∙ ended-now h requests.End refl))
  further-by h g (closes e d c f) = inr (inl (ap (λ (j : List Entry). is_ended j s) f ∙ ended-now h requests.End refl))
  further-by h g (waits c d k f) =
      inr (subst (λ (j : List Entry). IsQuiet ps j s) (sym f) (inr (c, (drop-none (length (requests_in h s)) (asked_in_run ps s) d, k))))
  further-by h g (steps e c q rest d f) =
      elim (cases_Bool (is_end q)) [
        | inl x ↦ inr (inl (ap (λ (j : List Entry). is_ended j s) f ∙ ended-now h q x))
        | inr x ↦ inl (drop-some (length (requests_in h s)) (asked_in_run ps s) q rest d, ap (λ (j : List Entry). length (requests_in j s)) f ∙ asked-now h q x)
      ]

  quiet-after : (n : ℕ) (h : List Entry) → 0 < n → length (asked_in_run ps s) < length (requests_in h s) + n →
      IsQuiet ps (repeated n (λ (g : List Entry). session_served server ps g s) h) s
  quiet-after zero h p l = absurd (omega (arith, p))
  quiet-after (suc n) h p l =
      let turn : List Entry → List Entry = λ (g : List Entry). session_served server ps g s in
      let later = quiet-after n (turn h) in
      elim (further-by h (turn h) (turn-is server ps s h)) [
        | inr q ↦ repeated-keeps (λ (g : List Entry). IsQuiet ps g s) turn (quiet-kept s) n (turn h) q
        | inl m ↦ (let a = m.0 in let b = m.1 in later (omega (arith, a, b, l)) (omega (arith, a, b, l)))
      ]

  pub quiet-turns : (h : List Entry) → IsQuiet ps (all_served server ps h s) s
  quiet-turns h = quiet-after (suc (length (asked_in_run ps s))) h (omega arith) (omega arith)

  -- After the sessions' turns of a round each of them is quiet.
  pub quiet-round : (ss : List ℕ) (h : List Entry) → is_in s ss ≡ true → IsQuiet ps (sessions_served server ps h ss) s
  quiet-round [] h m = cc
  quiet-round (t ∷ ss) h m =
      let later = quiet-round ss (all_served server ps h t) in
      elim (is_in-cons_cases s t ss m) [
        | inl e ↦ quiet-all_kept ss (all_served server ps h t) (subst (λ (n : ℕ). IsQuiet ps (all_served server ps h n) s) e (quiet-turns h))
        | inr n ↦ later n
      ]
