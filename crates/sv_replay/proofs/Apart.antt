-- Each session is of one player alone: the others ask and get nothing in it.
use Rattle.std.proofs.Common.{◌≡◌, inl, inr, ℕ, zero, suc, true, false, eqb, List, [], ◌∷◌, ◌++◌, map, drop, reverse, set, slice_get, Some, refl, sym, ap, subst, ◌∙◌, eqb-true, append_assoc, append-nil}
use Rattle.std.specs.List.{list_any, flat_map, AllByRecursion}
use Rattle.std.proofs.lemmas.Bool.{cases_Bool, cond-false}
use Rattle.std.proofs.lemmas.List.{reverse-reverse}
use Rattle.std.proofs.lemmas.List.Elements.{recursion_from_All}
use Rattle.sv_world.specs.declared.world.Shape.{Shape}
use Rattle.sv_wire.specs.declared.message.Reply.{Reply}
use Rattle.sv_journal.specs.declared.entry.Entry.{Entry}
use Rattle.sv_client.specs.declared.trace.Event.{Event}
use Rattle.sv_client.specs.declared.trace.Event.TheVariants as events
use Rattle.sv_client.specs.declared.trace.Trace.{Trace}
use Rattle.sv_client.specs.Traces.{current_session, is_session, asked, got, done_for, held_of}
use Rattle.sv_client.specs.Taking.{Identity}
use Rattle.sv_client.specs.Proper.{AreProper, Proper, identity_of}
use Rattle.sv_client.proofs.Sessions.{both_empty}
use Rattle.sv_scenario.specs.declared.scenario.Scenario.{Scenario}
use Rattle.law_system.specs.Fits.{is_join_of, has_session, AreApart, AreAllApart}
use Rattle.law_system.proofs.Asked.{current-joined, any-reverse}
use Rattle.law_schedule.specs.Players.{Player, trace_of_player, asked_in_run, has_closed}
use Rattle.law_schedule.specs.Serving.{Run, Server, traces_of}
use Rattle.law_schedule.specs.Served.{FitsServer, IsSoundOver}
use Rattle.law_schedule.proofs.SoundTraces.{not-current}
use Rattle.sv_replay.specs.Players.{asked_by_player, got_in_run}

-- ---- A session that was not begun

not_joined : (t : List Event) (n s : ℕ) → list_any (is_join_of n) t ≡ false → current_session t ≡ Some s → eqb s n ≡ false
not_joined t n s e c = elim (cases_Bool (eqb s n)) [
  | inr f ↦ f
  | inl y ↦ (let there : list_any (is_join_of s) t ≡ true = current-joined t s c in
      let here : list_any (is_join_of n) t ≡ true = subst (λ k. list_any (is_join_of k) t ≡ true) (eqb-true s n y) there in cc)
]

join_parts : (n s : ℕ) (t : List Event) → list_any (is_join_of n) (events.Join s ∷ t) ≡ false → (eqb s n ≡ false) × (list_any (is_join_of n) t ≡ false)
join_parts n s t e = elim (cases_Bool (eqb s n)) [
  | inl y ↦ absurd (let h : list_any (is_join_of n) (events.Join s ∷ t) ≡ true = rw y refl in cc)
  | inr f ↦ (f, rw f at e)
]

pub none_asked : (who : Identity) (first : ℕ) (t : List Event) → AreProper who first t → (n : ℕ) → list_any (is_join_of n) t ≡ false → asked who.client who.interest t n ≡ []
none_asked who first [] p n e = refl
none_asked who first (events.Join s ∷ t) p n e =
    both_empty _ _ (none_asked who first t p.1 n (join_parts n s t e).1) (cond-false (eqb s n) _ [] (join_parts n s t e).0)
none_asked who first (events.Make a ∷ t) p n e = both_empty _ _ (none_asked who first t p.1 n e) (cond-false (is_session (current_session t) n) _ [] (not-current t n e))
none_asked who first (events.Poll ∷ t) p n e = both_empty _ _ (none_asked who first t p.1 n e) (cond-false (is_session (current_session t) n) _ [] (not-current t n e))
none_asked who first (events.Observe objects wait ∷ t) p n e = both_empty _ _ (none_asked who first t p.1 n e) (cond-false (is_session (current_session t) n) _ [] (not-current t n e))
none_asked who first (events.Leave ∷ t) p n e = both_empty _ _ (none_asked who first t p.1 n e) (cond-false (is_session (current_session t) n) _ [] (not-current t n e))
none_asked who first (events.Got s reply ∷ t) p n e = both_empty _ _ (none_asked who first t p.1 n e) (cond-false (eqb s n) (done_for (held_of t) reply) [] (not_joined t n s e p.0.current))
none_asked who first (events.Cut ∷ t) p n e = both_empty _ _ (none_asked who first t p.1 n e) refl
none_asked who first (events.Quit ∷ t) p n e = both_empty _ _ (none_asked who first t p.1 n e) refl
none_asked who first (events.Show os ∷ t) p n e = both_empty _ _ (none_asked who first t p.1 n e) refl

pub none_got : (who : Identity) (first : ℕ) (t : List Event) → AreProper who first t → (n : ℕ) → list_any (is_join_of n) t ≡ false → got t n ≡ []
none_got who first [] p n e = refl
none_got who first (events.Join s ∷ t) p n e = none_got who first t p.1 n (join_parts n s t e).1
none_got who first (events.Make a ∷ t) p n e = none_got who first t p.1 n e
none_got who first (events.Poll ∷ t) p n e = none_got who first t p.1 n e
none_got who first (events.Observe objects wait ∷ t) p n e = none_got who first t p.1 n e
none_got who first (events.Leave ∷ t) p n e = none_got who first t p.1 n e
none_got who first (events.Got s reply ∷ t) p n e = rw (not_joined t n s e p.0.current) (none_got who first t p.1 n e)
none_got who first (events.Cut ∷ t) p n e = none_got who first t p.1 n e
none_got who first (events.Quit ∷ t) p n e = none_got who first t p.1 n e
none_got who first (events.Show os ∷ t) p n e = none_got who first t p.1 n e

-- ---- Players that are silent in a session

pub record IsSilent (n : ℕ) (p : Player) : Type 0 where
  pub asks : asked_by_player p n ≡ []
  pub gets : got p.events n ≡ []
  pub linked : has_closed n p ≡ false

-- All players but the k-th are silent in session n.
abbrev pub OthersSilent : ℕ → ℕ → List Player → Type 0
OthersSilent n k [] = Unit {0}
OthersSilent n zero (p ∷ ps) = AllByRecursion (IsSilent n) ps
OthersSilent n (suc k) (p ∷ ps) = IsSilent n p × OthersSilent n k ps

joined_back : (p : Player) (n : ℕ) → list_any (is_join_of n) p.events ≡ true → has_session (trace_of_player p) n ≡ true
joined_back p n e = any-reverse (is_join_of n) (reverse p.events) (ap (λ (es : List Event). list_any (is_join_of n) es) (reverse-reverse p.events) ∙ e)

silent_from : (shape : Shape) (p : Player) (n : ℕ) → Proper shape (trace_of_player p) → (has_session (trace_of_player p) n ≡ true → ⊥) → IsSilent n p
silent_from shape p n proper_of none =
    let who : Identity = identity_of shape (trace_of_player p) in
    let proper : AreProper who p.first p.events = subst (AreProper who p.first) (reverse-reverse p.events) proper_of.events in
    let free : list_any (is_join_of n) p.events ≡ false = elim (cases_Bool (list_any (is_join_of n) p.events)) [ inl y ↦ absurd (none (joined_back p n y)) | inr f ↦ f ] in
    record { asks = none_asked who p.first p.events proper n free; gets = none_got who p.first p.events proper n free; linked = rw free refl }

later_silent : (shape : Shape) (q : Player) (n : ℕ) (ps : List Player) → AllByRecursion (Proper shape) (map trace_of_player ps) →
    AllByRecursion (AreApart (trace_of_player q)) (map trace_of_player ps) → has_session (trace_of_player q) n ≡ true → AllByRecursion (IsSilent n) ps
later_silent shape q n [] proper_each apart has = tt
later_silent shape q n (p ∷ ps) proper_each apart has =
    (silent_from shape p n proper_each.0 (λ y. apart.0.sessions n has y), later_silent shape q n ps proper_each.1 apart.1 has)

apart_at : (p : Player) (k : ℕ) (ps : List Player) (q : Player) → AllByRecursion (AreApart (trace_of_player p)) (map trace_of_player ps) → slice_get ps k ≡ Some q →
    AreApart (trace_of_player p) (trace_of_player q)
apart_at p k [] q apart e = cc
apart_at p zero (r ∷ ps) q apart e = let same : r ≡ q = cc in subst (λ (x : Player). AreApart (trace_of_player p) (trace_of_player x)) same apart.0
apart_at p (suc k) (r ∷ ps) q apart e = apart_at p k ps q apart.1 e

others_silent : (shape : Shape) (n k : ℕ) (ps : List Player) (q : Player) → AllByRecursion (Proper shape) (map trace_of_player ps) →
    AreAllApart (map trace_of_player ps) → slice_get ps k ≡ Some q → list_any (is_join_of n) q.events ≡ true → OthersSilent n k ps
others_silent shape n k [] q proper_each apart e has = tt
others_silent shape n zero (p ∷ ps) q proper_each apart e has =
    let same : q ≡ p = cc in
    later_silent shape p n ps proper_each.1 (recursion_from_All _ (map trace_of_player ps) apart.0) (joined_back p n (subst (λ (x : Player). list_any (is_join_of n) x.events ≡ true) same has))
others_silent shape n (suc k) (p ∷ ps) q proper_each apart e has = (
  silent_from shape p n proper_each.0 (λ y. (apart_at p k ps q (recursion_from_All _ (map trace_of_player ps) apart.0) e).sessions n y (joined_back q n has)),
  others_silent shape n k ps q proper_each.1 apart.1 e has,
)

-- So they are in a sound run, whatever the server.
all_proper : (server : Server) (shape : Shape) (h : List Entry) (Ls : List Trace) → AllByRecursion (FitsServer server shape h) Ls → AllByRecursion (Proper shape) Ls
all_proper server shape h [] fits = tt
all_proper server shape h (L ∷ Ls) fits = (fits.0.proper, all_proper server shape h Ls fits.1)

pub sound_silent : (server : Server) (scenario : Scenario) (run : Run) (n k : ℕ) (q : Player) → IsSoundOver server scenario run → slice_get run.players k ≡ Some q →
    list_any (is_join_of n) q.events ≡ true → OthersSilent n k run.players
sound_silent server scenario run n k q sound at has =
    others_silent scenario.world.shape n k run.players q
    (all_proper server scenario.world.shape run.history (traces_of run) (recursion_from_All (FitsServer server scenario.world.shape run.history) (traces_of run) sound.fits))
    sound.apart at has

-- ---- Of all players together

pub all_ask_nothing : (n : ℕ) (ps : List Player) → AllByRecursion (IsSilent n) ps → asked_in_run ps n ≡ []
all_ask_nothing n [] h = refl
all_ask_nothing n (p ∷ ps) h = both_empty _ _ h.0.asks (all_ask_nothing n ps h.1)

pub all_get_nothing : (n : ℕ) (ps : List Player) → AllByRecursion (IsSilent n) ps → got_in_run ps n ≡ []
all_get_nothing n [] h = refl
all_get_nothing n (p ∷ ps) h = both_empty _ _ h.0.gets (all_get_nothing n ps h.1)

-- What all got in a session is what its player got.
pub got_by_one : (n k : ℕ) (ps : List Player) (q : Player) → OthersSilent n k ps → slice_get ps k ≡ Some q → got_in_run ps n ≡ got q.events n
got_by_one n k [] q h e = cc
got_by_one n zero (p ∷ ps) q h e =
    let same : p ≡ q = cc in
    ap (λ (rs : List Reply). got p.events n ++ rs) (all_get_nothing n ps h) ∙ append-nil (got p.events n) ∙ ap (λ (x : Player). got x.events n) same
got_by_one n (suc k) (p ∷ ps) q h e = ap (λ (rs : List Reply). rs ++ got_in_run ps n) h.0.gets ∙ got_by_one n k ps q h.1 e

all_open : (n : ℕ) (ps : List Player) → AllByRecursion (IsSilent n) ps → list_any (has_closed n) ps ≡ false
all_open n [] h = refl
all_open n (p ∷ ps) h = rw (h.0.linked, all_open n ps h.1) refl

-- A session's link is open where its player did not close it.
pub open_by_one : (n k : ℕ) (ps : List Player) (q : Player) → OthersSilent n k ps → slice_get ps k ≡ Some q → has_closed n q ≡ false → list_any (has_closed n) ps ≡ false
open_by_one n k [] q h e o = cc
open_by_one n zero (p ∷ ps) q h e o =
    let same : q ≡ p = cc in
    let own : has_closed n p ≡ false = subst (λ (x : Player). has_closed n x ≡ false) same o in
    rw (own, all_open n ps h) refl
open_by_one n (suc k) (p ∷ ps) q h e o = rw (h.0.linked, open_by_one n k ps q h.1 e o) refl

-- Something is put behind what one player said, which commutes with what the later ones said.
pub flat_moved : {X : Type 0} (f : Player → List X) (more : List X) (k : ℕ) (ps : List Player) (p q : Player) → slice_get ps k ≡ Some p → f q ≡ f p ++ more →
    more ++ flat_map f (drop (suc k) ps) ≡ flat_map f (drop (suc k) ps) ++ more → flat_map f (set ps k q) ≡ flat_map f ps ++ more
flat_moved f more k [] p q e grown c = cc
flat_moved f more zero (r ∷ ps) p q e grown c =
    let same : p ≡ r = cc in
    ap (λ xs. xs ++ flat_map f ps) (grown ∙ ap (λ x. f x ++ more) same) ∙ append_assoc (f r) more (flat_map f ps) ∙ ap (λ xs. f r ++ xs) c ∙ sym (append_assoc (f r) (flat_map f ps) more)
flat_moved f more (suc k) (r ∷ ps) p q e grown c =
    ap (λ xs. f r ++ xs) (flat_moved f more k ps p q e grown c) ∙ sym (append_assoc (f r) (flat_map f ps) more)

pub commutes_with_none : {X : Type 0} (more xs : List X) → xs ≡ [] → more ++ xs ≡ xs ++ more
commutes_with_none more xs e = rw e (append-nil more)

pub none_commutes : {X : Type 0} (more xs : List X) → more ≡ [] → more ++ xs ≡ xs ++ more
none_commutes more xs e = rw e (sym (append-nil xs))

pub later_of : (n k : ℕ) (ps : List Player) → OthersSilent n k ps → AllByRecursion (IsSilent n) (drop (suc k) ps)
later_of n k [] h = tt
later_of n zero (p ∷ ps) h = h
later_of n (suc k) (p ∷ ps) h = later_of n k ps h.1
