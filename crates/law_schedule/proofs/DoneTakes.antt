-- A client takes all replies that wait for it, and asks nothing but Dones meanwhile.
use Rattle.std.proofs.Common.{◌≡◌, ℕ, zero, suc, ◌+◌, ◌≤◌, ◌<◌, Bool, true, false, ◌||◌, ◌==◌, ◌&&◌, not, List, [], ◌∷◌, ◌++◌, length, drop, Option, Some, None, slice_get, refl, sym, ap, ◌∙◌, subst, arith, eq-eqb, true≢false, append-nil, append_assoc}
use Rattle.std.specs.Prelude.{if◌then◌else◌}
use Rattle.std.specs.List.{AllByRecursion}
use Rattle.std.proofs.lemmas.Bool.{cond_both, cond-true}
use Rattle.std.proofs.lemmas.List.{length-append}
use Rattle.std.proofs.lemmas.Option.{none-some, slice_get_within}
use Rattle.sv_versions.specs.Held.{Held}
use Rattle.sv_wire.specs.declared.message.Request.{Request}
use Rattle.sv_wire.specs.declared.message.Request.TheVariants as requests
use Rattle.sv_wire.specs.declared.message.Reply.{Reply}
use Rattle.sv_wire.specs.declared.message.Reply.TheVariants as replies
use Rattle.sv_journal.specs.declared.entry.Entry.{Entry}
use Rattle.sv_journal.specs.History.{accepted}
use Rattle.sv_journal.specs.Sessions.{is_end}
use Rattle.sv_client.specs.declared.trace.Event.{Event}
use Rattle.sv_client.specs.declared.trace.Event.TheVariants as events
use Rattle.sv_client.specs.Traces.{current_session, held_of, done_for, asked, got}
use Rattle.sv_client.specs.Taking.{Identity, Unasked, outstanding, allows, fault_after, first_fault_of_reply}
use Rattle.sv_client.specs.Proper.{AreProper, in_session}
use Rattle.sv_client.proofs.Outstanding.{outstanding_got}
use Rattle.sv_scenario.specs.declared.scenario.Scenario.{Scenario}
use Rattle.sv_scenario.specs.declared.scenario.Turn.TheVariants as turns
use Rattle.sv_scenario.specs.Limits.{IsGoodScenario}
use Rattle.sv_client.proofs.Faultless.{kind-of}
use Rattle.sv_script.specs.Following.{must_join}
use Rattle.law_system.specs.Fits.{requests_in, replies_in}
use Rattle.law_system.proofs.Entered.{as-many}
use Rattle.law_system.proofs.Every.{each-append}
use Rattle.law_schedule.specs.Players.{Player, does, open_session, takes, takes_if, take_in, take_turn, take_turns, repeated}
use Rattle.law_schedule.specs.Serving.{Run, Server, turn_served}
use Rattle.law_schedule.specs.Served.{IsSoundOver}
use Rattle.law_schedule.specs.Done.{NextRepliesAreTaken}
use Rattle.law_schedule.proofs.DoneGiven.{StaySound}
use Rattle.law_schedule.proofs.DoneLists.{repeated-still, at-here, open-by}
use Rattle.law_schedule.proofs.DoneFacts.{following, playing-there}

-- ---- Dones

abbrev pub is_done : Request → Bool
is_done (requests.Done results) = true
is_done (requests.Join client life interest) = false
is_done (requests.Submit seq action) = false
is_done requests.Poll = false
is_done (requests.Observe objects wait) = false
is_done requests.Leave = false
is_done requests.End = false
is_done requests.Bad = false

abbrev pub AreDones : List Request → Type 0
AreDones qs = AllByRecursion (λ (q : Request). is_done q ≡ true) qs

pub dones-append : (ps qs : List Request) → AreDones ps → AreDones qs → AreDones (ps ++ qs)
dones-append ps qs a b = each-append (λ (q : Request). is_done q ≡ true) ps qs a b

pub dones-drop : (n : ℕ) (qs : List Request) → AreDones qs → AreDones (drop n qs)
dones-drop zero qs a = a
dones-drop (suc n) [] a = tt
dones-drop (suc n) (q ∷ qs) a = dones-drop n qs a.1

reply-dones : (held : List Held) (reply : Reply) → AreDones (done_for held reply)
reply-dones held (replies.Relay seq commit head items) = (refl, tt)
reply-dones held (replies.Welcome commit head) = tt
reply-dones held (replies.Dropped seq chain far) = tt
reply-dones held (replies.Denied seq object) = tt
reply-dones held (replies.Seen last commit head []) = tt
reply-dones held (replies.Seen last commit head (item ∷ items)) = (refl, tt)
reply-dones held (replies.Settled seq pos) = tt
reply-dones held (replies.Noted commit) = tt
reply-dones held replies.Idle = tt
reply-dones held (replies.Refused code detail) = tt
reply-dones held replies.Bye = tt

relay-other : (q : Request) (seq commit : ℕ) (head : List _) (items : List _) → is_done q ≡ true → allows q (replies.Relay seq commit head items) ≡ true → ⊥
relay-other (requests.Done results) seq commit head items d e = true≢false (sym e)
relay-other (requests.Join client life interest) seq commit head items d e = true≢false (sym d)
relay-other (requests.Submit n action) seq commit head items d e = true≢false (sym d)
relay-other requests.Poll seq commit head items d e = true≢false (sym d)
relay-other (requests.Observe objects wait) seq commit head items d e = true≢false (sym d)
relay-other requests.Leave seq commit head items d e = true≢false (sym d)
relay-other requests.End seq commit head items d e = true≢false (sym d)
relay-other requests.Bad seq commit head items d e = true≢false (sym d)

seen-other : (q : Request) (last commit : ℕ) (head : List _) (items : List _) → is_done q ≡ true → allows q (replies.Seen last commit head items) ≡ true → ⊥
seen-other (requests.Done results) last commit head items d e = true≢false (sym e)
seen-other (requests.Join client life interest) last commit head items d e = true≢false (sym d)
seen-other (requests.Submit n action) last commit head items d e = true≢false (sym d)
seen-other requests.Poll last commit head items d e = true≢false (sym d)
seen-other (requests.Observe objects wait) last commit head items d e = true≢false (sym d)
seen-other requests.Leave last commit head items d e = true≢false (sym d)
seen-other requests.End last commit head items d e = true≢false (sym d)
seen-other requests.Bad last commit head items d e = true≢false (sym d)

-- The answer to a Done asks nothing.
done-answered : (held : List Held) (q : Request) (reply : Reply) → is_done q ≡ true → allows q reply ≡ true → done_for held reply ≡ []
done-answered held q (replies.Relay seq commit head items) d e = absurd (relay-other q seq commit head items d e)
done-answered held q (replies.Welcome commit head) d e = refl
done-answered held q (replies.Dropped seq chain far) d e = refl
done-answered held q (replies.Denied seq object) d e = refl
done-answered held q (replies.Seen last commit head items) d e = absurd (seen-other q last commit head items d e)
done-answered held q (replies.Settled seq pos) d e = refl
done-answered held q (replies.Noted commit) d e = refl
done-answered held q replies.Idle d e = refl
done-answered held q (replies.Refused code detail) d e = refl
done-answered held q replies.Bye d e = refl

dones-answered : (who : Identity) (t : List Event) (os : List Request) (reply : Reply) → AreDones os → fault_after who t os reply ≡ None → done_for (held_of t) reply ≡ []
dones-answered who t [] reply a e = absurd (none-some Unasked (sym e))
dones-answered who t (q ∷ qs) reply a e = done-answered (held_of t) q reply a.0 (kind-of (allows q reply) _ e)

-- ---- Open sessions

pub record IsOpen (p : Player) (s : ℕ) : Type 0 where
  pub linked : p.closed ≡ false
  pub joined : must_join p.events ≡ false
  pub current : current_session p.events ≡ Some s

pub open-parts : (p : Player) (s : ℕ) → open_session p ≡ Some s → IsOpen p s
open-parts p s e = let o = open-by p.closed (must_join p.events) (current_session p.events) s e in record { linked = o.0; joined = o.1.0; current = o.1.1 }

pub open-from : (p : Player) (s : ℕ) → IsOpen p s → open_session p ≡ Some s
open-from p s o =
    ap (λ (b : Bool). if b || must_join p.events then None else current_session p.events) o.linked
    ∙ ap (λ (b : Bool). if b then None else current_session p.events) o.joined ∙ o.current

-- ---- Taking

-- What a client asked in a session.
abbrev pub asks : Player → List Event → ℕ → List Request
asks p t s = asked p.who.client p.who.interest t s

-- The player is as it was, but for replies that it took in its open session: all that wait. It asked nothing but Dones meanwhile, and
-- nothing at all where only Dones were outstanding.
pub record IsTaken (h : List Entry) (s : ℕ) (p q : Player) : Type 0 where
  pub events : List Event
  pub same : q ≡ record p { events = events }
  pub joined : must_join events ≡ false
  pub current : current_session events ≡ Some s
  pub inside : in_session events ≡ in_session p.events
  pub more : List Request
  pub dones : AreDones more
  pub grown : asks p events s ≡ asks p p.events s ++ more
  pub quiet : AreDones (outstanding p.who p.events) → asks p events s ≡ asks p p.events s
  pub all : length (replies_in (accepted h) h s) ≤ length (got events s)

none-left : {X : Type 0} (xs : List X) (n : ℕ) → slice_get xs n ≡ None → length xs ≤ n
none-left [] n e = omega arith
none-left (x ∷ xs) zero e = absurd (none-some x (sym e))
none-left (x ∷ xs) (suc n) e = let l = none-left xs n e in omega (arith, l)

pub requests-short : (h : List Entry) (s : ℕ) → length (requests_in h s) ≤ length h
requests-short [] s = omega arith
requests-short (e ∷ h) s =
    let less = requests-short h s in
    let one = length-append (requests_in h s) (e.request ∷ []) in
    cond_both (e.session == s && not (is_end e.request)) (requests_in h s ++ e.request ∷ []) (requests_in h s) (λ (qs : List Request). length qs ≤ suc (length h))
    (λ x. omega (arith, less, one)) (λ x. omega (arith, less))

nothing-taken : (h : List Entry) (s : ℕ) (p : Player) → IsOpen p s → length (replies_in (accepted h) h s) ≤ length (got p.events s) → IsTaken h s p p
nothing-taken h s p o l = record {
  events = p.events;
  same = refl;
  joined = o.joined;
  current = o.current;
  inside = refl;
  more = [];
  dones = tt;
  grown = sym (append-nil (asks p p.events s));
  quiet = λ a. refl;
  all = l;
}

-- The player after it took one reply.
abbrev took : Player → ℕ → Reply → Player
took p s reply = does p (events.Got s reply) p.left

taken-then : (h : List Entry) (s : ℕ) (p q : Player) (reply : Reply) → AreProper p.who p.first p.events → IsOpen p s → first_fault_of_reply p.who p.events reply ≡ None →
    IsTaken h s (took p s reply) q → IsTaken h s p q
taken-then h s p q reply proper o taken t =
    let held = held_of p.events in
    let one : asks p (events.Got s reply ∷ p.events) s ≡ asks p p.events s ++ done_for held reply =
    ap (λ (qs : List Request). asks p p.events s ++ qs) (cond-true (s == s) (done_for held reply) [] (eq-eqb s s refl)) in
    record {
      events = t.events;
      same = t.same;
      joined = t.joined;
      current = t.current;
      inside = t.inside;
      more = done_for held reply ++ t.more;
      dones = dones-append (done_for held reply) t.more (reply-dones held reply) t.dones;
      grown = t.grown ∙ ap (λ (qs : List Request). qs ++ t.more) one ∙ append_assoc (asks p p.events s) (done_for held reply) t.more;
      quiet = λ a.
          let none = dones-answered p.who p.events (outstanding p.who p.events) reply a taken in
          let now = outstanding_got p.who p.first p.events s reply proper (record { current = o.current; taken = taken }) in
          t.quiet (subst AreDones (sym now) (dones-append (drop 1 (outstanding p.who p.events)) (done_for held reply) (dones-drop 1 (outstanding p.who p.events) a) (reply-dones held reply)))
          ∙ one ∙ ap (λ (qs : List Request). asks p p.events s ++ qs) none ∙ append-nil (asks p p.events s);
      all = t.all;
    }

took-open : (p : Player) (s : ℕ) (reply : Reply) → IsOpen p s → IsOpen (took p s reply) s
took-open p s reply o = record { linked = o.linked; joined = refl; current = o.current }

turn-none : (h : List Entry) (p : Player) → open_session p ≡ None → take_turn h p ≡ p
turn-none h p e = ap (take_in h p) e

turn-some : (h : List Entry) (p : Player) (s : ℕ) (o : Option Reply) → open_session p ≡ Some s → slice_get (replies_in (accepted h) h s) (length (got p.events s)) ≡ o →
    take_turn h p ≡ takes p s o
turn-some h p s o e f = ap (take_in h p) e ∙ ap (takes p s) f

turn-takes : (h : List Entry) (p : Player) (s : ℕ) (reply : Reply) → open_session p ≡ Some s → slice_get (replies_in (accepted h) h s) (length (got p.events s)) ≡ Some reply →
    first_fault_of_reply p.who p.events reply ≡ None → take_turn h p ≡ took p s reply
turn-takes h p s reply e f g = turn-some h p s (Some reply) e f ∙ ap (takes_if p s reply) g

-- A client with no open session takes nothing.
pub takes-none : (h : List Entry) (p : Player) → open_session p ≡ None → take_turns h p ≡ p
takes-none h p e = repeated-still (length h) (take_turn h) p (turn-none h p e)

module _ (server : Server) (scenario : Scenario) (good : IsGoodScenario scenario) (honest : NextRepliesAreTaken server scenario) (stay : StaySound server scenario) (i s : ℕ) where
  place-good : (run : Run) (sound : IsSoundOver server scenario run) (p : Player) → slice_get run.players i ≡ Some p → i < length scenario.clients
  place-good run sound p at =
      let l = slice_get_within run.players i p at in
      let same = playing-there scenario.world.shape 0 0 scenario.clients run.players sound.players in
      omega (arith, l, same)

  abbrev Takes : ℕ → Type 0
  Takes n = (run : Run) (sound : IsSoundOver server scenario run) (p : Player) → slice_get run.players i ≡ Some p → IsOpen p s →
      length (replies_in (accepted run.history) run.history s) ≤ length (got p.events s) + n → IsTaken run.history s p (repeated n (take_turn run.history) p)

  takes-one : (n : ℕ) → Takes n → (run : Run) (sound : IsSoundOver server scenario run) (p : Player) → slice_get run.players i ≡ Some p → IsOpen p s →
      length (replies_in (accepted run.history) run.history s) ≤ length (got p.events s) + suc n →
      (o : Option Reply) → slice_get (replies_in (accepted run.history) run.history s) (length (got p.events s)) ≡ o →
      IsTaken run.history s p (repeated (suc n) (take_turn run.history) p)
  takes-one n later run sound p at o l None e =
      let h = run.history in
      let still : take_turn h p ≡ p = turn-some h p s None (open-from p s o) e in
      let most = none-left (replies_in (accepted h) h s) (length (got p.events s)) e in
      subst (λ (q : Player). IsTaken h s p (repeated n (take_turn h) q)) (sym still) (later run sound p at o (omega (arith, most)))
  takes-one n later run sound p at o l (Some reply) e =
      let h = run.history in
      let taken = honest run i p s reply sound at o.current e in
      let turn : take_turn h p ≡ took p s reply = turn-takes h p s reply (open-from p s o) e taken in
      let f = following server scenario good run sound i p at in
      let after : Run = turn_served server run (turns.Take i) in
      let there : slice_get after.players i ≡ Some (took p s reply) = at-here run.players i (take_turn h) p at ∙ ap Some turn in
      let got_now : length (got (took p s reply).events s) ≡ length (got p.events s) + 1 =
      ap length (cond-true (s == s) (got p.events s ++ reply ∷ []) (got p.events s) (eq-eqb s s refl)) ∙ length-append (got p.events s) (reply ∷ []) in
      taken-then h s p (repeated n (take_turn h) (take_turn h p)) reply f.proper o taken
      (subst (λ (q : Player). IsTaken h s (took p s reply) (repeated n (take_turn h) q)) (sym turn)
      (later after (stay.turns run (turns.Take i) (place-good run sound p at) sound) (took p s reply) there (took-open p s reply o) (omega (arith, l, got_now))))

  takes-some : (n : ℕ) → Takes n
  takes-some zero run sound p at o l = nothing-taken run.history s p o (omega (arith, l))
  takes-some (suc n) run sound p at o l =
      takes-one n (takes-some n) run sound p at o l (slice_get (replies_in (accepted run.history) run.history s) (length (got p.events s))) refl

  -- At the end of a round a client takes all that wait for it.
  pub takes-all : (run : Run) (sound : IsSoundOver server scenario run) (p : Player) → slice_get run.players i ≡ Some p → IsOpen p s → IsTaken run.history s p (take_turns run.history p)
  takes-all run sound p at o =
      let many = as-many (accepted run.history) run.history s in
      let short = requests-short run.history s in
      takes-some (length run.history) run sound p at o (omega (arith, many, short))
