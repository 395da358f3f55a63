-- In a sound run each session that was joined as a client is one that this client's player joined, where the server hears who joins.
use Rattle.std.proofs.Common.{◌≡◌, ℕ, zero, suc, Bool, true, false, ◌==◌, ◌&&◌, not, inl, inr, List, [], ◌∷◌, map, length, Option, Some, None, slice_get, refl, sym, ap, subst, ◌∙◌, eqb-true, eq-eqb, true≢false}
use Rattle.std.specs.Prelude.{if◌then◌else◌}
use Rattle.std.specs.List.{list_any, AllByRecursion}
use Rattle.std.proofs.lemmas.Bool.{cases_Bool, cond-true, cond-false, and_parts, and_from, not_from_false}
use Rattle.std.proofs.lemmas.List.Elements.{recursion_from_All}
use Rattle.std.proofs.lemmas.Option.{none-some, same_Some}
use Rattle.sv_world.specs.declared.world.ClientId.{ClientId}
use Rattle.sv_world.specs.declared.world.ObjectId.{ObjectId}
use Rattle.sv_wire.specs.declared.message.Reply.{Reply}
use Rattle.sv_wire.specs.declared.message.Reply.TheVariants as replies
use Rattle.sv_wire.specs.declared.message.Request.{Request}
use Rattle.sv_wire.specs.declared.message.Request.TheVariants as requests
use Rattle.sv_pending.specs.Pending.{PendingAction}
use Rattle.sv_versions.specs.Held.{Held}
use Rattle.sv_journal.specs.declared.entry.Entry.{Entry}
use Rattle.sv_journal.specs.History.{either, is_welcome, joining, client_of}
use Rattle.sv_journal.specs.Sessions.{is_end}
use Rattle.sv_client.specs.declared.trace.Event.{Event}
use Rattle.sv_client.specs.declared.trace.Event.TheVariants as events
use Rattle.sv_client.specs.Traces.{current_session, is_session, pending_of, held_of, submit_of, done_for, asked, asked_by_event}
use Rattle.sv_scenario.specs.declared.scenario.Scenario.{Scenario}
use Rattle.sv_scenario.specs.Limits.{IsGoodScenario}
use Rattle.law_system.specs.Fits.{requests_in, AreApart, AreAllApart}
use Rattle.law_system.proofs.Every.{each-if, each-append, each-at}
use Rattle.law_system.proofs.Places.{map_at}
use Rattle.law_schedule.specs.Players.{Player, trace_of_player}
use Rattle.law_schedule.specs.Serving.{Run, Server}
use Rattle.law_schedule.specs.Sound.{has_joined}
use Rattle.law_schedule.specs.Served.{AreHeard, HearsJoins, IsSoundOver}
use Rattle.law_schedule.proofs.DoneLists.{any-found}
use Rattle.law_schedule.proofs.SoundCalls.{player-at}

-- ---- A client joins as itself alone

-- Where the request is a Join, it is this client's.
abbrev JoinsAs : ℕ → Request → Type 0
JoinsAs k request = (j : ℕ) → joining request ≡ Some j → j ≡ k

submits-join : (k : ℕ) (ps : List PendingAction) → AllByRecursion (JoinsAs k) (map submit_of ps)
submits-join k [] = tt
submits-join k (p ∷ ps) = (λ j e. absurd (none-some j e), submits-join k ps)

done-joins : (k : ℕ) (held : List Held) (reply : Reply) → AllByRecursion (JoinsAs k) (done_for held reply)
done-joins k held (replies.Welcome commit head) = tt
done-joins k held (replies.Relay seq commit head items) = (λ j e. absurd (none-some j e), tt)
done-joins k held (replies.Dropped seq chain far) = tt
done-joins k held (replies.Denied seq object) = tt
done-joins k held (replies.Seen last commit head []) = tt
done-joins k held (replies.Seen last commit head (item ∷ items)) = (λ j e. absurd (none-some j e), tt)
done-joins k held (replies.Settled seq pos) = tt
done-joins k held (replies.Noted commit) = tt
done-joins k held replies.Idle = tt
done-joins k held (replies.Refused code detail) = tt
done-joins k held replies.Bye = tt

event-joins : (client : ClientId) (interest : List ObjectId) (t : List Event) (e : Event) (s : ℕ) → AllByRecursion (JoinsAs client.0) (asked_by_event client interest t e s)
event-joins client interest t (events.Join n) s =
    each-if (JoinsAs client.0) (n == s) _ (λ j e. sym (same_Some client.0 j e), submits-join client.0 (pending_of t))
event-joins client interest t (events.Make a) s = each-if (JoinsAs client.0) (is_session (current_session t) s) _ (λ j e. absurd (none-some j e), tt)
event-joins client interest t events.Poll s = each-if (JoinsAs client.0) (is_session (current_session t) s) _ (λ j e. absurd (none-some j e), tt)
event-joins client interest t (events.Observe objects wait) s = each-if (JoinsAs client.0) (is_session (current_session t) s) _ (λ j e. absurd (none-some j e), tt)
event-joins client interest t events.Leave s = each-if (JoinsAs client.0) (is_session (current_session t) s) _ (λ j e. absurd (none-some j e), tt)
event-joins client interest t (events.Got n reply) s = each-if (JoinsAs client.0) (n == s) _ (done-joins client.0 (held_of t) reply)
event-joins client interest t events.Cut s = tt
event-joins client interest t events.Quit s = tt
event-joins client interest t (events.Show os) s = tt

trace-joins : (client : ClientId) (interest : List ObjectId) (t : List Event) (s : ℕ) → AllByRecursion (JoinsAs client.0) (asked client interest t s)
trace-joins client interest [] s = tt
trace-joins client interest (e ∷ t) s =
    each-append (JoinsAs client.0) (asked client interest t s) (asked_by_event client interest t e s) (trace-joins client interest t s) (event-joins client interest t e s)

end-joins : (request : Request) → is_end request ≡ true → joining request ≡ None
end-joins (requests.Join client life interest) e = absurd (true≢false (sym e))
end-joins (requests.Submit seq action) e = refl
end-joins (requests.Done results) e = refl
end-joins requests.Poll e = refl
end-joins (requests.Observe objects wait) e = refl
end-joins requests.Leave e = refl
end-joins requests.Bad e = refl
end-joins requests.End e = refl

-- ---- The client of a session

-- An entry that gives its session a client.
joins-now : (e : Entry) (s k : ℕ) (o : Option ℕ) → o ≡ None → either o (if (e.session == s) && is_welcome e.reply then joining e.request else None) ≡ Some k →
    (e.session ≡ s) × ((is_end e.request ≡ false) × (joining e.request ≡ Some k))
joins-now e s k o none c =
    let now : (if (e.session == s) && is_welcome e.reply then joining e.request else None) ≡ Some k =
    sym (ap (λ (x : Option ℕ). either x (if (e.session == s) && is_welcome e.reply then joining e.request else None)) none) ∙ c in
    elim (cases_Bool ((e.session == s) && is_welcome e.reply)) [
      | inr f ↦ absurd (none-some k (sym (cond-false ((e.session == s) && is_welcome e.reply) (joining e.request) None f) ∙ now))
      | inl t ↦
          (let join : joining e.request ≡ Some k = sym (cond-true ((e.session == s) && is_welcome e.reply) (joining e.request) None t) ∙ now in (
            eqb-true e.session s (and_parts (e.session == s) (is_welcome e.reply) t).0,
            (
              elim (cases_Bool (is_end e.request)) [
                | inr f ↦ f
                | inl y ↦ absurd (none-some k (sym (end-joins e.request y) ∙ join))
              ],
              join,
            ),
          ))
    ]

-- A session with a client has an entry, so it was begun.
pub begun-client : (begun : ℕ → Bool) (h : List Entry) (s k : ℕ) → AllByRecursion (λ (e : Entry). begun e.session ≡ true) h → client_of h s ≡ Some k → begun s ≡ true
begun-client begun [] s k all c = absurd (none-some k c)
begun-client begun (e ∷ h) s k all c = go (client_of h s) refl (begun-client begun h s)
  where
    go : (o : Option ℕ) → client_of h s ≡ o → ((j : ℕ) → AllByRecursion (λ (d : Entry). begun d.session ≡ true) h → client_of h s ≡ Some j → begun s ≡ true) → begun s ≡ true
    go (Some j) is earlier = earlier j all.1 is
    go None is earlier = ap begun (sym (joins-now e s k (client_of h s) is c).0) ∙ all.0

-- It is the client of whom its requests were heard.
pub client-heard : (server : Server) → HearsJoins server → (p : Player) (h : List Entry) (s k : ℕ) →
    AreHeard server h s (asked p.who.client p.who.interest p.events s) → client_of h s ≡ Some k → k ≡ p.who.client.0
client-heard server hears p [] s k heard c = absurd (none-some k c)
client-heard server hears p (e ∷ h) s k heard c = go (client_of h s) refl (λ j. client-heard server hears p h s j heard.1)
  where
    go : (o : Option ℕ) → client_of h s ≡ o → ((j : ℕ) → client_of h s ≡ Some j → j ≡ p.who.client.0) → k ≡ p.who.client.0
    go (Some j) is earlier =
        let same : Some j ≡ Some k =
        sym (ap (λ (x : Option ℕ). either x (if (e.session == s) && is_welcome e.reply then joining e.request else None)) is) ∙ c in
        sym (same_Some j k same) ∙ earlier j is
    go None is earlier =
        let now = joins-now e s k (client_of h s) is c in
        let one = heard.0 (and_from (e.session == s) (not (is_end e.request)) (eq-eqb e.session s now.0) (not_from_false (is_end e.request) now.1.0)) in
        let joins = each-at (JoinsAs p.who.client.0) (asked p.who.client p.who.interest p.events s) (length (requests_in h s)) one.request
        (trace-joins p.who.client p.who.interest p.events s) one.next in
        joins k (sym (hears h s one.request) ∙ ap joining (sym one.heard) ∙ now.1.1)

-- ---- Whose a session is

one-client : (ps : List Player) (i j : ℕ) (p q : Player) → AreAllApart (map trace_of_player ps) → slice_get ps i ≡ Some p → slice_get ps j ≡ Some q → p.who.client ≡ q.who.client → p ≡ q
one-client [] i j p q a e f same = absurd (none-some p e)
one-client (o ∷ ps) zero zero p q a e f same = sym (same_Some o p e) ∙ same_Some o q f
one-client (o ∷ ps) zero (suc j) p q a e f same =
    absurd ((each-at (AreApart (trace_of_player o)) (map trace_of_player ps) j (trace_of_player q)
    (recursion_from_All (AreApart (trace_of_player o)) (map trace_of_player ps) a.0) (map_at trace_of_player ps j q f)).clients
    (ap (λ (x : Player). x.who.client) (same_Some o p e) ∙ same))
one-client (o ∷ ps) (suc i) zero p q a e f same =
    absurd ((each-at (AreApart (trace_of_player o)) (map trace_of_player ps) i (trace_of_player p)
    (recursion_from_All (AreApart (trace_of_player o)) (map trace_of_player ps) a.0) (map_at trace_of_player ps i p e)).clients
    (ap (λ (x : Player). x.who.client) (same_Some o q f) ∙ sym same))
one-client (o ∷ ps) (suc i) (suc j) p q a e f same = one-client ps i j p q a.1 e f same

pub session-owned : (server : Server) → HearsJoins server → (scenario : Scenario) (run : Run) → IsGoodScenario scenario →
    IsSoundOver server scenario run → (i : ℕ) (p : Player) → slice_get run.players i ≡ Some p → (s : ℕ) → client_of run.history s ≡ Some p.who.client.0 → has_joined p s ≡ true
session-owned server hears scenario run good sound i p at s c =
    let begun = begun-client (λ (n : ℕ). list_any (λ (q : Player). has_joined q n) run.players) run.history s p.who.client.0
    (recursion_from_All (λ (e : Entry). list_any (λ (q : Player). has_joined q e.session) run.players ≡ true) run.history sound.begun) c in
    let o = any-found (λ (q : Player). has_joined q s) run.players begun in
    let q = o.1.0 in
    let a = player-at server scenario run good sound o.0 q o.1.1.0 in
    let number = client-heard server hears q run.history s p.who.client.0 (a.fitting.sessions s o.1.1.1).heard c in
    let same : p ≡ q = one-client run.players i o.0 p q sound.apart at o.1.1.0 (ap (λ (n : ℕ). record { 0 = n }) number) in
    subst (λ (x : Player). has_joined x s ≡ true) (sym same) o.1.1.1
