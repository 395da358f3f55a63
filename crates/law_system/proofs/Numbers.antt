-- A client's trace stays one that an honest client can have where its sessions have other numbers, in ascending order.
use Rattle.std.proofs.Common.{◌≡◌, ℕ, zero, suc, ◌+◌, ◌<◌, ◌≤◌, true, ◌==◌, inl, inr, nat_lt, List, [], ◌∷◌, ◌++◌, map, length, Option, Some, None, option_map, refl, sym, ap, ◌∙◌, subst, arith, eq-eqb, ltb-true}
use Rattle.std.specs.Prelude.{if◌then◌else◌, slice_index_or}
use Rattle.std.specs.List.{AllByRecursion}
use Rattle.std.proofs.lemmas.Bool.{and_parts, cases_eq, cases_lt, ne_eqb}
use Rattle.std.proofs.lemmas.List.{reverse-reverse}
use Rattle.std.proofs.lemmas.List.Elements.{All-from_recursion}
use Rattle.std.proofs.lemmas.Option.{none-some, same_Some}
use Rattle.sv_world.specs.Faults.{is_ascending}
use Rattle.sv_versions.specs.Held.{Held}
use Rattle.sv_wire.specs.declared.message.Request.{Request}
use Rattle.sv_wire.specs.declared.message.Reply.{Reply}
use Rattle.sv_client.specs.declared.trace.Event.{Event}
use Rattle.sv_client.specs.declared.trace.Event.TheVariants as events
use Rattle.sv_client.specs.Traces.{joins, makes, current_session, is_session, held_of, with_reply, pending_of, asked, got}
use Rattle.sv_client.specs.Taking.{Identity, outstanding, unanswered, told, told_by, first_fault_of_reply, fault_for, fault_after}
use Rattle.sv_client.specs.Proper.{MayCome, AreInTurn, in_session}
use Rattle.sv_client.specs.Seen.{NamesBelow, ClientView}
use Rattle.sv_client.proofs.Sessions.{below_turn}
use Rattle.law_system.specs.Clients.{sessions_begun, MayComeNext, AreClientEvents, IsClientTrace, in_sessions, trace_in, IsNumberedIn}
use Rattle.law_system.proofs.Clients.{turn-below}

-- ---- Ascending numbers

rising : (ns : List ℕ) → is_ascending ns ≡ true → (i j : ℕ) → i < j → j < length ns → slice_index_or ns i 0 < slice_index_or ns j 0
rising [] asc i j l high = absurd (omega arith)
rising (n ∷ []) asc i j l high = absurd (omega arith)
rising (n ∷ m ∷ ns) asc zero zero l high = absurd (omega arith)
rising (n ∷ m ∷ ns) asc zero (suc zero) l high = ltb-true n m (and_parts (nat_lt n m) (is_ascending (m ∷ ns)) asc).0
rising (n ∷ m ∷ ns) asc zero (suc (suc j)) l high =
    let parts = and_parts (nat_lt n m) (is_ascending (m ∷ ns)) asc in
    let one : n < m = ltb-true n m parts.0 in
    let more : m < slice_index_or (m ∷ ns) (suc j) 0 = rising (m ∷ ns) parts.1 0 (suc j) (omega arith) (omega (arith, high)) in
    omega (arith, one, more)
rising (n ∷ m ∷ ns) asc (suc i) zero l high = absurd (omega arith)
rising (n ∷ m ∷ ns) asc (suc i) (suc j) l high =
    rising (m ∷ ns) (and_parts (nat_lt n m) (is_ascending (m ∷ ns)) asc).1 i j (omega (arith, l)) (omega (arith, high))

module _ (numbers : List ℕ) (asc : is_ascending numbers ≡ true) where
  abbrev number : ℕ → ℕ
  number s = slice_index_or numbers s 0

  abbrev named : List Event → List Event
  named t = map (in_sessions numbers) t

  -- The client's own numbers are of sessions that have a number.
  abbrev AreKnown : List Event → Type 0
  AreKnown t = AllByRecursion (NamesBelow (length numbers)) t

  same : (s k : ℕ) → s < length numbers → k < length numbers → (number s == number k) ≡ (s == k)
  same s k a b =
      elim (cases_eq s k) [
        | inl e ↦ eq-eqb (number s) (number k) (ap number e) ∙ sym (eq-eqb s k e)
        | inr n ↦ elim (cases_lt s k) [
          | inl l ↦ (let up : number s < number k = rising numbers asc s k l b in ne_eqb (number s) (number k) (λ e. absurd (omega (arith, up, e))) ∙ sym (ne_eqb s k n))
          | inr l ↦
              (let up : number k < number s = rising numbers asc k s (omega (arith, l, n)) a in
              ne_eqb (number s) (number k) (λ e. absurd (omega (arith, up, e))) ∙ sym (ne_eqb s k n))
        ]
      ]

  -- ---- What does not speak of sessions

  named-joins : (t : List Event) → joins (named t) ≡ joins t
  named-joins [] = refl
  named-joins (events.Join s ∷ t) = ap suc (named-joins t)
  named-joins (events.Make action ∷ t) = named-joins t
  named-joins (events.Poll ∷ t) = named-joins t
  named-joins (events.Observe os wait ∷ t) = named-joins t
  named-joins (events.Leave ∷ t) = named-joins t
  named-joins (events.Got s reply ∷ t) = named-joins t
  named-joins (events.Cut ∷ t) = named-joins t
  named-joins (events.Quit ∷ t) = named-joins t
  named-joins (events.Show os ∷ t) = named-joins t

  named-makes : (t : List Event) → makes (named t) ≡ makes t
  named-makes [] = refl
  named-makes (events.Join s ∷ t) = named-makes t
  named-makes (events.Make action ∷ t) = ap suc (named-makes t)
  named-makes (events.Poll ∷ t) = named-makes t
  named-makes (events.Observe os wait ∷ t) = named-makes t
  named-makes (events.Leave ∷ t) = named-makes t
  named-makes (events.Got s reply ∷ t) = named-makes t
  named-makes (events.Cut ∷ t) = named-makes t
  named-makes (events.Quit ∷ t) = named-makes t
  named-makes (events.Show os ∷ t) = named-makes t

  named-session : (t : List Event) → in_session (named t) ≡ in_session t
  named-session [] = refl
  named-session (events.Join s ∷ t) = refl
  named-session (events.Make action ∷ t) = named-session t
  named-session (events.Poll ∷ t) = named-session t
  named-session (events.Observe os wait ∷ t) = named-session t
  named-session (events.Leave ∷ t) = refl
  named-session (events.Got s reply ∷ t) = named-session t
  named-session (events.Cut ∷ t) = named-session t
  named-session (events.Quit ∷ t) = named-session t
  named-session (events.Show os ∷ t) = named-session t

  named-told : (t : List Event) → told (named t) ≡ told t
  named-told [] = refl
  named-told (events.Join s ∷ t) = named-told t
  named-told (events.Make action ∷ t) = named-told t
  named-told (events.Poll ∷ t) = named-told t
  named-told (events.Observe os wait ∷ t) = named-told t
  named-told (events.Leave ∷ t) = named-told t
  named-told (events.Got s reply ∷ t) = ap (told_by reply) (named-told t)
  named-told (events.Cut ∷ t) = named-told t
  named-told (events.Quit ∷ t) = named-told t
  named-told (events.Show os ∷ t) = named-told t

  named-held : (t : List Event) → held_of (named t) ≡ held_of t
  named-held [] = refl
  named-held (events.Join s ∷ t) = named-held t
  named-held (events.Make action ∷ t) = named-held t
  named-held (events.Poll ∷ t) = named-held t
  named-held (events.Observe os wait ∷ t) = named-held t
  named-held (events.Leave ∷ t) = named-held t
  named-held (events.Got s reply ∷ t) = ap (λ (hs : List Held). with_reply hs reply) (named-held t)
  named-held (events.Cut ∷ t) = named-held t
  named-held (events.Quit ∷ t) = named-held t
  named-held (events.Show os ∷ t) = named-held t

  named-pending : (t : List Event) → pending_of (named t) ≡ pending_of t
  named-pending [] = refl
  named-pending (events.Join s ∷ t) = named-pending t
  named-pending (events.Make action ∷ t) = rw (named-pending t, named-makes t, named-held t) refl
  named-pending (events.Poll ∷ t) = named-pending t
  named-pending (events.Observe os wait ∷ t) = named-pending t
  named-pending (events.Leave ∷ t) = named-pending t
  named-pending (events.Got s reply ∷ t) = rw (named-pending t, named-held t) refl
  named-pending (events.Cut ∷ t) = named-pending t
  named-pending (events.Quit ∷ t) = named-pending t
  named-pending (events.Show os ∷ t) = named-pending t

  -- ---- What is asked and got

  named-current : (t : List Event) → current_session (named t) ≡ option_map number (current_session t)
  named-current [] = refl
  named-current (events.Join s ∷ t) = refl
  named-current (events.Make action ∷ t) = named-current t
  named-current (events.Poll ∷ t) = named-current t
  named-current (events.Observe os wait ∷ t) = named-current t
  named-current (events.Leave ∷ t) = named-current t
  named-current (events.Got s reply ∷ t) = named-current t
  named-current (events.Cut ∷ t) = named-current t
  named-current (events.Quit ∷ t) = named-current t
  named-current (events.Show os ∷ t) = named-current t

  known-current : (t : List Event) → AreKnown t → (s : ℕ) → current_session t ≡ Some s → s < length numbers
  known-current [] a s c = absurd (none-some s c)
  known-current (events.Join m ∷ t) a s c = subst (λ (k : ℕ). k < length numbers) (same_Some m s c) a.0
  known-current (events.Make action ∷ t) a s c = known-current t a.1 s c
  known-current (events.Poll ∷ t) a s c = known-current t a.1 s c
  known-current (events.Observe os wait ∷ t) a s c = known-current t a.1 s c
  known-current (events.Leave ∷ t) a s c = known-current t a.1 s c
  known-current (events.Got m reply ∷ t) a s c = known-current t a.1 s c
  known-current (events.Cut ∷ t) a s c = known-current t a.1 s c
  known-current (events.Quit ∷ t) a s c = known-current t a.1 s c
  known-current (events.Show os ∷ t) a s c = known-current t a.1 s c

  got-one : (n s : ℕ) (rs ss : List Reply) (reply : Reply) → n < length numbers → s < length numbers → rs ≡ ss →
      (if number n == number s then rs ++ reply ∷ [] else rs) ≡ (if n == s then ss ++ reply ∷ [] else ss)
  got-one n s rs ss reply a b e = rw (same n s a b, e) refl

  named-got : (t : List Event) → AreKnown t → (k : ℕ) → k < length numbers → got (named t) (number k) ≡ got t k
  named-got [] a k b = refl
  named-got (events.Join s ∷ t) a k b = named-got t a.1 k b
  named-got (events.Make action ∷ t) a k b = named-got t a.1 k b
  named-got (events.Poll ∷ t) a k b = named-got t a.1 k b
  named-got (events.Observe os wait ∷ t) a k b = named-got t a.1 k b
  named-got (events.Leave ∷ t) a k b = named-got t a.1 k b
  named-got (events.Got s reply ∷ t) a k b = got-one s k (got (named t) (number k)) (got t k) reply a.0 b (named-got t a.1 k b)
  named-got (events.Cut ∷ t) a k b = named-got t a.1 k b
  named-got (events.Quit ∷ t) a k b = named-got t a.1 k b
  named-got (events.Show os ∷ t) a k b = named-got t a.1 k b

  named-is_in : (o : Option ℕ) (k : ℕ) → ((s : ℕ) → o ≡ Some s → s < length numbers) → k < length numbers → is_session (option_map number o) (number k) ≡ is_session o k
  named-is_in None k a b = refl
  named-is_in (Some s) k a b = same s k (a s refl) b

  named-is : (t : List Event) → AreKnown t → (k : ℕ) → k < length numbers → is_session (current_session (named t)) (number k) ≡ is_session (current_session t) k
  named-is t a k b = ap (λ (o : Option ℕ). is_session o (number k)) (named-current t) ∙ named-is_in (current_session t) k (known-current t a) b

  named-asked : (who : Identity) (t : List Event) → AreKnown t → (k : ℕ) → k < length numbers → asked who.client who.interest (named t) (number k) ≡ asked who.client who.interest t k
  named-asked who [] a k b = refl
  named-asked who (events.Join s ∷ t) a k b = rw (named-asked who t a.1 k b, same s k a.0 b, named-joins t, named-pending t) refl
  named-asked who (events.Make action ∷ t) a k b = rw (named-asked who t a.1 k b, named-is t a.1 k b, named-makes t) refl
  named-asked who (events.Poll ∷ t) a k b = rw (named-asked who t a.1 k b, named-is t a.1 k b) refl
  named-asked who (events.Observe os wait ∷ t) a k b = rw (named-asked who t a.1 k b, named-is t a.1 k b) refl
  named-asked who (events.Leave ∷ t) a k b = rw (named-asked who t a.1 k b, named-is t a.1 k b) refl
  named-asked who (events.Got s reply ∷ t) a k b = rw (named-asked who t a.1 k b, same s k a.0 b, named-held t) refl
  named-asked who (events.Cut ∷ t) a k b = rw (named-asked who t a.1 k b) refl
  named-asked who (events.Quit ∷ t) a k b = rw (named-asked who t a.1 k b) refl
  named-asked who (events.Show os ∷ t) a k b = rw (named-asked who t a.1 k b) refl

  named-unanswered : (who : Identity) (t : List Event) → AreKnown t → (o : Option ℕ) → ((s : ℕ) → o ≡ Some s → s < length numbers) → unanswered who (named t) (option_map number o) ≡ unanswered who t o
  named-unanswered who t a None b = refl
  named-unanswered who t a (Some s) b = rw (named-got t a s (b s refl), named-asked who t a s (b s refl)) refl

  named-outstanding : (who : Identity) (t : List Event) → AreKnown t → outstanding who (named t) ≡ outstanding who t
  named-outstanding who t a = ap (unanswered who (named t)) (named-current t) ∙ named-unanswered who t a (current_session t) (known-current t a)

  named-for : (who : Identity) (t : List Event) (r : Request) (reply : Reply) → fault_for who (named t) r reply ≡ fault_for who t r reply
  named-for who t r reply = rw (named-told t, named-pending t, named-held t) refl

  named-after : (who : Identity) (t : List Event) (qs : List Request) (reply : Reply) → fault_after who (named t) qs reply ≡ fault_after who t qs reply
  named-after who t [] reply = refl
  named-after who t (q ∷ qs) reply = named-for who t q reply

  named-fault : (who : Identity) (t : List Event) → AreKnown t → (reply : Reply) → first_fault_of_reply who (named t) reply ≡ first_fault_of_reply who t reply
  named-fault who t a reply = ap (λ (qs : List Request). fault_after who (named t) qs reply) (named-outstanding who t a) ∙ named-after who t (outstanding who t) reply

  -- ---- Events

  named-below : (t : List Event) (m : ℕ) → m < length numbers → AllByRecursion (λ k. k < m) (sessions_begun t) → AllByRecursion (λ k. k < number m) (sessions_begun (named t))
  named-below [] m known b = tt
  named-below (events.Join s ∷ t) m known b = (rising numbers asc s m b.0 known, named-below t m known b.1)
  named-below (events.Make action ∷ t) m known b = named-below t m known b
  named-below (events.Poll ∷ t) m known b = named-below t m known b
  named-below (events.Observe os wait ∷ t) m known b = named-below t m known b
  named-below (events.Leave ∷ t) m known b = named-below t m known b
  named-below (events.Got s reply ∷ t) m known b = named-below t m known b
  named-below (events.Cut ∷ t) m known b = named-below t m known b
  named-below (events.Quit ∷ t) m known b = named-below t m known b
  named-below (events.Show os ∷ t) m known b = named-below t m known b

  -- Any other event than a Join.
  named-comes : (who : Identity) (t : List Event) → AreInTurn who 0 t → AreKnown t → (e : Event) → NamesBelow (length numbers) e → MayCome who 0 t e → MayComeNext who (named t) (in_sessions numbers e)
  named-comes who t p a (events.Join s) known m =
      All-from_recursion (λ n. n < number s) (sessions_begun (named t))
      (named-below t s known (subst (λ (k : ℕ). AllByRecursion (λ n. n < k) (sessions_begun t)) (sym m) (turn-below who 0 t p)))
  named-comes who t p a (events.Make action) known m = record {
    joined = named-session t ∙ m.joined;
    good = m.good;
    room = rw (named-pending t) m.room;
    calm = rw (named-outstanding who t a) m.calm;
  }
  named-comes who t p a events.Poll known m = record { joined = named-session t ∙ m.joined; calm = rw (named-outstanding who t a) m.calm }
  named-comes who t p a (events.Observe os wait) known m = record { joined = named-session t ∙ m.joined; good = m.good; calm = rw (named-outstanding who t a) m.calm }
  named-comes who t p a events.Leave known m = record { joined = named-session t ∙ m.joined; settled = named-outstanding who t a ∙ m.settled }
  named-comes who t p a (events.Got s reply) known m = record {
    current = named-current t ∙ ap (option_map number) m.current;
    taken = named-fault who t a reply ∙ m.taken;
  }
  named-comes who t p a events.Cut known m = tt
  named-comes who t p a events.Quit known m = tt
  named-comes who t p a (events.Show os) known m = tt

  -- Each event of a client in turn names a session that has a number.
  knows : (who : Identity) (t : List Event) → AreInTurn who 0 t → joins t ≤ length numbers → AreKnown t
  knows who [] p enough = tt
  knows who (events.Join s ∷ t) p enough = (omega (arith, p.0, enough), knows who t p.1 (omega (arith, enough)))
  knows who (events.Make action ∷ t) p enough = (tt, knows who t p.1 enough)
  knows who (events.Poll ∷ t) p enough = (tt, knows who t p.1 enough)
  knows who (events.Observe os wait ∷ t) p enough = (tt, knows who t p.1 enough)
  knows who (events.Leave ∷ t) p enough = (tt, knows who t p.1 enough)
  knows who (events.Got s reply ∷ t) p enough = (below_turn who 0 t p.1 s (length numbers) p.0.current (omega (arith, enough)), knows who t p.1 enough)
  knows who (events.Cut ∷ t) p enough = (tt, knows who t p.1 enough)
  knows who (events.Quit ∷ t) p enough = (tt, knows who t p.1 enough)
  knows who (events.Show os ∷ t) p enough = (tt, knows who t p.1 enough)

  fewer : (e : Event) (t : List Event) → joins t ≤ joins (e ∷ t)
  fewer (events.Join s) t = omega arith
  fewer (events.Make a) t = omega arith
  fewer events.Poll t = omega arith
  fewer (events.Observe os wait) t = omega arith
  fewer events.Leave t = omega arith
  fewer (events.Got s reply) t = omega arith
  fewer events.Cut t = omega arith
  fewer events.Quit t = omega arith
  fewer (events.Show os) t = omega arith

  pub named-events : (who : Identity) (t : List Event) → AreInTurn who 0 t → joins t ≤ length numbers → AreClientEvents who (map (in_sessions numbers) t)
  named-events who [] p enough = tt
  named-events who (e ∷ t) p enough =
      let known = knows who (e ∷ t) p enough in
      let few : joins t ≤ length numbers = omega (arith, enough, fewer e t) in
      (named-comes who t p.1 known.1 e known.0 p.0, named-events who t p.1 few)

pub numbered-trace : (numbers : List ℕ) (c : ClientView) → IsNumberedIn numbers c → IsClientTrace c.who.shape (trace_in numbers c)
numbered-trace numbers c is = record {
  client = is.client;
  interest = record { few = is.interest.few; ascending = is.interest.ascending; objects = is.interest.objects };
  events = subst (AreClientEvents c.who) (sym (reverse-reverse (map (in_sessions numbers) c.events))) (named-events numbers is.ascending c.who c.events is.turn is.enough);
}
