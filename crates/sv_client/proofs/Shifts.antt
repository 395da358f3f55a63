-- A proper trace stays proper where its first session has another number.
use Rattle.std.proofs.Common.{◌≡◌, ℕ, suc, ◌+◌, ◌≤◌, ◌≢◌, ◌⊎◌, inl, inr, true, false, eqb, List, [], ◌∷◌, ◌++◌, map, Option, Some, None, option_map, refl, sym, ap, ◌∙◌, arith}
use Rattle.std.specs.Prelude.{if◌then◌else◌, All}
use Rattle.std.proofs.lemmas.Bool.{ne_eqb, eq-eqb}
use Rattle.std.proofs.lemmas.Bool.Decides.{eqb_tells}
use Rattle.std.proofs.lemmas.List.Elements.{All-nil, All-cons}
use Rattle.sv_versions.specs.Held.{Held}
use Rattle.sv_wire.specs.declared.message.Reply.{Reply}
use Rattle.sv_wire.specs.declared.message.Request.{Request}
use Rattle.sv_client.specs.declared.trace.Event.{Event}
use Rattle.sv_client.specs.declared.trace.Event.TheVariants as events
use Rattle.sv_client.specs.Traces.{joins, makes, current_session, is_session, held_of, with_reply, pending_of, asked, got}
use Rattle.sv_client.specs.Taking.{Identity, outstanding, unanswered, told, told_by, first_fault_of_reply, fault_for, fault_after, is_out_of_order}
use Rattle.sv_client.specs.Proper.{AreProper, MayFollow, in_session}
use Rattle.sv_client.specs.Seen.{raised, NamesBelow}
use Rattle.sv_client.proofs.Sessions.{current_below}

shifted : (n s first : ℕ) → eqb (n + first) (s + first) ≡ eqb n s
shifted n s first = go (eqb_tells n s)
  where
    go : ((eqb n s ≡ true) × (n ≡ s)) ⊎ ((eqb n s ≡ false) × (n ≢ s)) → eqb (n + first) (s + first) ≡ eqb n s
    go (inl y) = eq-eqb (n + first) (s + first) (ap (λ (k : ℕ). k + first) y.1) ∙ sym y.0
    go (inr m) = ne_eqb (n + first) (s + first) (λ e. m.1 (omega (arith, e))) ∙ sym m.0

module _ (first : ℕ) where
  abbrev pub Up : List Event → List Event
  Up t = map (raised first) t

  pub up_joins : (t : List Event) → joins (Up t) ≡ joins t
  up_joins [] = refl
  up_joins (events.Join s ∷ t) = ap suc (up_joins t)
  up_joins (events.Make a ∷ t) = up_joins t
  up_joins (events.Poll ∷ t) = up_joins t
  up_joins (events.Observe os wait ∷ t) = up_joins t
  up_joins (events.Leave ∷ t) = up_joins t
  up_joins (events.Got s reply ∷ t) = up_joins t
  up_joins (events.Cut ∷ t) = up_joins t
  up_joins (events.Quit ∷ t) = up_joins t
  up_joins (events.Show os ∷ t) = up_joins t

  pub up_makes : (t : List Event) → makes (Up t) ≡ makes t
  up_makes [] = refl
  up_makes (events.Join s ∷ t) = up_makes t
  up_makes (events.Make a ∷ t) = ap suc (up_makes t)
  up_makes (events.Poll ∷ t) = up_makes t
  up_makes (events.Observe os wait ∷ t) = up_makes t
  up_makes (events.Leave ∷ t) = up_makes t
  up_makes (events.Got s reply ∷ t) = up_makes t
  up_makes (events.Cut ∷ t) = up_makes t
  up_makes (events.Quit ∷ t) = up_makes t
  up_makes (events.Show os ∷ t) = up_makes t

  pub up_session : (t : List Event) → in_session (Up t) ≡ in_session t
  up_session [] = refl
  up_session (events.Join s ∷ t) = refl
  up_session (events.Make a ∷ t) = up_session t
  up_session (events.Poll ∷ t) = up_session t
  up_session (events.Observe os wait ∷ t) = up_session t
  up_session (events.Leave ∷ t) = refl
  up_session (events.Got s reply ∷ t) = up_session t
  up_session (events.Cut ∷ t) = up_session t
  up_session (events.Quit ∷ t) = up_session t
  up_session (events.Show os ∷ t) = up_session t

  pub up_told : (t : List Event) → told (Up t) ≡ told t
  up_told [] = refl
  up_told (events.Join s ∷ t) = up_told t
  up_told (events.Make a ∷ t) = up_told t
  up_told (events.Poll ∷ t) = up_told t
  up_told (events.Observe os wait ∷ t) = up_told t
  up_told (events.Leave ∷ t) = up_told t
  up_told (events.Got s reply ∷ t) = ap (told_by reply) (up_told t)
  up_told (events.Cut ∷ t) = up_told t
  up_told (events.Quit ∷ t) = up_told t
  up_told (events.Show os ∷ t) = up_told t

  pub up_held : (t : List Event) → held_of (Up t) ≡ held_of t
  up_held [] = refl
  up_held (events.Join s ∷ t) = up_held t
  up_held (events.Make a ∷ t) = up_held t
  up_held (events.Poll ∷ t) = up_held t
  up_held (events.Observe os wait ∷ t) = up_held t
  up_held (events.Leave ∷ t) = up_held t
  up_held (events.Got s reply ∷ t) = ap (λ (hs : List Held). with_reply hs reply) (up_held t)
  up_held (events.Cut ∷ t) = up_held t
  up_held (events.Quit ∷ t) = up_held t
  up_held (events.Show os ∷ t) = up_held t

  pub up_pending : (t : List Event) → pending_of (Up t) ≡ pending_of t
  up_pending [] = refl
  up_pending (events.Join s ∷ t) = up_pending t
  up_pending (events.Make a ∷ t) = rw (up_pending t, up_makes t, up_held t) refl
  up_pending (events.Poll ∷ t) = up_pending t
  up_pending (events.Observe os wait ∷ t) = up_pending t
  up_pending (events.Leave ∷ t) = up_pending t
  up_pending (events.Got s reply ∷ t) = rw (up_pending t, up_held t) refl
  up_pending (events.Cut ∷ t) = up_pending t
  up_pending (events.Quit ∷ t) = up_pending t
  up_pending (events.Show os ∷ t) = up_pending t

  pub up_current : (t : List Event) → current_session (Up t) ≡ option_map (λ s. s + first) (current_session t)
  up_current [] = refl
  up_current (events.Join s ∷ t) = refl
  up_current (events.Make a ∷ t) = up_current t
  up_current (events.Poll ∷ t) = up_current t
  up_current (events.Observe os wait ∷ t) = up_current t
  up_current (events.Leave ∷ t) = up_current t
  up_current (events.Got s reply ∷ t) = up_current t
  up_current (events.Cut ∷ t) = up_current t
  up_current (events.Quit ∷ t) = up_current t
  up_current (events.Show os ∷ t) = up_current t

  up_got_one : (n s : ℕ) (rs ss : List Reply) (reply : Reply) → rs ≡ ss → (if eqb (n + first) (s + first) then rs ++ reply ∷ [] else rs) ≡ (if eqb n s then ss ++ reply ∷ [] else ss)
  up_got_one n s rs ss reply e = rw (shifted n s first, e) refl

  pub up_got : (t : List Event) (k : ℕ) → got (Up t) (k + first) ≡ got t k
  up_got [] k = refl
  up_got (events.Join s ∷ t) k = up_got t k
  up_got (events.Make a ∷ t) k = up_got t k
  up_got (events.Poll ∷ t) k = up_got t k
  up_got (events.Observe os wait ∷ t) k = up_got t k
  up_got (events.Leave ∷ t) k = up_got t k
  up_got (events.Got s reply ∷ t) k = up_got_one s k (got (Up t) (k + first)) (got t k) reply (up_got t k)
  up_got (events.Cut ∷ t) k = up_got t k
  up_got (events.Quit ∷ t) k = up_got t k
  up_got (events.Show os ∷ t) k = up_got t k

  is_up : (o : Option ℕ) (k : ℕ) → is_session (option_map (λ s. s + first) o) (k + first) ≡ is_session o k
  is_up None k = refl
  is_up (Some s) k = shifted s k first

  pub up_is : (t : List Event) (k : ℕ) → is_session (current_session (Up t)) (k + first) ≡ is_session (current_session t) k
  up_is t k = ap (λ (o : Option ℕ). is_session o (k + first)) (up_current t) ∙ is_up (current_session t) k

  pub up_asked : (who : Identity) (t : List Event) (k : ℕ) → asked who.client who.interest (Up t) (k + first) ≡ asked who.client who.interest t k
  up_asked who [] k = refl
  up_asked who (events.Join s ∷ t) k = rw (up_asked who t k, shifted s k first, up_joins t, up_pending t) refl
  up_asked who (events.Make a ∷ t) k = rw (up_asked who t k, up_is t k, up_makes t) refl
  up_asked who (events.Poll ∷ t) k = rw (up_asked who t k, up_is t k) refl
  up_asked who (events.Observe os wait ∷ t) k = rw (up_asked who t k, up_is t k) refl
  up_asked who (events.Leave ∷ t) k = rw (up_asked who t k, up_is t k) refl
  up_asked who (events.Got s reply ∷ t) k = rw (up_asked who t k, shifted s k first, up_held t) refl
  up_asked who (events.Cut ∷ t) k = rw (up_asked who t k) refl
  up_asked who (events.Quit ∷ t) k = rw (up_asked who t k) refl
  up_asked who (events.Show os ∷ t) k = rw (up_asked who t k) refl

  up_unanswered : (who : Identity) (t : List Event) (o : Option ℕ) → unanswered who (Up t) (option_map (λ s. s + first) o) ≡ unanswered who t o
  up_unanswered who t None = refl
  up_unanswered who t (Some s) = rw (up_got t s, up_asked who t s) refl

  pub up_outstanding : (who : Identity) (t : List Event) → outstanding who (Up t) ≡ outstanding who t
  up_outstanding who t = ap (unanswered who (Up t)) (up_current t) ∙ up_unanswered who t (current_session t)

  up_order : (t : List Event) (reply : Reply) → is_out_of_order (Up t) reply ≡ is_out_of_order t reply
  up_order t reply = rw (up_told t) refl

  up_for : (who : Identity) (t : List Event) (r : Request) (reply : Reply) → fault_for who (Up t) r reply ≡ fault_for who t r reply
  up_for who t r reply = rw (up_told t, up_pending t, up_held t) refl

  up_after : (who : Identity) (t : List Event) (os : List Request) (reply : Reply) → fault_after who (Up t) os reply ≡ fault_after who t os reply
  up_after who t [] reply = refl
  up_after who t (r ∷ rs) reply = up_for who t r reply

  pub up_fault : (who : Identity) (t : List Event) (reply : Reply) → first_fault_of_reply who (Up t) reply ≡ first_fault_of_reply who t reply
  up_fault who t reply = ap (λ (os : List Request). fault_after who (Up t) os reply) (up_outstanding who t) ∙ up_after who t (outstanding who t) reply

  up_follows : (who : Identity) (t : List Event) (e : Event) → MayFollow who 0 t e → MayFollow who first (Up t) (raised first e)
  up_follows who t (events.Join s) m = record { next = rw (up_joins t) (omega (arith, m.next)); few = rw (up_joins t) m.few }
  up_follows who t (events.Make a) m = record {
    joined = up_session t ∙ m.joined;
    good = m.good;
    room = rw (up_pending t) m.room;
    calm = rw (up_outstanding who t) m.calm;
    few = rw (up_makes t) m.few;
  }
  up_follows who t events.Poll m = record { joined = up_session t ∙ m.joined; calm = rw (up_outstanding who t) m.calm }
  up_follows who t (events.Observe os wait) m = record { joined = up_session t ∙ m.joined; good = m.good; calm = rw (up_outstanding who t) m.calm }
  up_follows who t events.Leave m = record { joined = up_session t ∙ m.joined; settled = up_outstanding who t ∙ m.settled }
  up_follows who t (events.Got s reply) m = record {
    current = up_current t ∙ ap (option_map (λ (k : ℕ). k + first)) m.current;
    taken = up_fault who t reply ∙ m.taken;
  }
  up_follows who t events.Cut m = tt
  up_follows who t events.Quit m = tt
  up_follows who t (events.Show os) m = tt

  pub up_proper : (who : Identity) (t : List Event) → AreProper who 0 t → AreProper who first (Up t)
  up_proper who [] p = tt
  up_proper who (e ∷ t) p = (up_follows who t e p.0, up_proper who t p.1)

-- ---- The sessions that a client's events name

pub joins_few : (who : Identity) (t : List Event) → AreProper who 0 t → joins t ≤ 64
joins_few who [] p = omega arith
joins_few who (events.Join s ∷ t) p = omega (arith, p.0.few)
joins_few who (events.Make a ∷ t) p = joins_few who t p.1
joins_few who (events.Poll ∷ t) p = joins_few who t p.1
joins_few who (events.Observe os wait ∷ t) p = joins_few who t p.1
joins_few who (events.Leave ∷ t) p = joins_few who t p.1
joins_few who (events.Got s reply ∷ t) p = joins_few who t p.1
joins_few who (events.Cut ∷ t) p = joins_few who t p.1
joins_few who (events.Quit ∷ t) p = joins_few who t p.1
joins_few who (events.Show os ∷ t) p = joins_few who t p.1

pub names_below : (who : Identity) (t : List Event) → AreProper who 0 t → All (NamesBelow 64) t
names_below who [] p = All-nil (NamesBelow 64)
names_below who (events.Join s ∷ t) p = All-cons (NamesBelow 64) (events.Join s) t (omega (arith, p.0.next, p.0.few)) (names_below who t p.1)
names_below who (events.Make a ∷ t) p = All-cons (NamesBelow 64) (events.Make a) t tt (names_below who t p.1)
names_below who (events.Poll ∷ t) p = All-cons (NamesBelow 64) events.Poll t tt (names_below who t p.1)
names_below who (events.Observe os wait ∷ t) p = All-cons (NamesBelow 64) (events.Observe os wait) t tt (names_below who t p.1)
names_below who (events.Leave ∷ t) p = All-cons (NamesBelow 64) events.Leave t tt (names_below who t p.1)
names_below who (events.Got s reply ∷ t) p = All-cons (NamesBelow 64) (events.Got s reply) t (current_below who 0 t p.1 s 64 p.0.current (omega (arith, joins_few who t p.1))) (names_below who t p.1)
names_below who (events.Cut ∷ t) p = All-cons (NamesBelow 64) events.Cut t tt (names_below who t p.1)
names_below who (events.Quit ∷ t) p = All-cons (NamesBelow 64) events.Quit t tt (names_below who t p.1)
names_below who (events.Show os ∷ t) p = All-cons (NamesBelow 64) (events.Show os) t tt (names_below who t p.1)
