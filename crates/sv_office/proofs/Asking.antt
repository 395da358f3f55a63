-- What comes of what a connection asks.
use Rattle.std.proofs.Common.{◌≡◌, inl, inr, ℕ, Bool, true, false, ◌&&◌, not, List, Option, Some, None, refl, sym, subst}
use Rattle.std.proofs.lemmas.Bool.{and_parts}
use Rattle.sv_wire.specs.declared.message.Request.{Request}
use Rattle.sv_wire.specs.declared.message.Request.TheVariants as requests
use Rattle.sv_journal.specs.declared.entry.Entry.{Entry}
use Rattle.sv_journal.specs.Sessions.{is_end}
use Rattle.sv_living.specs.World.{WorldView}
use Rattle.sv_keys.specs.Keeping.{KeysView}
use Rattle.sv_office.specs.Admitting.{is_admitted, is_observe, is_stewards_number, number_in, shows_key}
use Rattle.sv_office.specs.Entering.{AreAdded, AsksIn, KeepsOwn, IsEndOf, IsGuests, Follows, CameOf, IsHeldOf, CameOfAsking, CameOfHeld, MayEnter, MayHold}
use Rattle.sv_office.specs.Offices.{IsNotStewards, HasBegun}
use Rattle.sv_office.specs.declared.guest.Guest.{Guest}
use Rattle.sv_office.specs.declared.guest.Held.{Held}
use Rattle.sv_office.proofs.Adding.{asks_before}
use Rattle.sv_office.proofs.Orders.{apart}

-- The steward's session is none of a connection's.
pub apart_stays : (v : WorldView) {mine mid steward : Option ℕ} → HasBegun v steward → IsNotStewards mine steward → KeepsOwn v.history mine mid → IsNotStewards mid steward
apart_stays v {mine} begun away keeps s is stewards = go (keeps s is)
  where
    go : AsksIn v.history mine s → ⊥
    go (inl own) = away s own stewards
    go (inr none) = apart v.history s s (begun s stewards) none.1 refl

pub end_came : (h : List Entry) (steward mine : Option ℕ) (request : Request) (e : Entry) → IsEndOf mine e → CameOf h steward mine request e
end_came h steward mine request e is = inr (inl is.0, inl is.1)

pub follows_came : (h : List Entry) (steward mine : Option ℕ) (request : Request) (e : Entry) → Follows steward mine e → CameOf h steward mine request e
follows_came h steward mine request e (inl stewards) = inl stewards
follows_came h steward mine request e (inr ends) = end_came h steward mine request e ends

pub end_asked : (h : List Entry) (steward : Option ℕ) (keys : Option KeysView) (guest : Guest) (request : Request) (e : Entry) → IsEndOf guest.session e
    → CameOfAsking h steward keys guest request e
end_asked h steward keys guest request e is = inr (inl is.0, inl is.1)

pub held_asked : (h : List Entry) (steward : Option ℕ) (keys : Option KeysView) (guest : Guest) (request : Request) → is_admitted keys guest.key request ≡ true → (e : Entry)
    → CameOfHeld h steward guest.session guest.held e → CameOfAsking h steward keys guest request e
held_asked h steward keys guest request admitted e (inl stewards) = inl stewards
held_asked h steward keys guest request admitted e (inr (asks, inl ends)) = inr (asks, inl ends)
held_asked h steward keys guest request admitted e (inr (asks, inr held)) = inr (asks, inr (admitted, inl held))

pub request_asked : {may : Entry → Type 0} {h g : List Entry} {mid : Option ℕ} (steward : Option ℕ) (keys : Option KeysView) (guest : Guest) (request : Request) → AreAdded may h g
    → KeepsOwn h guest.session mid → (mid ≡ None → guest.session ≡ None) → is_admitted keys guest.key request ≡ true → (e : Entry) → CameOf g steward mid request e
    → CameOfAsking h steward keys guest request e
request_asked steward keys guest request added keeps none admitted e (inl stewards) = inl stewards
request_asked steward keys guest request added keeps none admitted e (inr (asks, inl ends)) = inr (asks_before added keeps none e.session asks, inl ends)
request_asked steward keys guest request added keeps none admitted e (inr (asks, inr is)) = inr (asks_before added keeps none e.session asks, inr (admitted, inr is))

none_of_end : (request : Request) → is_end request ≡ true → is_stewards_number (number_in request) ≡ false
none_of_end requests.End e = refl
none_of_end (requests.Join client life interest) e = cc
none_of_end (requests.Submit seq action) e = refl
none_of_end (requests.Done results) e = refl
none_of_end requests.Poll e = refl
none_of_end (requests.Observe objects wait) e = refl
none_of_end requests.Leave e = refl
none_of_end requests.Bad e = refl

not_off : (b : Bool) → not b ≡ true → b ≡ false
not_off false e = refl
not_off true e = cc

-- What is held shows no number, so any key will do.
number_of_observe : (request : Request) → is_observe request ≡ true → number_in request ≡ None
number_of_observe requests.End e = cc
number_of_observe (requests.Join client life interest) e = cc
number_of_observe (requests.Submit seq action) e = cc
number_of_observe (requests.Done results) e = cc
number_of_observe requests.Poll e = cc
number_of_observe (requests.Observe objects wait) e = refl
number_of_observe requests.Leave e = cc
number_of_observe requests.Bad e = cc

shown_at_all : (keys : Option KeysView) (key : Option (List ℕ)) (number : Option ℕ) → shows_key keys key number ≡ true → shows_key keys key None ≡ true
shown_at_all None key number e = refl
shown_at_all (Some keys) None number e = e
shown_at_all (Some keys) (Some digest) number e = refl

observe_admitted : (keys : Option KeysView) (key : Option (List ℕ)) (request : Request) → is_observe request ≡ true → shows_key keys key None ≡ true
    → is_admitted keys key request ≡ true
observe_admitted keys key request observes shown =
    subst (λ (n : Option ℕ). (not (is_stewards_number n) && shows_key keys key n) ≡ true) (sym (number_of_observe request observes)) shown

admitted_parts : (keys : Option KeysView) (key : Option (List ℕ)) (request : Request) → is_admitted keys key request ≡ true
    → (is_stewards_number (number_in request) ≡ false) × (shows_key keys key (number_in request) ≡ true)
admitted_parts keys key request admitted =
    let parts = and_parts (not (is_stewards_number (number_in request))) (shows_key keys key (number_in request)) admitted in
    (not_off (is_stewards_number (number_in request)) parts.0, parts.1)

-- Who may ask something may ask what is held.
pub held_admitted : (keys : Option KeysView) (key : Option (List ℕ)) (held : Option Held) (request other : Request) → is_admitted keys key request ≡ true → IsHeldOf held other
    → is_admitted keys key other ≡ true
held_admitted keys key (Some held) request other admitted is =
    subst (λ (q : Request). is_admitted keys key q ≡ true) (sym is)
    (observe_admitted keys key held.request held.observes (shown_at_all keys key (number_in request) (admitted_parts keys key request admitted).1))
held_admitted keys key None request other admitted is = absurd is

-- What a connection may hold it may hold under any keys with a key.
pub may_hold_with : (before now : Option KeysView) (key shown : Option (List ℕ)) (held : Option Held) → MayHold before key held
    → (shows_key before key None ≡ true → shows_key now shown None ≡ true) → MayHold now shown held
may_hold_with before now key shown None may better = tt
may_hold_with before now key shown (Some held) may better =
    observe_admitted now shown held.request held.observes (better (shown_at_all before key (number_in held.request) (admitted_parts before key held.request may).1))

-- What a connection asks may be entered in its turn.
pub asked_may : (h : List Entry) (steward : Option ℕ) (keys : Option KeysView) (guest : Guest) (request : Request) (e : Entry)
    → CameOfAsking h steward keys guest request e → MayEnter h steward guest.session keys guest.key e
asked_may h steward keys guest request e (inl stewards) = inl stewards
asked_may h steward keys guest request e (inr (asks, inl ends)) = inr (asks, inl ends)
asked_may h steward keys guest request e (inr (asks, inr (admitted, inl held))) =
    inr (asks, inr (held_admitted keys guest.key guest.held request e.request admitted held))
asked_may h steward keys guest request e (inr (asks, inr (admitted, inr is))) =
    inr (asks, inr (subst (λ (q : Request). is_admitted keys guest.key q ≡ true) (sym is) admitted))

held_is : (keys : Option KeysView) (key : Option (List ℕ)) (held : Option Held) (request : Request) → MayHold keys key held → IsHeldOf held request
    → is_admitted keys key request ≡ true
held_is keys key (Some held) request may is = subst (λ (q : Request). is_admitted keys key q ≡ true) (sym is) may
held_is keys key None request may is = absurd is

pub held_may : (h : List Entry) (steward mine : Option ℕ) (keys : Option KeysView) (key : Option (List ℕ)) (held : Option Held) → MayHold keys key held → (e : Entry)
    → CameOfHeld h steward mine held e → MayEnter h steward mine keys key e
held_may h steward mine keys key held may e (inl stewards) = inl stewards
held_may h steward mine keys key held may e (inr (asks, inl ends)) = inr (asks, inl ends)
held_may h steward mine keys key held may e (inr (asks, inr is)) = inr (asks, inr (held_is keys key held e.request may is))

pub end_may : (h : List Entry) (steward mine : Option ℕ) (keys : Option KeysView) (key : Option (List ℕ)) (e : Entry) → IsEndOf mine e
    → MayEnter h steward mine keys key e
end_may h steward mine keys key e is = inr (inl is.0, inl is.1)

-- No connection joins as the steward.
pub may_guests : (h : List Entry) (steward mine : Option ℕ) (keys : Option KeysView) (key : Option (List ℕ)) (e : Entry) → MayEnter h steward mine keys key e
    → IsGuests h steward mine e
may_guests h steward mine keys key e (inl stewards) = inl stewards
may_guests h steward mine keys key e (inr (asks, inl ends)) = inr (asks, none_of_end e.request ends)
may_guests h steward mine keys key e (inr (asks, inr admitted)) = inr (asks, (admitted_parts keys key e.request admitted).0)

pub end_guests : (h : List Entry) (steward mine : Option ℕ) (e : Entry) → IsEndOf mine e → IsGuests h steward mine e
end_guests h steward mine e is = inr (inl is.0, none_of_end e.request is.1)
