-- How a connection's request is answered.
use Rattle.std.proofs.Common.{◌≡◌, ◌⊎◌, inl, inr, ℕ, true, false, List, Option, Some, None, refl, sym, ◌∙◌, subst}
use Rattle.sv_wire.specs.Grammar.{IsWireReply}
use Rattle.sv_wire.specs.declared.message.Request.{Request}
use Rattle.sv_wire.specs.declared.message.Request.TheVariants as requests
use Rattle.sv_wire.specs.declared.message.Reply.{Reply}
use Rattle.sv_journal.specs.declared.entry.Entry.{Entry}
use Rattle.sv_journal.specs.Sessions.{is_end}
use Rattle.sv_living.specs.Quiet.{IsQuietReply}
use Rattle.sv_living.specs.World.{WorldView}
use Rattle.sv_keys.specs.Keeping.{KeysView}
use Rattle.sv_office.specs.Admitting.{is_admitted, is_observe}
use Rattle.sv_office.specs.Entering.{GoesOn, KeepsOwn, AsksIn, IsEntryOf, IsEndOf, Follows, CameOf, CameOfHeld, CameOfAsking}
use Rattle.sv_office.specs.Telling.{WouldShowNothing}
use Rattle.sv_office.specs.declared.guest.Guest.{Guest}
use Rattle.sv_office.proofs.Adding.{goes_as, goes_then}
use Rattle.sv_office.proofs.Asking.{end_asked, held_asked, request_asked}
use Rattle.sv_office.proofs.Entered.{asks_entered}

-- An answer that shows nothing is a message.
pub quiet_message : (v : WorldView) (guest : Guest) (request : Request) (reply : Reply)
    → ((s : ℕ) (q : Request) (r : Reply) → IsQuietReply v.rules v.stewardship v.history s q (Some r) → IsWireReply r) → WouldShowNothing v guest request reply
    → IsWireReply reply
quiet_message v guest request reply all (observe, (s, has, quiet)) = all s request reply quiet

one : {s t : ℕ} → Some s ≡ Some t → s ≡ t
one e = cc

-- One has the session afterwards in which one asked.
pub asking_kept : (h : List Entry) {mine after : Option ℕ} (s : ℕ) → AsksIn h mine s → after ≡ Some s → KeepsOwn h mine after
asking_kept h {mine} s asks has t is = subst (λ (u : ℕ). AsksIn h mine u) (one (sym has ∙ is)) asks

-- The request was entered, or nothing.
pub entered_came : {v w : WorldView} (steward mine : Option ℕ) (s : ℕ) (request : Request) → AsksIn v.history mine s → GoesOn (IsEntryOf s request) v w
    → GoesOn (CameOf v.history steward mine request) v w
entered_came {v} steward mine s request asks on = goes_as (λ e is. inr (asks_entered v.history mine s request asks e is, inr is.1)) on

pub ended_came : {v w : WorldView} (steward mine : Option ℕ) (request : Request) → GoesOn (IsEndOf mine) v w → GoesOn (CameOf v.history steward mine request) v w
ended_came steward mine request on = goes_as (λ e is. inr (inl is.0, inl is.1)) on

-- The request was entered, and what follows its reply came.
pub followed_came : {v mid w : WorldView} (steward mine now : Option ℕ) (s : ℕ) (request : Request) → AsksIn v.history mine s → now ≡ Some s
    → GoesOn (IsEntryOf s request) v mid → GoesOn (Follows steward now) mid w → GoesOn (CameOf v.history steward mine request) v w
followed_came {v} steward mine now s request asks has on more = goes_then (entered_came steward mine s request asks on) (goes_as all more)
  where
    all : (e : Entry) → Follows steward now e → CameOf v.history steward mine request e
    all e (inl is) = inl is
    all e (inr ends) = inr (subst (λ (t : ℕ). AsksIn v.history mine t) (one (sym has ∙ ends.0)) asks, inl ends.1)

-- With no session afterwards, nothing is to be kept.
pub none_kept : (h : List Entry) {mine after : Option ℕ} → after ≡ None → KeepsOwn h mine after
none_kept h none t is = absurd (never (sym none ∙ is))
  where
    never : {x : ℕ} → None ≡ Some x → ⊥
    never e = cc

-- After the reply it has its session still, or none.
pub asking_kept_or : (h : List Entry) {mine mid after : Option ℕ} (s : ℕ) → AsksIn h mine s → mid ≡ Some s → (after ≡ mid) ⊎ (after ≡ None) → KeepsOwn h mine after
asking_kept_or h s asks has (inl same) = asking_kept h s asks (same ∙ has)
asking_kept_or h s asks has (inr none) = none_kept h none

-- What is held was answered, and then the request.
pub asked_then : {v mid w : WorldView} {steward stewards now : Option ℕ} (keys : Option KeysView) (guest : Guest) (request : Request) → is_admitted keys guest.key request ≡ true
    → GoesOn (CameOfHeld v.history steward guest.session guest.held) v mid → KeepsOwn v.history guest.session now → (now ≡ None → guest.session ≡ None) → stewards ≡ steward
    → GoesOn (CameOf mid.history stewards now request) mid w → GoesOn (CameOfAsking v.history steward keys guest request) v w
asked_then {v} {mid} {w} {steward} {stewards} {now} keys guest request admitted first keeps none same next =
    goes_then (goes_as (held_asked v.history steward keys guest request admitted) first)
    (goes_as (request_asked steward keys guest request first.added keeps none admitted)
    (subst (λ (o : Option ℕ). GoesOn (CameOf mid.history o now request) mid w) same next))

pub held_came : {v w : WorldView} (steward : Option ℕ) (keys : Option KeysView) (guest : Guest) (request : Request) → is_admitted keys guest.key request ≡ true
    → GoesOn (CameOfHeld v.history steward guest.session guest.held) v w → GoesOn (CameOfAsking v.history steward keys guest request) v w
held_came {v} steward keys guest request admitted on = goes_as (held_asked v.history steward keys guest request admitted) on

pub end_came_of : {v w : WorldView} (steward : Option ℕ) (keys : Option KeysView) (guest : Guest) (request : Request) → GoesOn (IsEndOf guest.session) v w
    → GoesOn (CameOfAsking v.history steward keys guest request) v w
end_came_of {v} steward keys guest request on = goes_as (end_asked v.history steward keys guest request) on

-- An Observe is no End.
pub no_end : (request : Request) → is_observe request ≡ true → is_end request ≡ false
no_end requests.End e = cc
no_end (requests.Join client life interest) e = refl
no_end (requests.Submit seq action) e = refl
no_end (requests.Done results) e = refl
no_end requests.Poll e = refl
no_end (requests.Observe objects wait) e = refl
no_end requests.Leave e = refl
no_end requests.Bad e = refl
