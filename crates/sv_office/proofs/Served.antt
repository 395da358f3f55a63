-- What a connection was told, as its world goes on.
use Rattle.std.proofs.Common.{◌≡◌, ◌≢◌, inl, inr, ℕ, Bool, true, false, ◌&&◌, ◌||◌, nat_eq, not, List, [], ◌∷◌, ◌++◌, Option, Some, None, refl, sym, ap, ◌∙◌, subst, append-nil, eq-eqb, ne_eqb}
use Rattle.std.proofs.lemmas.Bool.{or_parts}
use Rattle.sv_wire.specs.declared.message.Reply.{Reply}
use Rattle.sv_wire.specs.Grammar.{IsWireReply}
use Rattle.sv_wire.specs.declared.message.Request.{Request}
use Rattle.sv_journal.specs.declared.entry.Entry.{Entry}
use Rattle.sv_journal.specs.Answer.{Rules}
use Rattle.sv_journal.specs.History.{accepted, full_reply}
use Rattle.sv_journal.specs.Living.{Stewardship}
use Rattle.sv_journal.specs.Sessions.{is_end, is_ended}
use Rattle.sv_core.specs.Rows.{has_entry}
use Rattle.sv_living.specs.Sessions.{is_open, may_ask, AreInOrder}
use Rattle.sv_living.specs.World.{WorldView, after, reply_in}
use Rattle.sv_living.proofs.Turns.{open-parts}
use Rattle.sv_office.specs.Entering.{AreAdded, GrowsBy, GoesOn, AsksIn, IsGuests, WasEntered}
use Rattle.sv_office.specs.Laws.{OthersStay, AllStay}
use Rattle.sv_wire.specs.declared.message.Request.TheVariants as requests
use Rattle.sv_office.specs.Guests.{ClosesGuest, closed}
use Rattle.sv_office.specs.Telling.{WereTold, WereToldIn, is_gone, WasTold, IsServedGuest, IsServedIn, IsOwed, WouldShowNothing}
use Rattle.sv_office.specs.declared.guest.Guest.{Guest}
use Rattle.sv_office.specs.declared.guest.Standing.{Standing}
use Rattle.sv_office.specs.declared.guest.Standing.TheVariants as standing
use Rattle.sv_office.proofs.Adding.{grew}
use Rattle.sv_office.proofs.Orders.{apart, unended_who_asks, open_after}

-- A session without entries was told nothing.
pub told_fresh : (r : Rules) (w : Stewardship) (s : ℕ) (h : List Entry) → has_entry h s ≡ false → WereTold r w s h []
told_fresh r w s [] none = WereTold.nothing
told_fresh r w s (e ∷ h) none =
    let parts = or_parts (nat_eq e.session s) (has_entry h s) none in
    WereTold.other (unlike parts.0) (told_fresh r w s h parts.1)
  where
    unlike : nat_eq e.session s ≡ false → e.session ≢ s
    unlike f same = let clash : true ≡ false = sym (eq-eqb e.session s same) ∙ f in cc

-- Entries of other sessions tell a session nothing, and leave it open.
pub told_stays : {may : Entry → Type 0} {r : Rules} {w : Stewardship} {s : ℕ} {h g : List Entry} {told : List Reply} → AreAdded may h g
    → ((e : Entry) → may e → e.session ≢ s) → WereTold r w s h told → WereTold r w s g told
told_stays AreAdded.none others t = t
told_stays (AreAdded.one {e = e} before m) others t = WereTold.other (others e m) (told_stays before others t)

open_beside : (a b c d : Bool) → a ≡ false → (b && not c) ≡ true → ((a || b) && not ((a && d) || c)) ≡ true
open_beside a b c d f h = ap (λ (x : Bool). (x || b) && not ((x && d) || c)) f ∙ h

pub open_stays : {may : Entry → Type 0} {s : ℕ} {h g : List Entry} → AreAdded may h g → ((e : Entry) → may e → e.session ≢ s) → is_open h s ≡ true → is_open g s ≡ true
open_stays AreAdded.none others lives = lives
open_stays {s = s} (AreAdded.one {g = g} {e = e} before m) others lives =
    open_beside (nat_eq e.session s) (has_entry g s) (is_ended g s) (is_end e.request) (ne_eqb e.session s (others e m)) (open_stays before others lives)

ended_beside : (a b : Bool) → b ≡ true → (a || b) ≡ true
ended_beside true b t = refl
ended_beside false b t = t

pub ended_stays : {may : Entry → Type 0} {h g : List Entry} → AreAdded may h g → (s : ℕ) → is_ended h s ≡ true → is_ended g s ≡ true
ended_stays AreAdded.none s over = over
ended_stays (AreAdded.one {g = g} {e = e} before m) s over = ended_beside (nat_eq e.session s && is_end e.request) (is_ended g s) (ended_stays before s over)

-- A session that is over gets no entry.
pub told_over : {may : Entry → Type 0} {r : Rules} {w : Stewardship} {s : ℕ} {h g : List Entry} {told : List Reply} → AreInOrder g → AreAdded may h g
    → is_ended h s ≡ true → WereTold r w s h told → WereTold r w s g told
told_over order AreAdded.none over t = t
told_over {s = s} order (AreAdded.one {g = g} {e = e} before m) over t = WereTold.other unlike (told_over order.1 before over t)
  where
    unlike : e.session ≢ s
    unlike same =
        let none = unended_who_asks g order.1 e.session order.0 in
        let clash : true ≡ false = sym (ended_stays before s over) ∙ ap (is_ended g) (sym same) ∙ none in cc

module _ (v w : WorldView) (rules : w.rules ≡ v.rules) (stewardship : w.stewardship ≡ v.stewardship) where
  moved : (s : ℕ) (told : List Reply) → WereTold v.rules v.stewardship s w.history told → WereToldIn w s told
  moved s told t = subst (λ (x : Rules). WereTold x w.stewardship s w.history told) (sym rules)
      (subst (λ (x : Stewardship). WereTold v.rules x s w.history told) (sym stewardship) t)

-- A connection stands as it stood, while entries of other sessions are added.
pub served_grown : {may : Entry → Type 0} {v w : WorldView} (guest : Guest) → AreInOrder w.history → GrowsBy may v w
    → ((e : Entry) (s : ℕ) → guest.session ≡ Some s → may e → e.session ≢ s) → IsServedGuest v guest → IsServedGuest w guest
served_grown {may} {v} {w} guest order on others = go guest.session refl
  where
    stays : (s : ℕ) (told : List Reply) → ((e : Entry) → may e → e.session ≢ s) → WereToldIn v s told → WereToldIn w s told
    stays s told other t = moved v w on.rules on.stewardship s told (told_stays on.added other t)

    over : (s : ℕ) (told : List Reply) → is_ended v.history s ≡ true → WereToldIn v s told → WereToldIn w s told
    over s told ended t = moved v w on.rules on.stewardship s told (told_over order on.added ended t)

    go : (o : Option ℕ) → guest.session ≡ o → IsServedIn v guest o → IsServedIn w guest o
    go (Some s) is (lives, t) = (
      open_stays on.added (λ e. others e s is) lives,
      record { rest = t.rest; replies = stays s (guest.peer.told ++ t.rest) (λ e. others e s is) t.replies; whole = t.whole },
    )
    go None is (inl none) = inl none
    go None is (inr (shut, (s, ended, t))) = inr (
      shut,
      (
        s,
        ended_stays on.added s ended,
        record { rest = t.rest; replies = over s (guest.peer.told ++ t.rest) ended t.replies; whole = t.whole },
      ),
    )

pub served_stays : {may : Entry → Type 0} {v w : WorldView} (guest : Guest) → AreInOrder w.history → GoesOn may v w
    → ((e : Entry) (s : ℕ) → guest.session ≡ Some s → may e → e.session ≢ s) → IsServedGuest v guest → IsServedGuest w guest
served_stays guest order on = served_grown guest order (grew on)

-- A connection that was told nothing more stands as it stood.
pub served_as : (v : WorldView) (old new : Guest) → new.session ≡ old.session → new.peer.told ≡ old.peer.told
    → (is_gone new.standing ≡ false → is_gone old.standing ≡ false) → (old.standing ≢ standing.Open → new.standing ≢ standing.Open)
    → IsServedGuest v old → IsServedGuest v new
served_as v old new same told gone shut h = subst (λ (o : Option ℕ). IsServedIn v new o) (sym same) (go old.session h)
  where
    told_as : (s : ℕ) → WasTold v s old → WasTold v s new
    told_as s t = record {
      rest = t.rest;
      replies = subst (λ (xs : List Reply). WereToldIn v s (xs ++ t.rest)) (sym told) t.replies;
      whole = λ here. t.whole (gone here);
    }

    go : (o : Option ℕ) → IsServedIn v old o → IsServedIn v new o
    go (Some s) (lives, t) = (lives, told_as s t)
    go None (inl none) = inl (told ∙ none)
    go None (inr (was, (s, ended, t))) = inr (shut was, (s, ended, told_as s t))

-- A connection that is told what it is owed is served; or it is gone.
pub served_told : (v : WorldView) (old new : Guest) (reply : Reply) → new.session ≡ old.session → new.peer.told ≡ old.peer.told ++ reply ∷ []
    → IsOwed v old reply → IsServedGuest v new
served_told v old new reply same told owed =
    subst (λ (o : Option ℕ). IsServedIn v new o) (sym (same ∙ owed.has)) (
      owed.lives,
      record {
        rest = [];
        replies = subst (λ (xs : List Reply). WereToldIn v owed.session xs) (sym (append-nil new.peer.told ∙ told)) owed.replies;
        whole = λ here. refl;
      },
    )

pub served_gone : (v : WorldView) (old new : Guest) (reply : Reply) → new.session ≡ old.session → new.peer.told ≡ old.peer.told
    → new.standing ≡ standing.Gone → IsOwed v old reply → IsServedGuest v new
served_gone v old new reply same told gone owed =
    subst (λ (o : Option ℕ). IsServedIn v new o) (sym (same ∙ owed.has)) (
      owed.lives,
      record {
        rest = reply ∷ [];
        replies = subst (λ (xs : List Reply). WereToldIn v owed.session (xs ++ reply ∷ [])) (sym told) owed.replies;
        whole = λ here. let clash : true ≡ false = sym (ap is_gone gone) ∙ here in cc;
      },
    )

-- What an open connection was told before it asks.
pub told_before : (v : WorldView) (guest : Guest) → AreInOrder v.history → guest.standing ≡ standing.Open → IsServedGuest v guest → (s : ℕ)
    → AsksIn v.history guest.session s → WereToldIn v s guest.peer.told
told_before v guest order open_is served s which = go guest.session refl served which
  where
    one : (s t : ℕ) → Some s ≡ Some t → s ≡ t
    one s t e = cc

    still : is_gone guest.standing ≡ false
    still = ap is_gone open_is

    go : (o : Option ℕ) → guest.session ≡ o → IsServedIn v guest o → AsksIn v.history o s → WereToldIn v s guest.peer.told
    go (Some t) is (lives, told) (inl same) =
        subst (λ (x : ℕ). WereToldIn v x guest.peer.told) (one t s same)
        (subst (λ (xs : List Reply). WereToldIn v t xs) (ap (λ (xs : List Reply). guest.peer.told ++ xs) (told.whole still) ∙ append-nil guest.peer.told) told.replies)
    go (Some t) is h (inr (without, none)) = absurd (never without)
      where
        never : {x : ℕ} → Some x ≡ None → ⊥
        never e = cc
    go None is h (inl with_one) = absurd (never with_one)
      where
        never : {x : ℕ} → None ≡ Some x → ⊥
        never e = cc
    go None is (inl told) (inr (without, none)) =
        subst (λ (xs : List Reply). WereToldIn v s xs) (sym told) (told_fresh v.rules v.stewardship s v.history none)
    go None is (inr (shut, rest)) h = absurd (shut open_is)

-- A request that was stepped: the connection is owed its reply.
pub owed_step : (v : WorldView) (s : ℕ) (request : Request) (told : List Reply) (reply : Reply) → AreInOrder v.history → may_ask v.history s ≡ true
    → is_end request ≡ false → reply ≡ full_reply (accepted (after v s request).history) (reply_in v s request) → WereToldIn v s told
    → (is_open (after v s request).history s ≡ true) × WereToldIn (after v s request) s (told ++ reply ∷ [])
owed_step v s request told reply order ask more whole t = (
  open_after v.history order s ask request (reply_in v s request) more,
  WereTold.entry refl more t (ap (λ (r : Reply). told ++ r ∷ []) whole),
)

pub closed_shut : (x : Standing) → closed x ≢ standing.Open
closed_shut standing.Open e = cc
closed_shut standing.Closing e = cc
closed_shut standing.Gone e = cc

closed_gone : (x : Standing) → is_gone (closed x) ≡ false → is_gone x ≡ false
closed_gone standing.Open e = refl
closed_gone standing.Closing e = refl
closed_gone standing.Gone e = e

-- A connection that is closed stands as it stood.
pub served_closed : (v : WorldView) (old new : Guest) → ClosesGuest old new → IsServedGuest v old → IsServedGuest v new
served_closed v old new c = served_as v old new c.session c.told
    (λ here. closed_gone old.standing (subst (λ (x : Standing). is_gone x ≡ false) c.standing here))
    (λ shut is. closed_shut old.standing (sym c.standing ∙ is))

-- Its session has its End.
pub served_ended : (v w : WorldView) (s : ℕ) (old new : Guest) → old.session ≡ Some s → new.peer.told ≡ old.peer.told → new.standing ≡ closed old.standing
    → new.session ≡ None → w ≡ after v s requests.End → IsServedGuest v old → IsServedGuest w new
served_ended v w s old new has told standing_is none world h =
    subst (λ (o : Option ℕ). IsServedIn w new o) (sym none) (inr (shut, (s, ended, is_told (subst (λ (o : Option ℕ). IsServedIn v old o) has h))))
  where
    shut : new.standing ≢ standing.Open
    shut is = closed_shut old.standing (sym standing_is ∙ is)

    ended : is_ended w.history s ≡ true
    ended = subst (λ (x : WorldView). is_ended x.history s ≡ true) (sym world) (ap (λ (b : Bool). (b && true) || is_ended v.history s) (eq-eqb s s refl))

    is_told : (is_open v.history s ≡ true) × WasTold v s old → WasTold w s new
    is_told (lives, t) = record {
      rest = t.rest;
      replies = subst (λ (x : WorldView). WereToldIn x s (new.peer.told ++ t.rest)) (sym world)
          (WereTold.ended refl refl (subst (λ (xs : List Reply). WereToldIn v s (xs ++ t.rest)) (sym told) t.replies));
      whole = λ here. t.whole (closed_gone old.standing (subst (λ (x : Standing). is_gone x ≡ false) standing_is here));
    }

-- A connection that is served has a session with entries.
has_begun : (v : WorldView) (guest : Guest) (s : ℕ) → guest.session ≡ Some s → IsServedGuest v guest → has_entry v.history s ≡ true
has_begun v guest s is h = (open-parts v.history s (subst (λ (o : Option ℕ). IsServedIn v guest o) is h).0).0

pub others_stay : OthersStay
others_stay v w guest steward mine order on away other h = served_grown guest order on unlike h
  where
    unlike : (e : Entry) (s : ℕ) → guest.session ≡ Some s → IsGuests v.history steward mine e → e.session ≢ s
    unlike e s is (inl report) same = away s is (report.0 ∙ ap (λ (t : ℕ). Some t) same)
    unlike e s is (inr (inl own, number)) same = other s is (own ∙ ap (λ (t : ℕ). Some t) same)
    unlike e s is (inr (inr none, number)) same = apart v.history s e.session (has_begun v guest s is h) none.1 (sym same)

pub all_stay : AllStay
all_stay v w guest steward order on away h = served_grown guest order on (λ e s is report same. away s is (report.0 ∙ ap (λ (t : ℕ). Some t) same)) h

-- A connection that is open and has a session was told what its session was.
pub told_now : (v : WorldView) (guest : Guest) (s : ℕ) → guest.standing ≡ standing.Open → guest.session ≡ Some s → IsServedGuest v guest
    → (is_open v.history s ≡ true) × WereToldIn v s guest.peer.told
told_now v guest s open_is has h = go (subst (λ (o : Option ℕ). IsServedIn v guest o) has h)
  where
    go : (is_open v.history s ≡ true) × WasTold v s guest → (is_open v.history s ≡ true) × WereToldIn v s guest.peer.told
    go (lives, t) = (
      lives,
      subst (λ (xs : List Reply). WereToldIn v s xs) (ap (λ (xs : List Reply). guest.peer.told ++ xs) (t.whole (ap is_gone open_is)) ∙ append-nil guest.peer.told) t.replies,
    )

-- What an Observe would be answered that shows nothing is owed.
pub owed_quiet : (v : WorldView) (guest : Guest) (request : Request) (reply : Reply) → guest.standing ≡ standing.Open → IsServedGuest v guest
    → WouldShowNothing v guest request reply → IsOwed v guest reply
owed_quiet v guest request reply open_is h (observe, (s, has, quiet_is)) =
    let told = told_now v guest s open_is has h in
    record { session = s; has = has; lives = told.0; replies = WereTold.quiet request reply quiet_is told.1 refl }

-- The reply of what was entered is owed.
pub owed_entered : (v w : WorldView) (guest new : Guest) (s : ℕ) (request : Request) (reply : Reply) → AreInOrder v.history → guest.standing ≡ standing.Open
    → IsServedGuest v guest → AsksIn v.history guest.session s → is_end request ≡ false → WasEntered v w s request reply → new.session ≡ Some s
    → new.peer.told ≡ guest.peer.told → IsOwed w new reply
owed_entered v w guest new s request reply order open_is served asks more e has same =
    let told = told_before v guest order open_is served s asks in
    let whole = e.whole ∙ ap (λ (x : WorldView). full_reply (accepted x.history) (reply_in v s request)) e.world in
    let o = owed_step v s request guest.peer.told reply order e.asks more whole told in
    record {
      session = s;
      has = has;
      lives = subst (λ (x : WorldView). is_open x.history s ≡ true) (sym e.world) o.0;
      replies = subst (λ (x : WorldView). WereToldIn x s (new.peer.told ++ reply ∷ [])) (sym e.world)
          (subst (λ (xs : List Reply). WereToldIn (after v s request) s (xs ++ reply ∷ [])) (sym same) o.1);
    }

-- It is a message.
pub message_entered : (v w : WorldView) (s : ℕ) (request : Request) (reply : Reply)
    → IsWireReply (full_reply (accepted (after v s request).history) (reply_in v s request)) → WasEntered v w s request reply → IsWireReply reply
message_entered v w s request reply message e =
    subst IsWireReply (sym (e.whole ∙ ap (λ (x : WorldView). full_reply (accepted x.history) (reply_in v s request)) e.world)) message
