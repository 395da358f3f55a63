-- How a connection and its world stand, while a request of it is answered.
use Rattle.std.proofs.Common.{◌≡◌, ◌≢◌, ◌⊎◌, inl, inr, ℕ, ◌≤◌, Bool, true, false, List, length, Option, Some, None, refl, sym, ap, ◌∙◌, subst}
use Rattle.std.specs.Prelude.{Result, Ok, Err, OnOk, IfSome}
use Rattle.std.proofs.lemmas.Result.{on_ok_weaker}
use Rattle.sv_world.specs.Limits.{most_bound}
use Rattle.sv_wire.specs.declared.message.Request.{Request}
use Rattle.sv_wire.specs.declared.message.Reply.{Reply}
use Rattle.sv_journal.specs.declared.entry.Entry.{Entry}
use Rattle.sv_journal.specs.History.{accepted}
use Rattle.sv_living.specs.Sessions.{AreInOrder}
use Rattle.sv_living.specs.World.{WorldView, after}
use Rattle.sv_keys.specs.Keeping.{KeysView}
use Rattle.sv_office.specs.Entering.{GoesOn, KeepsOwn, AsksIn, AsksInOne, IsEntryOf, IsReport, IsEndOf, IsEnded, Follows, CameOf, CameOfHeld, CameOfAsking, MayEnter, MayHold, WasAnswered, WasFollowed, WasReleased}
use Rattle.sv_office.specs.Guests.{HasYetToAsk, Stays}
use Rattle.sv_office.specs.Offices.{IsNotStewards, HasBegun}
use Rattle.sv_office.specs.Taking.{WasTaken}
use Rattle.sv_office.specs.Telling.{IsServedGuest, ShowsSomething, WouldShowNothing}
use Rattle.sv_office.specs.declared.guest.Guest.{Guest}
use Rattle.sv_office.specs.declared.guest.Held.{Held}
use Rattle.sv_office.specs.declared.guest.Standing.{Standing}
use Rattle.sv_office.specs.declared.guest.Standing.TheVariants as standing
use Rattle.sv_office.proofs.Adding.{goes_as, goes_then, grew}
use Rattle.sv_office.proofs.Answering.{asking_kept, end_came_of, entered_came}
use Rattle.sv_office.proofs.Asking.{apart_stays, held_may}
use Rattle.sv_office.proofs.Followed.{stepped_once}
use Rattle.sv_office.proofs.Served.{all_stay}
use Rattle.sv_office.proofs.Turning.{one_then}

-- It changed before, but not in what stays.
pub stays_as : {a b c : Guest} → b.peer.sent ≡ a.peer.sent → b.key ≡ a.key → b.has_spoken ≡ a.has_spoken → b.held ≡ a.held → Stays b c → Stays a c
stays_as {a} {b} {c} sent key spoken held stays = record { sent = stays.sent ∙ sent; key = stays.key ∙ key; spoken = stays.spoken ∙ spoken; held = as_it stays.held }
  where
    as_it : (c.held ≡ b.held) ⊎ (c.held ≡ None) → (c.held ≡ a.held) ⊎ (c.held ≡ None)
    as_it (inl same) = inl (same ∙ held)
    as_it (inr none) = inr none

-- It changed twice.
pub stays_then : {a b c : Guest} → Stays a b → Stays b c → Stays a c
stays_then {a} {b} {c} first next = record { sent = next.sent ∙ first.sent; key = next.key ∙ first.key; spoken = next.spoken ∙ first.spoken; held = held_then first.held next.held }
  where
    held_then : (b.held ≡ a.held) ⊎ (b.held ≡ None) → (c.held ≡ b.held) ⊎ (c.held ≡ None) → (c.held ≡ a.held) ⊎ (c.held ≡ None)
    held_then kept (inr none) = inr none
    held_then (inl same) (inl also) = inl (also ∙ same)
    held_then (inr none) (inl also) = inr (also ∙ none)

pub none_held : {a b : Option Held} → (b ≡ a) ⊎ (b ≡ None) → a ≡ None → b ≡ None
none_held (inl same) none = same ∙ none
none_held (inr gone) none = gone

-- A connection that is served is so still, while the steward reports.
pub served_reported : (v w : WorldView) (old new : Guest) (steward : Option ℕ) → AreInOrder w.history → GoesOn (IsReport steward) v w → IsNotStewards old.session steward
    → new.session ≡ old.session → IsServedGuest v new → IsServedGuest w new
served_reported v w old new steward order on away same served = all_stay v w new steward order (grew on) (λ s has is. away s (sym same ∙ has) is) served

pub clash : {b : Bool} → b ≡ true → b ≡ false → ⊥
clash t f = let e : true ≡ false = sym t ∙ f in cc

never : {x : ℕ} → None ≡ Some x → ⊥
never e = cc

-- After the report the End of the session may be entered.
pub followed_end : {steward : Option ℕ} {authority : Bool} {last : ℕ} {mine now : Option ℕ} {h m g : List Entry} → WasFollowed steward authority last None None h m
    → IsEnded mine now m g → WasFollowed steward authority last mine now h g
followed_end {steward} {authority} {last} {mine} {now} {h} {m} {g} followed ended = go followed.ended
  where
    go : IsEnded None None followed.middle m → WasFollowed steward authority last mine now h g
    go (inl (stays, same)) = record {
      middle = followed.middle;
      reported = followed.reported;
      at_once = followed.at_once;
      ended = subst (λ (x : List Entry). IsEnded mine now x g) same ended;
    }
    go (inr (none, (e, is, more))) = absurd (never is.0)

pub followed_end_ok : {T E : Type 0} (r : Result T E) (steward mine own now : Option ℕ) (authority : Bool) (last : ℕ) (h m g : List Entry) → own ≡ mine
    → WasFollowed steward authority last None None h m → OnOk r (IsEnded own now m g) → OnOk r (WasFollowed steward authority last mine now h g)
followed_end_ok r steward mine own now authority last h m g same followed ended =
    on_ok_weaker {P = IsEnded own now m g} {Q = WasFollowed steward authority last mine now h g} r
    (λ e. followed_end followed (subst (λ (o : Option ℕ). IsEnded o now m g) same e)) ended

-- The steward reported, and the End of the session was entered.
pub follows_reported : {v w : WorldView} (steward mine : Option ℕ) → GoesOn (IsReport steward) v w → GoesOn (Follows steward mine) v w
follows_reported steward mine on = goes_as (λ e is. inl is) on

pub follows_ended : {v m w : WorldView} {own : Option ℕ} (steward mine : Option ℕ) → own ≡ mine → GoesOn (IsReport steward) v m → GoesOn (IsEndOf own) m w
    → GoesOn (Follows steward mine) v w
follows_ended steward mine same on more = goes_then (follows_reported steward mine on) (goes_as (λ e is. inr (sym same ∙ is.0, is.1)) more)

-- The sessions stay apart.
pub away_after : (v : WorldView) {now later stewards others : Option ℕ} → HasBegun v stewards → IsNotStewards now stewards → KeepsOwn v.history now later
    → others ≡ stewards → IsNotStewards later others
away_after v begun away keeps same s has is = apart_stays v begun away keeps s has (sym same ∙ is)

-- The session in which one asks is not the steward's.
pub apart_asking : (v : WorldView) (mine steward : Option ℕ) (s : ℕ) → HasBegun v steward → IsNotStewards mine steward → AsksIn v.history mine s
    → IsNotStewards (Some s) steward
apart_asking v mine steward s begun away asks = apart_stays v begun away (asking_kept v.history s asks refl)

-- The request may have been entered, and then the End of the session.
pub entered_ended_came : {v m w : WorldView} {own : Option ℕ} (steward mine : Option ℕ) (s : ℕ) (request : Request) → AsksIn v.history mine s
    → GoesOn (IsEntryOf s request) v m → own ≡ mine → GoesOn (IsEndOf own) m w → GoesOn (CameOf v.history steward mine request) v w
entered_ended_came steward mine s request asks on same more =
    goes_then (entered_came steward mine s request asks on) (goes_as (λ e is. inr (inl (sym same ∙ is.0), inl is.1)) more)

pub ended_asked_in : {v w : WorldView} {own : Option ℕ} (steward : Option ℕ) (keys : Option KeysView) (guest : Guest) (request : Request) → own ≡ guest.session
    → GoesOn (IsEndOf own) v w → GoesOn (CameOfAsking v.history steward keys guest request) v w
ended_asked_in steward keys guest request same on = end_came_of steward keys guest request (goes_as (λ e is. (sym same ∙ is.0, is.1)) on)

pub answered_nothing : {steward mine now : Option ℕ} {authority : Bool} {request : Request} {v w : WorldView} → now ≡ mine → w ≡ v
    → WasAnswered steward authority mine now v w request
answered_nothing stays world = inl (inl (stays, ap (λ (x : WorldView). x.history) world))

-- No Observe shows nothing and something.
pub shows_one : (v : WorldView) (guest : Guest) (request : Request) (reply : Reply) → v.rules.bound ≤ most_bound → ShowsSomething v guest request
    → WouldShowNothing v guest request reply → ⊥
shows_one v guest request reply within some (observe, (s, has, quiet)) = clash quiet.0 (some s has observe within)

-- A request was stepped, and what followed its reply.
pub stepped_ok : {T E : Type 0} (r : Result T E) (steward mine own now : Option ℕ) (authority : Bool) (last : ℕ) (v m w : WorldView) (s : ℕ) (request : Request)
    → m ≡ after v s request → last ≡ length (accepted v.history) → mine ≡ Some s → AsksIn v.history own s
    → OnOk r (WasFollowed steward authority last mine now m.history w.history) → OnOk r (WasAnswered steward authority own now v w request)
stepped_ok r steward mine own now authority last v m w s request world last_is has asks =
    on_ok_weaker {P = WasFollowed steward authority last mine now m.history w.history} {Q = WasAnswered steward authority own now v w request} r
    (λ f. stepped_once v m w s request world last_is has asks f)

-- It was not, and the End of the session was entered, where there is one.
pub ended_ok : {T E : Type 0} (r : Result T E) (steward mine own now : Option ℕ) (authority : Bool) (v m w : WorldView) (request : Request) → own ≡ mine → m ≡ v
    → OnOk r (IsEnded own now m.history w.history) → OnOk r (WasAnswered steward authority mine now v w request)
ended_ok r steward mine own now authority v m w request same world =
    on_ok_weaker {P = IsEnded own now m.history w.history} {Q = WasAnswered steward authority mine now v w request} r
    (λ e. inl (subst (λ (o : Option ℕ). IsEnded o now v.history w.history) same (subst (λ (x : WorldView). IsEnded own now x.history w.history) world e)))

-- What is held was answered.
pub released_none : (steward mine now : Option ℕ) (authority : Bool) {v w : WorldView} {held : Option Held} → held ≡ None → now ≡ mine → w ≡ v
    → WasReleased steward authority mine now v w held
released_none steward mine now authority {v} {w} none stays world =
    subst (λ (o : Option Held). WasReleased steward authority mine now v w o) (sym none) (stays, world)

pub released_some : {T E : Type 0} (r : Result T E) (steward mine now : Option ℕ) (authority : Bool) (v w : WorldView) (held : Option Held) (it : Held)
    → held ≡ Some it → OnOk r (WasAnswered steward authority mine now v w it.request) → OnOk r (WasReleased steward authority mine now v w held)
released_some r steward mine now authority v w held it is answered =
    subst (λ (o : Option Held). OnOk r (WasReleased steward authority mine now v w o)) (sym is) answered

pub held_came_of : {v w : WorldView} {held : Option Held} (steward mine : Option ℕ) (it : Held) → held ≡ Some it
    → GoesOn (CameOf v.history steward mine it.request) v w → GoesOn (CameOfHeld v.history steward mine held) v w
held_came_of {v} {w} steward mine it is on =
    subst (λ (o : Option Held). GoesOn (CameOfHeld v.history steward mine o) v w) (sym is) (goes_as (λ e came. came) on)

-- What is held may be entered, where the connection may ask it.
pub held_enters : {v w : WorldView} (steward mine : Option ℕ) (held : Option Held) (keys : Option KeysView) (key : Option (List ℕ)) → MayHold keys key held
    → GoesOn (CameOfHeld v.history steward mine held) v w → GoesOn (MayEnter v.history steward mine keys key) v w
held_enters {v} {w} steward mine held keys key may on = goes_as (held_may v.history steward mine keys key held may) on

-- Then nothing is held but the request.
pub held_none : {held : Option Held} (request : Request) → held ≡ None → IfSome held (λ (h : Held). h.request ≡ request)
held_none request none = subst (λ (o : Option Held). IfSome o (λ (h : Held). h.request ≡ request)) (sym none) tt

pub may_hold_none : {held : Option Held} (keys : Option KeysView) (key : Option (List ℕ)) → held ≡ None → MayHold keys key held
may_hold_none keys key none = subst (λ (o : Option Held). MayHold keys key o) (sym none) tt

module _ (steward mine now : Option ℕ) (authority : Bool) (held : Option Held) (v m : WorldView) (request : Request) (released : WasReleased steward authority mine now v m held) where
  pub taken_nothing : (later : Option ℕ) → later ≡ now → WasTaken steward authority mine later held v m request
  taken_nothing later stays = record { middle = m; now = now; released = released; answered = answered_nothing stays refl }

  pub taken_answered : {T E : Type 0} (r : Result T E) (others later : Option ℕ) (way : Bool) (w : WorldView) → others ≡ steward → way ≡ authority
      → OnOk r (WasAnswered others way now later m w request) → OnOk r (WasTaken steward authority mine later held v w request)
  taken_answered r others later way w same ways answered =
      on_ok_weaker {P = WasAnswered steward authority now later m w request} {Q = WasTaken steward authority mine later held v w request} r
      (λ a. record { middle = m; now = now; released = released; answered = a })
      (subst (λ (b : Bool). OnOk r (WasAnswered steward b now later m w request)) ways
      (subst (λ (o : Option ℕ). OnOk r (WasAnswered o way now later m w request)) same answered))

-- ---- A connection that is served still

-- One that is served still and has no session had none, and nothing was entered.
abbrev Yet : Standing → Option ℕ → Option ℕ → WorldView → WorldView → Type 0
Yet x mine now v w = x ≡ standing.Open → now ≡ None → (mine ≡ None) × (w ≡ v)

-- It asked nothing by then, and nothing after.
pub yet_then : {x y : Standing} {mine mid now : Option ℕ} {u v w : WorldView} → Yet x mine mid u v → x ≡ standing.Open → Yet y mid now v w → Yet y mine now u w
yet_then first open_is next lives none =
    let later = next lives none in
    let before = first open_is later.0 in
    (before.0, later.1 ∙ before.1)

-- A connection that is served still has the session in which it asked.
pub yet_asked : {y : Standing} {mine now : Option ℕ} {s : ℕ} {v w : WorldView} → (y ≡ standing.Open → now ≡ Some s) → Yet y mine now v w
yet_asked still lives none = absurd (never (sym none ∙ still lives))

pub yet_same : {y : Standing} {mine now : Option ℕ} {v w : WorldView} → now ≡ mine → w ≡ v → Yet y mine now v w
yet_same session world lives none = (sym session ∙ none, world)

pub yet_shut : {y : Standing} {mine now : Option ℕ} {v w : WorldView} → y ≢ standing.Open → Yet y mine now v w
yet_shut shut lives none = absurd (shut lives)

pub ok_any : {T E P : Type 0} (r : Result T E) → P → OnOk r P
ok_any (Ok x) p = p
ok_any (Err e) p = tt

pub yet_then_ok : {T E : Type 0} (r : Result T E) (a b c : Guest) (u v w : WorldView) → HasYetToAsk a b u v → b.standing ≡ standing.Open
    → OnOk r (HasYetToAsk b c v w) → OnOk r (HasYetToAsk a c u w)
yet_then_ok r a b c u v w first lives =
    on_ok_weaker {P = HasYetToAsk b c v w} {Q = HasYetToAsk a c u w} r (λ next. yet_then first lives next)

-- It asked in one session before, and on.
pub one_yet : {x : Standing} {mine mid now : Option ℕ} {u v : WorldView} {k : List Entry} {steward stewards : Option ℕ} → AsksInOne steward mine mid u.history v.history
    → Yet x mine mid u v → x ≡ standing.Open → stewards ≡ steward → AsksInOne stewards mid now v.history k → AsksInOne steward mine now u.history k
one_yet first idle lives same next = one_then first (λ none. ((idle lives none).0, ap (λ (x : WorldView). x.history) (idle lives none).1)) same next

pub gone_shut : {x : Standing} → x ≡ standing.Gone → x ≢ standing.Open
gone_shut gone lives = let e : standing.Gone ≡ standing.Open = sym gone ∙ lives in cc

-- Where one is served still, it was served before.
pub end_shut : {old new : Standing} {A B : Type 0} → old ≢ standing.Open → (new ≡ standing.Open → (old ≡ standing.Open) × A × B) → new ≢ standing.Open
end_shut shut still lives = shut (still lives).0

pub not_open : {b : Bool} {x : Standing} → b ≡ false → (x ≡ standing.Open → b ≡ true) → x ≢ standing.Open
not_open closed is lives = clash (is lives) closed
