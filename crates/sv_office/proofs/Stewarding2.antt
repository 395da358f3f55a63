-- What the steward's calls add, one behind the other.
use Rattle.std.proofs.Common.{◌≡◌, ◌≢◌, inl, ℕ, suc, Bool, true, false, nat_eq, List, [], ◌∷◌, map, Option, Some, None, refl, sym, ap, ◌∙◌, subst, eq-eqb}
use Rattle.std.specs.Prelude.{Result, Ok, Err, OnOk, IfSome, IfNone, if◌then◌else◌, slice_get}
use Rattle.sv_wire.specs.declared.message.Request.{Request}
use Rattle.sv_wire.specs.declared.message.Request.TheVariants as requests
use Rattle.sv_wire.specs.declared.message.Reply.{Reply}
use Rattle.sv_journal.specs.declared.entry.Entry.{Entry}
use Rattle.sv_living.specs.World.{WorldView, after}
use Rattle.sv_client.specs.Kinds.{asks_for_done}
use Rattle.sv_client.specs.Seen.{newly_asked}
use Rattle.sv_client.specs.Taking.{Identity}
use Rattle.sv_client.specs.Traces.{joins, pending_of, submit_of}
use Rattle.sv_client.specs.declared.trace.Event.{Event}
use Rattle.sv_client.specs.declared.trace.Event.TheVariants as events
use Rattle.sv_office.specs.Admitting.{number_in, steward_number}
use Rattle.sv_office.specs.Entering.{GoesOn, IsEntryOf, IsReport, IsStewards, KeepsOwn, IsReported, WasEntered, is_steward_ask}
use Rattle.sv_office.specs.Stewarding.{Reports, is_refused}
use Rattle.sv_office.proofs.Adding.{goes_as, goes_then, keeps_then, still_none}
use Rattle.sv_office.proofs.Stewarding.{poll_entered, report_entered, reported_done, reported_poll, stewards_then}

-- In the session that it had still.
pub keeps_later : {may : Entry → Type 0} {v w : WorldView} {mine mid same later : Option ℕ} → GoesOn may v w → KeepsOwn v.history mine mid
    → (mine ≢ None → mid ≡ mine) → same ≡ mid → KeepsOwn w.history same later → KeepsOwn v.history mine later
keeps_later {w = w} {mine = mine} {mid = mid} {later = later} on keeps still is next =
    keeps_then on.added keeps (still_none mine mid still) (subst (λ (o : Option ℕ). KeepsOwn w.history o later) is next)

pub still_later : (mine mid same later : Option ℕ) → (mine ≢ None → mid ≡ mine) → same ≡ mid → (same ≢ None → later ≡ same) → mine ≢ None → later ≡ mine
still_later mine mid same later still is next some = next (λ none. some (sym (still some) ∙ sym is ∙ none)) ∙ is ∙ still some

pub stewards_later : (v w x : WorldView) (mine mid same : Option ℕ) → KeepsOwn v.history mine mid → (mine ≢ None → mid ≡ mine) → same ≡ mid
    → GoesOn (IsStewards v.history mine) v w → GoesOn (IsStewards w.history same) w x → GoesOn (IsStewards v.history mine) v x
stewards_later v w x mine mid same keeps still is first next =
    stewards_then v w x mine mid keeps (still_none mine mid still) first (subst (λ (o : Option ℕ). GoesOn (IsStewards w.history o) w x) is next)

pub stewards_same : (v w : WorldView) (mine same : Option ℕ) → same ≡ mine → GoesOn (IsStewards v.history mine) v w → GoesOn (IsStewards v.history same) v w
stewards_same v w mine same is on = subst (λ (o : Option ℕ). GoesOn (IsStewards v.history o) v w) (sym is) on

pub keeps_own_same : (v : WorldView) (mine same now later : Option ℕ) → same ≡ mine → later ≡ now → KeepsOwn v.history mine now → KeepsOwn v.history same later
keeps_own_same v mine same now later is ends keeps =
    subst (λ (o : Option ℕ). KeepsOwn v.history o later) (sym is) (subst (λ (o : Option ℕ). KeepsOwn v.history mine o) (sym ends) keeps)

-- It joined, and then it reported in the session that it has.
pub stewards_and_reports : (v w x : WorldView) (mine mid : Option ℕ) → GoesOn (IsStewards v.history mine) v w → KeepsOwn v.history mine mid
    → GoesOn (IsReport mid) w x → GoesOn (IsStewards v.history mine) v x
stewards_and_reports v w x mine mid first keeps next = goes_then first (goes_as (λ e is. (keeps e.session is.0, inl is.1)) next)

-- What it was sent is reported.
pub reported_ok : {A E : Type 0} (result : Result A E) (mine : Option ℕ) (t : ℕ) (v w x : WorldView) (request done : Request) (reply : Reply) (asks : Option Request)
    → mine ≡ Some t → request ≡ requests.Poll → WasEntered v w t request reply → asks ≡ Some done → IfSome asks (Reports reply) → is_refused reply ≡ false
    → OnOk result (x ≡ after w t done) → OnOk result ((s : ℕ) × (mine ≡ Some s) × IsReported s v.history x.history)
reported_ok (Ok a) mine t v w x request done reply asks has poll entered is sent taken later =
    (t, has, reported_done t v w x request done reply poll entered taken (subst (λ (o : Option Request). IfSome o (Reports reply)) is sent) later)
reported_ok (Err e) mine t v w x request done reply asks has poll entered is sent taken later = tt

pub reported_idle : (mine : Option ℕ) (t : ℕ) (v w : WorldView) (request : Request) (reply : Reply) (asks : Option Request) → mine ≡ Some t → request ≡ requests.Poll
    → WasEntered v w t request reply → asks ≡ None → IfNone asks (asks_for_done reply ≡ false) → is_refused reply ≡ false
    → (s : ℕ) × (mine ≡ Some s) × IsReported s v.history w.history
reported_idle mine t v w request reply asks has poll entered is nothing taken =
    (t, has, reported_poll t v w request reply poll entered (subst (λ (o : Option Request). IfNone o (asks_for_done reply ≡ false)) is nothing) taken)

-- It polled, and reported.
pub polled_and_reported : (v w x : WorldView) (mine : Option ℕ) (s : ℕ) (request done : Request) (reply : Reply) (asks : Option Request) → mine ≡ Some s
    → request ≡ requests.Poll → asks ≡ Some done → IfSome asks (Reports reply) → GoesOn (IsEntryOf s request) v w → GoesOn (IsEntryOf s done) w x → GoesOn (IsReport mine) v x
polled_and_reported v w x mine s request done reply asks has poll is sent first next =
    goes_then (poll_entered v w mine s request has poll first)
    (report_entered w x mine s done has (ap is_steward_ask (subst (λ (o : Option Request). IfSome o (Reports reply)) is sent).done) next)

-- ---- The first request of a Join

first_is : {x y : Request} → Some x ≡ Some y → y ≡ x
first_is e = cc

-- It joins under its own number.
pub joins_itself : (who : Identity) (t : List Event) (requests_are : List Request) (request : Request) → who.client.0 ≡ steward_number
    → requests_are ≡ newly_asked who t (events.Join (joins t)) → slice_get requests_are 0 ≡ Some request → number_in request ≡ Some steward_number
joins_itself who t requests_are request number are first = go (nat_eq (joins t) (joins t)) (eq-eqb (joins t) (joins t) refl) (ap (λ (xs : List Request). slice_get xs 0) (sym are) ∙ first)
  where
    go : (b : Bool) → b ≡ true
        → slice_get (if b then requests.Join who.client (suc (joins t)) who.interest ∷ map submit_of (pending_of t) else []) 0 ≡ Some request
        → number_in request ≡ Some steward_number
    go false is at = let e : false ≡ true = is in cc
    go true is at = ap number_in (first_is at) ∙ ap (λ (n : ℕ). Some n) number
