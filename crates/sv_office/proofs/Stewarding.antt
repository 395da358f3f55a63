-- What the steward's calls add.
use Rattle.std.proofs.Common.{◌≡◌, ◌≢◌, inl, inr, ℕ, Bool, true, false, ◌||◌, List, map, Option, Some, None, refl, sym, ap, ◌∙◌, subst, eq-eqb}
use Rattle.sv_wire.specs.declared.message.Item.{Item}
use Rattle.sv_wire.specs.declared.message.Request.{Request}
use Rattle.sv_wire.specs.declared.message.Request.TheVariants as requests
use Rattle.sv_wire.specs.declared.message.Reply.{Reply}
use Rattle.sv_journal.specs.declared.entry.Entry.{Entry}
use Rattle.sv_journal.specs.History.{accepted, actions_of}
use Rattle.sv_journal.specs.Living.{living}
use Rattle.sv_journal.specs.Sessions.{positions_in}
use Rattle.sv_core.specs.Rows.{has_entry}
use Rattle.law_system.specs.Told.{ReportsSerial}
use Rattle.sv_living.specs.World.{WorldView, after, reply_in}
use Rattle.sv_client.specs.Kinds.{asks_for_done}
use Rattle.sv_client.specs.Taking.{items_of}
use Rattle.sv_office.specs.Admitting.{number_in, steward_number}
use Rattle.sv_office.specs.Entering.{GoesOn, GrowsBy, IsEntryOf, AsksIn, KeepsOwn, IsReport, IsReported, IsStewards, WasEntered, is_steward_ask}
use Rattle.sv_office.specs.Offices.{HasBegun}
use Rattle.sv_office.specs.Stewarding.{Reports, is_refused, reported_at}
use Rattle.sv_office.specs.Trusting.{StaysSerial}
use Rattle.sv_office.proofs.Adding.{goes_as, goes_by, goes_then, entry_stays, asks_before}
use Rattle.sv_office.proofs.Entered.{asks_entered}
use Rattle.sv_office.proofs.Knowing.{joins_report_nothing, polls_report_nothing}
use Rattle.sv_office.proofs.Polling.{full_positions, polled_idle, polled_relay}

one : {s t : ℕ} → Some s ≡ Some t → s ≡ t
one e = cc

pub begun_stays : {may : Entry → Type 0} {v w : WorldView} {mine : Option ℕ} → GoesOn may v w → HasBegun v mine → HasBegun w mine
begun_stays on begun s is = entry_stays on.added s (begun s is)

-- A session in which something was entered has an entry.
pub begun_entered : (v w : WorldView) (s : ℕ) (request : Request) → w ≡ after v s request → HasBegun w (Some s)
begun_entered v w s request world t is = subst (λ (x : ℕ). has_entry w.history x ≡ true) (one is) has
  where
    has : has_entry w.history s ≡ true
    has = subst (λ (x : WorldView). has_entry x.history s ≡ true) (sym world) (ap (λ (b : Bool). b || has_entry v.history s) (eq-eqb s s refl))

-- It has the session afterwards in which it asked.
pub keeps_asking : (h : List Entry) (mine : Option ℕ) (s : ℕ) → AsksIn h mine s → KeepsOwn h mine (Some s)
keeps_asking h mine s asks t is = subst (λ (x : ℕ). AsksIn h mine x) (one is) asks

pub still_asking : (h : List Entry) (mine : Option ℕ) (s : ℕ) → AsksIn h mine s → mine ≢ None → Some s ≡ mine
still_asking h mine s (inl has) some = sym has
still_asking h mine s (inr none) some = absurd (some none.0)

-- A Join of the steward, in the session in which it asks. It reports nothing.
pub stewards_entered : (v w : WorldView) (mine : Option ℕ) (s : ℕ) (request : Request) → number_in request ≡ Some steward_number → AsksIn v.history mine s
    → GrowsBy (IsEntryOf s request) v w → (ReportsSerial v.rules.world.values (actions_of v.history) request → StaysSerial v w)
    → GoesOn (IsStewards v.history mine) v w
stewards_entered v w mine s request joins asks on serial =
    goes_as (λ e is. (asks_entered v.history mine s request asks e is, inr (ap number_in is.1 ∙ joins)))
    (goes_by on (serial (joins_report_nothing v steward_number request joins)))

-- In one call after the other.
pub stewards_then : (v w x : WorldView) (mine mid : Option ℕ) → KeepsOwn v.history mine mid → (mid ≡ None → mine ≡ None) → GoesOn (IsStewards v.history mine) v w
    → GoesOn (IsStewards w.history mid) w x → GoesOn (IsStewards v.history mine) v x
stewards_then v w x mine mid keeps none first next = goes_then first (goes_as (λ e is. (asks_before first.added keeps none e.session is.0, is.1)) next)

pub report_entered : (v w : WorldView) (mine : Option ℕ) (s : ℕ) (request : Request) → mine ≡ Some s → is_steward_ask request ≡ true
    → GoesOn (IsEntryOf s request) v w → GoesOn (IsReport mine) v w
report_entered v w mine s request has report on =
    goes_as (λ e is. (has ∙ ap (λ (t : ℕ). Some t) (sym is.0), ap is_steward_ask is.1 ∙ report)) on

pub poll_entered : (v w : WorldView) (mine : Option ℕ) (s : ℕ) (request : Request) → mine ≡ Some s → request ≡ requests.Poll
    → GoesOn (IsEntryOf s request) v w → GoesOn (IsReport mine) v w
poll_entered v w mine s request has poll = report_entered v w mine s request has (ap is_steward_ask poll)

-- A Poll reports nothing.
pub poll_on : (v w : WorldView) (s : ℕ) (request : Request) → request ≡ requests.Poll → GrowsBy (IsEntryOf s request) v w
    → (ReportsSerial v.rules.world.values (actions_of v.history) request → StaysSerial v w) → GoesOn (IsEntryOf s request) v w
poll_on v w s request poll on serial = goes_by on (serial (polls_report_nothing v request poll))

pub reported_poll : (t : ℕ) (v w : WorldView) (request : Request) (reply : Reply) → request ≡ requests.Poll → WasEntered v w t request reply
    → asks_for_done reply ≡ false → is_refused reply ≡ false → IsReported t v.history w.history
reported_poll t v w request reply poll entered nothing taken =
    subst (λ (x : WorldView). IsReported t v.history x.history) (sym entered.world) (IsReported.polled refl poll
    (polled_idle (living v.stewardship) v.rules v.history t (accepted w.history) request reply poll entered.whole taken nothing))

pub reported_done : (t : ℕ) (v w x : WorldView) (request done : Request) (reply : Reply) → request ≡ requests.Poll → WasEntered v w t request reply
    → is_refused reply ≡ false → Reports reply done → x ≡ after w t done → IsReported t v.history x.history
reported_done t v w x request done reply poll entered taken reports later =
    subst (λ (y : WorldView). IsReported t v.history y.history) (sym later)
    (subst (λ (y : WorldView). IsReported t v.history (after y t done).history) (sym entered.world)
    (IsReported.reported reports.results refl poll
    (polled_relay (living v.stewardship) v.rules v.history t (accepted w.history) request reply poll entered.whole taken reports.some) refl reports.done each))
  where
    each : reported_at reports.results ≡ positions_in (reply_in v t request)
    each = reports.each ∙ ap (λ (r : Reply). map (λ (i : Item). i.pos) (items_of r)) entered.whole ∙ full_positions (accepted w.history) (reply_in v t request)

-- The steward's reports, in one call after the other.
pub of_more : {v w x : WorldView} {mine later : Option ℕ} → later ≡ mine → GoesOn (IsReport mine) v w → GoesOn (IsReport later) w x → GoesOn (IsReport mine) v x
of_more same first next = goes_then first (goes_as (λ e is. (sym same ∙ is.0, is.1)) next)
