-- What the steward was told, as its world goes on.
use Rattle.std.proofs.Common.{◌≡◌, ◌≢◌, ◌⊎◌, inl, inr, ℕ, Bool, true, false, nat_eq, List, [], ◌∷◌, ◌++◌, length, Option, Some, None, refl, sym, ap, ◌∙◌, subst, ne_eqb, append-nil}
use Rattle.std.specs.Option.{ForSome}
use Rattle.std.specs.Prelude.{IfSome, if◌then◌else◌, option_to_list}
use Rattle.sv_wire.specs.declared.message.Reply.{Reply}
use Rattle.sv_wire.specs.declared.message.Request.{Request}
use Rattle.sv_wire.specs.declared.message.Request.TheVariants as requests
use Rattle.sv_journal.specs.declared.entry.Entry.{Entry}
use Rattle.sv_journal.specs.History.{accepted, actions_of, full_reply}
use Rattle.sv_journal.specs.Laws.{AreWithinLimits}
use Rattle.sv_journal.specs.Answer.{Rules}
use Rattle.sv_journal.specs.Living.{Stewardship, living}
use Rattle.sv_journal.specs.Serving.{Keeping, IsKeeping, LegalFor}
use Rattle.sv_core.specs.Rows.{has_entry}
use Rattle.sv_journal.specs.History.{entry_of}
use Rattle.law_system.specs.Told.{GoesBySerial, GotWhatWasTold, ReportsSerial, telling_by, told_in, told_to}
use Rattle.law_journal.proofs.Counted.{unbegun-nobodys}
use Rattle.sv_living.specs.World.{WorldView, after, reply_in}
use Rattle.sv_keeper.specs.Views.{KeeperView}
use Rattle.sv_client.specs.declared.trace.Event.{Event}
use Rattle.sv_client.specs.declared.trace.Event.TheVariants as events
use Rattle.sv_client.specs.Answers.{got_now}
use Rattle.sv_client.specs.Seen.{newly_asked}
use Rattle.sv_client.specs.Taking.{Identity}
use Rattle.sv_office.specs.Admitting.{number_in, steward_number}
use Rattle.sv_office.specs.Entering.{AreAdded, GrowsBy, AsksIn, IsEntryOf, WasEntered}
use Rattle.sv_office.specs.Knowing.{IsAlone, IsAloneIn, IsTrusted, IsUpToDate}
use Rattle.sv_office.specs.Offices.{IsNotStewards, session_of}
use Rattle.sv_office.specs.Telling.{IsServedGuest, IsServedIn}
use Rattle.sv_office.specs.Trusting.{IsLegalWorld, IsSerialWorld, ReportsSerially}
use Rattle.sv_office.specs.declared.guest.Guest.{Guest}
use Rattle.sv_office.specs.declared.steward.Steward.{Steward}

-- ---- What a session was told

-- Entries of other sessions tell a session nothing.
told_beside : {may : Entry → Type 0} {h g : List Entry} → AreAdded may h g → (s : ℕ) → ((e : Entry) → may e → e.session ≢ s) → told_to g s ≡ told_to h s
told_beside AreAdded.none s others = refl
told_beside (AreAdded.one {g = g} {e = e} before m) s others =
    ap (λ (b : Bool). if b then told_to g s ++ telling_by g e else told_to g s) (ne_eqb e.session s (others e m)) ∙ told_beside before s others

-- The End of a session tells it nothing.
pub told_end : (v w : WorldView) (s : ℕ) → w ≡ after v s requests.End → (t : ℕ) → told_to w.history t ≡ told_to v.history t
told_end v w s is t = ap (λ (x : WorldView). told_to x.history t) is ∙ go (nat_eq s t)
  where
    go : (b : Bool) → (if b then told_to v.history t ++ [] else told_to v.history t) ≡ told_to v.history t
    go true = append-nil (told_to v.history t)
    go false = refl

told_as : (v w : WorldView) (o : Option ℕ) → ((t : ℕ) → o ≡ Some t → told_to w.history t ≡ told_to v.history t) → told_in w.history o ≡ told_in v.history o
told_as v w None same = refl
told_as v w (Some t) same = same t refl

-- The steward is up to date still, where its session was told nothing more.
pub up_to_date : (v w : WorldView) (steward : Option Steward) → ((t : ℕ) → session_of steward ≡ Some t → told_to w.history t ≡ told_to v.history t)
    → ForSome steward (IsUpToDate v) → ForSome steward (IsUpToDate w)
up_to_date v w steward same is one has behind =
    is one has behind ∙ sym (told_as v w one.session (subst (λ (o : Option Steward). (t : ℕ) → session_of o ≡ Some t → told_to w.history t ≡ told_to v.history t) has same))

-- Something was asked in a session that is not the steward's.
pub told_asking : (v w : WorldView) (s : ℕ) (request : Request) (mine : Option ℕ) → GrowsBy (IsEntryOf s request) v w → IsNotStewards (Some s) mine
    → (t : ℕ) → mine ≡ Some t → told_to w.history t ≡ told_to v.history t
told_asking v w s request mine on away t is = told_beside on.added t (λ e entered same. away s refl (is ∙ ap (λ (x : ℕ). Some x) (sym same ∙ entered.0)))

-- ---- Replies to the steward

-- The session in which it asks was told what it got.
pub got_asking : ((h : List Entry) (s : ℕ) (t : List Event) → has_entry h s ≡ false → GotWhatWasTold h None t → GotWhatWasTold h (Some s) t)
    → (h : List Entry) (mine : Option ℕ) (s : ℕ) (t : List Event) → AsksIn h mine s → GotWhatWasTold h mine t → GotWhatWasTold h (Some s) t
got_asking first h mine s t (inl has) got = subst (λ (o : Option ℕ). GotWhatWasTold h o t) has got
got_asking first h mine s t (inr none) got = first h s t none.1 (subst (λ (o : Option ℕ). GotWhatWasTold h o t) none.0 got)

-- The reply to what it asked is all that it lacks.
pub lacks_entered : ((h : List Entry) (e : Entry) (n : ℕ) (t : List Event) → GotWhatWasTold h (Some e.session) t
    → GotWhatWasTold (e ∷ h) (Some e.session) (events.Got n (full_reply (accepted (e ∷ h)) e.reply) ∷ t))
    → (v w : WorldView) (s : ℕ) (request : Request) (reply : Reply) (t : List Event) → WasEntered v w s request reply → GotWhatWasTold v.history (Some s) t
    → GotWhatWasTold w.history (Some s) (events.Got 0 reply ∷ t)
lacks_entered taken v w s request reply t entered got =
    subst (λ (r : Reply). GotWhatWasTold w.history (Some s) (events.Got 0 r ∷ t)) (sym entered.whole)
    (subst (λ (x : WorldView). GotWhatWasTold x.history (Some s) (events.Got 0 (full_reply (accepted x.history) (reply_in v s request)) ∷ t)) (sym entered.world)
    (taken v.history (entry_of s request (reply_in v s request)) 0 t got))

-- It took the reply.
pub took : (h : List Entry) (o : Option ℕ) (before here now : List Event) (reply : Reply) → here ≡ before → now ≡ got_now here reply ∷ here
    → GotWhatWasTold h o (events.Got 0 reply ∷ before) → GotWhatWasTold h o now
took h o before here now reply same is lacks =
    subst (λ (t : List Event). GotWhatWasTold h o t) (sym is) (subst (λ (t : List Event). GotWhatWasTold h o (got_now t reply ∷ t)) (sym same) lacks)

-- ---- What is reported

-- Who joins reports nothing.
pub joins_report_nothing : (v : WorldView) (number : ℕ) (request : Request) → number_in request ≡ Some number
    → ReportsSerial v.rules.world.values (actions_of v.history) request
joins_report_nothing v number (requests.Join client life interest) is = tt
joins_report_nothing v number (requests.Submit seq action) is = tt
joins_report_nothing v number (requests.Done results) is = let no : None ≡ Some number = is in cc
joins_report_nothing v number requests.Poll is = tt
joins_report_nothing v number (requests.Observe objects wait) is = tt
joins_report_nothing v number requests.Leave is = tt
joins_report_nothing v number requests.Bad is = tt
joins_report_nothing v number requests.End is = tt

pub polls_report_nothing : (v : WorldView) (request : Request) → request ≡ requests.Poll → ReportsSerial v.rules.world.values (actions_of v.history) request
polls_report_nothing v request is = subst (λ (q : Request). ReportsSerial v.rules.world.values (actions_of v.history) q) (sym is) tt

-- What is asked by a reply reports serial results, if all was got with it.
pub reports_serial : ((k : Keeping) (r : Rules) (h : List Entry) (session : Option ℕ) (who : Identity) (t : List Event) (reply : Reply) (done : Option Request)
    → IsKeeping k → length r.world.values ≡ r.world.shape.objects → LegalFor k r h → GoesBySerial k r h → GotWhatWasTold h session (got_now t reply ∷ t)
    → option_to_list done ≡ newly_asked who t (got_now t reply) → IfSome done (ReportsSerial r.world.values (actions_of h)))
    → ((w : Stewardship) → IsKeeping (living w)) → (session : Option ℕ) (who : Identity) (t now : List Event) (reply : Reply) (done : Option Request)
    → now ≡ got_now t reply ∷ t → option_to_list done ≡ newly_asked who t (got_now t reply)
    → IfSome done (λ (request : Request). (v : WorldView) → AreWithinLimits v.rules → IsLegalWorld v → IsSerialWorld v → GotWhatWasTold v.history session now
    → ReportsSerial v.rules.world.values (actions_of v.history) request)
reports_serial law keeping session who t now reply None is asks = tt
reports_serial law keeping session who t now reply (Some request) is asks = λ v limits lawful serial got.
    law (living v.stewardship) v.rules v.history session who t reply (Some request) (keeping v.stewardship) limits.objects lawful serial.results
    (subst (λ (x : List Event). GotWhatWasTold v.history session x) is got) asks

-- Nobody else's reports count.
pub others_report_nothing : (v : WorldView) (guest : Guest) (mine : Option ℕ) (s : ℕ) (request : Request)
    → IsAlone v mine → IsServedGuest v guest → AsksIn v.history guest.session s → IsNotStewards (Some s) mine → ReportsSerially v s request
others_report_nothing v guest mine s request alone served asks away authority is joined = absurd (go asks)
  where
    go : AsksIn v.history guest.session s → ⊥
    go (inl has) = away s refl (alone s (subst (λ (o : Option ℕ). IsServedIn v guest o) has served).0 joined)
    go (inr none) = let no : true ≡ false = sym joined ∙ unbegun-nobodys (Some steward_number) v.history s none.1 in cc

-- ---- What an office keeps

the_one : {a b : Steward} → Some a ≡ Some b → a ≡ b
the_one e = cc

module _ {F : Type 0} where
  -- Somebody else asked.
  pub trusted_asked : (old new : KeeperView F) (steward : Option Steward) (s : ℕ) (request : Request) → GrowsBy (IsEntryOf s request) old.world new.world
      → ((mine : Option ℕ) → IsAloneIn old mine → IsAloneIn new mine) → IsNotStewards (Some s) (session_of steward) → IsTrusted old steward → IsTrusted new steward
  trusted_asked old new steward s request on others away t = record {
    alone = others (session_of steward) t.alone;
    told = up_to_date old.world new.world steward (told_asking old.world new.world s request (session_of steward) on away) t.told;
  }

  -- A session had its End.
  pub trusted_ended : (old new : KeeperView F) (steward : Option Steward) (s : ℕ)
      → (new.world ≡ old.world) ⊎ (new.world ≡ after old.world s requests.End) → ((mine : Option ℕ) → IsAloneIn old mine → IsAloneIn new mine)
      → IsTrusted old steward → IsTrusted new steward
  trusted_ended old new steward s one others t = record {
    alone = others (session_of steward) t.alone;
    told = up_to_date old.world new.world steward (λ n is. same one n) t.told;
  }
    where
      same : (new.world ≡ old.world) ⊎ (new.world ≡ after old.world s requests.End) → (n : ℕ) → told_to new.world.history n ≡ told_to old.world.history n
      same (inl is) n = ap (λ (x : WorldView). told_to x.history n) is
      same (inr is) n = told_end old.world new.world s is n

  -- Nothing was entered.
  pub trusted_still : (old new : KeeperView F) (steward : Option Steward) → new.world ≡ old.world → (new.is_broken ≡ false → old.is_broken ≡ false)
      → IsTrusted old steward → IsTrusted new steward
  trusted_still old new steward same still t = record {
    alone = λ sound. subst (λ (x : WorldView). IsAlone x (session_of steward)) (sym same) (t.alone (still sound));
    told = up_to_date old.world new.world steward (λ n is. ap (λ (x : WorldView). told_to x.history n) same) t.told;
  }

  pub still_durable : (old new : KeeperView F) → (old.is_broken ≡ true → new ≡ old) → new.is_broken ≡ false → old.is_broken ≡ false
  still_durable old new broken sound = go old.is_broken refl
    where
      go : (b : Bool) → old.is_broken ≡ b → old.is_broken ≡ false
      go true is = ap (λ (k : KeeperView F). k.is_broken) (sym (broken is)) ∙ sound
      go false is = is

  -- The steward asked.
  pub trusted_own : (old new : KeeperView F) (before now : Option Steward) (mine : Steward) (later : Steward) → before ≡ Some mine → now ≡ Some later
      → (IsAloneIn old mine.session → IsAloneIn new later.session) → (IsUpToDate old.world mine → IsUpToDate new.world later)
      → IsTrusted old before → IsTrusted new now
  trusted_own old new before now mine later was is alone told t =
      subst (λ (o : Option Steward). IsTrusted new o) (sym is) (record {
        alone = alone (subst (λ (o : Option Steward). IsAloneIn old (session_of o)) was t.alone);
        told = λ one has. subst (IsUpToDate new.world) (the_one has) (told (t.told mine was));
      })
