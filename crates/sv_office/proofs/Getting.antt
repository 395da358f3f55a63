-- What the steward got, from one of its calls to the next.
use Rattle.std.proofs.Common.{◌≡◌, ◌≢◌, ℕ, Bool, true, false, ◌||◌, List, [], ◌∷◌, ◌++◌, is_some, Option, Some, None, refl, sym, ap, ◌∙◌, subst, append-nil}
use Rattle.std.specs.Prelude.{IfSome}
use Rattle.sv_wire.specs.declared.message.Reply.{Reply}
use Rattle.sv_wire.specs.declared.message.Request.{Request}
use Rattle.sv_journal.specs.declared.entry.Entry.{Entry}
use Rattle.sv_journal.specs.History.{accepted, actions_of, full_reply}
use Rattle.sv_journal.specs.Laws.{AreWithinLimits}
use Rattle.law_system.specs.Delivery.{Telling, telling_in}
use Rattle.law_system.specs.Told.{GotWhatWasTold, ReportsSerial, all_got, told_in}
use Rattle.sv_living.specs.World.{WorldView}
use Rattle.sv_keeper.specs.Views.{KeeperView}
use Rattle.sv_client.specs.declared.trace.Event.{Event}
use Rattle.sv_client.specs.declared.trace.Event.TheVariants as events
use Rattle.sv_office.specs.Entering.{GrowsBy, WasEntered}
use Rattle.sv_office.specs.Knowing.{IsAloneIn, IsUpToDate, HasGotAll}
use Rattle.sv_office.specs.Trusting.{IsLegalWorld, IsSerialWorld}
use Rattle.sv_office.specs.declared.steward.Steward.{Steward}
use Rattle.sv_office.proofs.Knowing.{lacks_entered}

pub limits_grown : {may : Entry → Type 0} {v w : WorldView} → GrowsBy may v w → AreWithinLimits v.rules → AreWithinLimits w.rules
limits_grown on limits = subst AreWithinLimits (sym on.rules) limits

-- One that is behind need not be up to date.
pub behind_is : (v : WorldView) (steward : Steward) → steward.is_behind ≡ true → IsUpToDate v steward
behind_is v steward behind is = let clash : true ≡ false = sym behind ∙ is in cc

pub alone_as : {F : Type 0} (keeper : KeeperView F) (mine later : Option ℕ) → later ≡ mine → IsAloneIn keeper mine → IsAloneIn keeper later
alone_as keeper mine later same alone = subst (λ (o : Option ℕ). IsAloneIn keeper o) (sym same) alone

pub got_same : (h : List Entry) (before now : Option ℕ) (t u : List Event) → now ≡ before → all_got u ≡ all_got t → GotWhatWasTold h before t → GotWhatWasTold h now u
got_same h before now t u same got was = got ∙ was ∙ sym (ap (told_in h) same)

-- It lacks the reply to what it asked.
pub lacks_asked : ((h : List Entry) (e : Entry) (n : ℕ) (t : List Event) → GotWhatWasTold h (Some e.session) t
    → GotWhatWasTold (e ∷ h) (Some e.session) (events.Got n (full_reply (accepted (e ∷ h)) e.reply) ∷ t))
    → (v w : WorldView) (o : Option ℕ) (s : ℕ) (request : Request) (reply : Reply) (t : List Event) → o ≡ Some s → WasEntered v w s request reply
    → GotWhatWasTold v.history o t → GotWhatWasTold w.history o (events.Got 0 reply ∷ t)
lacks_asked taken v w o s request reply t has entered got =
    subst (λ (x : Option ℕ). GotWhatWasTold w.history x (events.Got 0 reply ∷ t)) (sym has)
    (lacks_entered taken v w s request reply t entered (subst (λ (x : Option ℕ). GotWhatWasTold v.history x t) has got))

-- One that got nothing, and was refused, begins anew.
pub got_anew : (h : List Entry) (before now : Option ℕ) (first t u : List Event) (reply : Reply) → all_got first ≡ [] → all_got t ≡ all_got first → telling_in reply ≡ []
    → GotWhatWasTold h before (events.Got 0 reply ∷ t) → now ≡ before → all_got u ≡ [] → GotWhatWasTold h now u
got_anew h before now first t u reply none same silent lacks session got = got ∙ sym (ap (told_in h) session ∙ sym lacks ∙ nothing)
  where
    nothing : all_got t ++ telling_in reply ≡ []
    nothing = ap (λ (xs : List Telling). all_got t ++ xs) silent ∙ append-nil (all_got t) ∙ same ∙ none

-- Without a session it got nothing.
pub got_nothing : (h : List Entry) (o : Option ℕ) (t : List Event) → o ≡ None → GotWhatWasTold h o t → all_got t ≡ []
got_nothing h o t none got = got ∙ ap (told_in h) none

-- A reply that tells a life tells no value.
pub silent_of : (o : Option ℕ) (x : ℕ) (reply : Reply) → o ≡ Some x → IfSome o (λ (y : ℕ). telling_in reply ≡ []) → telling_in reply ≡ []
silent_of o x reply is silent = subst (λ (a : Option ℕ). IfSome a (λ (y : ℕ). telling_in reply ≡ [])) is silent

-- What is reported is serial.
pub reported_serially : (v : WorldView) (steward : Steward) (o : Option Request) (request : Request) → o ≡ Some request
    → IfSome o (λ (q : Request). (w : WorldView) → AreWithinLimits w.rules → IsLegalWorld w → IsSerialWorld w → HasGotAll w steward
    → ReportsSerial w.rules.world.values (actions_of w.history) q)
    → AreWithinLimits v.rules → IsLegalWorld v → IsSerialWorld v → HasGotAll v steward → ReportsSerial v.rules.world.values (actions_of v.history) request
reported_serially v steward o request is all limits lawful serial got =
    subst (λ (a : Option Request). IfSome a (λ (q : Request). (w : WorldView) → AreWithinLimits w.rules → IsLegalWorld w → IsSerialWorld w → HasGotAll w steward
    → ReportsSerial w.rules.world.values (actions_of w.history) q)) is all v limits lawful serial got
