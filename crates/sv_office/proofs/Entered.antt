-- What entering a request adds.
use Rattle.std.proofs.Common.{◌≡◌, ◌≢◌, inl, inr, ℕ, List, Option, refl, sym, ap, ◌∙◌, subst}
use Rattle.std.specs.Prelude.{Result, Ok, Err, IfOk, IfErr}
use Rattle.sv_wire.specs.declared.message.Request.{Request}
use Rattle.sv_wire.specs.declared.message.Reply.{Reply}
use Rattle.sv_journal.specs.declared.entry.Entry.{Entry}
use Rattle.sv_journal.specs.Laws.{AreWithinLimits}
use Rattle.sv_living.specs.World.{WorldView, after}
use Rattle.sv_keeper.specs.Views.{KeeperView}
use Rattle.sv_keeper.specs.Keeping.{Stepped, WasNotStepped}
use Rattle.sv_keeper.specs.declared.fault.KeepFault.{KeepFault}
use Rattle.sv_keeper.specs.declared.fault.KeepFault.TheVariants as faults
use Rattle.sv_office.specs.Entering.{AreAdded, GrowsBy, IsEntryOf, WasEntered, AsksIn}
use Rattle.sv_office.specs.Offices.{IsSound, session_of}
use Rattle.sv_office.specs.declared.steward.Steward.{Steward}
use Rattle.sv_office.proofs.Adding.{grows_nowhere, entry_stays}

pub added_one : (v w : WorldView) (s : ℕ) (request : Request) → w ≡ after v s request → GrowsBy (IsEntryOf s request) v w
added_one v w s request is = subst (λ (x : WorldView). GrowsBy (IsEntryOf s request) v x) (sym is)
    (record { rules = refl; stewardship = refl; added = AreAdded.one AreAdded.none (refl, refl) })

module _ {F : Type 0} (old new : KeeperView F) (s : ℕ) (request : Request) where
  same_world : new ≡ old → GrowsBy (IsEntryOf s request) old.world new.world
  same_world same = grows_nowhere (ap (λ (k : KeeperView F). k.world) same)

  pub added_err : (fault : KeepFault) → WasNotStepped old new s request fault → GrowsBy (IsEntryOf s request) old.world new.world
  added_err faults.NotOpen why = same_world why.0
  added_err faults.NoRoom why = same_world why.0
  added_err faults.Memory why = same_world why.0
  added_err faults.Broken (inl why) = same_world why.1
  added_err faults.Broken (inr (inl why)) = same_world why.1
  added_err faults.Broken (inr (inr why)) = added_one old.world new.world s request why.world

  pub same_err : (fault : KeepFault) → WasNotStepped old new s request fault → fault ≢ faults.Broken → new.world ≡ old.world
  same_err faults.NotOpen why other = ap (λ (k : KeeperView F). k.world) why.0
  same_err faults.NoRoom why other = ap (λ (k : KeeperView F). k.world) why.0
  same_err faults.Memory why other = ap (λ (k : KeeperView F). k.world) why.0
  same_err faults.Broken why other = absurd (other refl)

  pub step_ok : (result : Result Reply KeepFault) → IfOk result (Stepped old new s request) → IfOk result (WasEntered old.world new.world s request)
  step_ok (Ok reply) is = record { asks = is.asks; world = is.world; whole = is.whole }
  step_ok (Err fault) is = tt

  pub step_same : (result : Result Reply KeepFault) → IfErr result (WasNotStepped old new s request)
      → IfErr result (λ fault. fault ≢ faults.Broken → new.world ≡ old.world)
  step_same (Ok reply) is = tt
  step_same (Err fault) is = same_err fault is

  pub step_added : (result : Result Reply KeepFault) → IfOk result (Stepped old new s request) → IfErr result (WasNotStepped old new s request)
      → GrowsBy (IsEntryOf s request) old.world new.world
  step_added (Ok reply) ok err = added_one old.world new.world s request ok.world
  step_added (Err fault) ok err = added_err fault err

-- What an office keeps stays, while its world goes on.
pub sound_stays : {may : Entry → Type 0} {v w : WorldView} {old new : Option Steward} → GrowsBy may v w → session_of new ≡ session_of old → IsSound v old → IsSound w new
sound_stays on same s = record {
  limits = subst AreWithinLimits (sym on.rules) s.limits;
  begun = λ t is. entry_stays on.added t (s.begun t (sym same ∙ is));
}

-- What was entered in the session in which one asks.
pub asks_entered : (h : List Entry) (mine : Option ℕ) (s : ℕ) (request : Request) → AsksIn h mine s → (e : Entry) → IsEntryOf s request e → AsksIn h mine e.session
asks_entered h mine s request asks e is = subst (λ (t : ℕ). AsksIn h mine t) (sym is.0) asks
