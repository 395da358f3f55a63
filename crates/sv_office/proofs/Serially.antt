-- A world stays serial, where what is entered reports nothing else.
use Rattle.std.proofs.Common.{◌≡◌, ◌≢◌, ◌⊎◌, inl, inr, ℕ, Bool, true, false, List, ◌∷◌, length, Option, Some, refl, sym, ap, ◌∙◌, subst}
use Rattle.std.specs.Prelude.{Result, Ok, Err, IfOk, IfErr, OnErr}
use Rattle.sv_wire.specs.declared.message.Reply.{Reply}
use Rattle.sv_wire.specs.declared.message.Request.{Request}
use Rattle.sv_journal.specs.declared.entry.Entry.{Entry}
use Rattle.sv_journal.specs.History.{actions_of}
use Rattle.sv_journal.specs.Laws.{AreWithinLimits}
use Rattle.sv_journal.specs.Living.{counts, is_stewards, living}
use Rattle.sv_journal.specs.Serving.{LegalFor}
use Rattle.sv_journal.specs.History.{entry_of}
use Rattle.law_system.specs.Told.{GoesBySerial, ReportsSerial}
use Rattle.law_journal.specs.Trusted.{BringsSerial, OthersBringNothing, SerialResultsMakeSerialWorlds, SerialResultsStay}
use Rattle.sv_living.specs.World.{WorldView, after, reply_in}
use Rattle.sv_keeper.specs.Keeping.{Stepped, WasNotStepped}
use Rattle.sv_keeper.specs.Views.{KeeperView}
use Rattle.sv_keeper.specs.declared.fault.KeepFault.{KeepFault}
use Rattle.sv_keeper.specs.declared.fault.KeepFault.TheVariants as faults
use Rattle.sv_office.specs.Admitting.{steward_number}
use Rattle.sv_office.specs.Trusting.{IsAuthority, IsSerialWorld, ReportsSerially, StaysSerial}
use Rattle.sv_office.proofs.Adding.{serial_same}

module _ (stay : SerialResultsStay) (others : OthersBringNothing) (serial : SerialResultsMakeSerialWorlds) where
  -- One entry more.
  entry_serial : (v : WorldView) (s : ℕ) (request : Request) → AreWithinLimits v.rules
      → LegalFor (living v.stewardship) v.rules (after v s request).history → ReportsSerially v s request → StaysSerial v (after v s request)
  entry_serial v s request limits legal reports authority is = record {
    results = results;
    world = serial v.stewardship v.rules (after v s request).history limits.objects legal results;
  }
    where
      brings : (b : Bool) → is_stewards v.stewardship.steward v.history s ≡ b → BringsSerial v.stewardship v.rules v.history (entry_of s request (reply_in v s request))
      brings true own = λ counted. reports authority is (subst (λ (o : Option ℕ). is_stewards o v.history s ≡ true) authority.named own)
      brings false other = others v.stewardship v.rules v.history (entry_of s request (reply_in v s request)) authority.alone other

      results : GoesBySerial (living v.stewardship) v.rules (after v s request).history
      results = stay v.stewardship v.rules (entry_of s request (reply_in v s request)) v.history legal is.results (brings (is_stewards v.stewardship.steward v.history s) refl)

  pub entered_serial : (v w : WorldView) (s : ℕ) (request : Request) → w ≡ after v s request → AreWithinLimits v.rules
      → LegalFor (living w.stewardship) w.rules w.history → ReportsSerially v s request → StaysSerial v w
  entered_serial v w s request is limits legal reports =
      subst (λ (x : WorldView). StaysSerial v x) (sym is)
      (entry_serial v s request limits (subst (λ (x : WorldView). LegalFor (living x.stewardship) x.rules x.history) is legal) reports)

  module _ {F : Type 0} (old new : KeeperView F) (s : ℕ) (request : Request) where
    not_stepped : (fault : KeepFault) → AreWithinLimits old.world.rules → LegalFor (living new.world.stewardship) new.world.rules new.world.history
        → ReportsSerially old.world s request → WasNotStepped old new s request fault → StaysSerial old.world new.world
    not_stepped faults.NotOpen limits legal reports why = serial_same (ap (λ (k : KeeperView F). k.world) why.0)
    not_stepped faults.NoRoom limits legal reports why = serial_same (ap (λ (k : KeeperView F). k.world) why.0)
    not_stepped faults.Memory limits legal reports why = serial_same (ap (λ (k : KeeperView F). k.world) why.0)
    not_stepped faults.Broken limits legal reports (inl why) = serial_same (ap (λ (k : KeeperView F). k.world) why.1)
    not_stepped faults.Broken limits legal reports (inr (inl why)) = serial_same (ap (λ (k : KeeperView F). k.world) why.1)
    not_stepped faults.Broken limits legal reports (inr (inr why)) = entered_serial old.world new.world s request why.world limits legal reports

    pub step_serial : (result : Result Reply KeepFault) → IfOk result (Stepped old new s request) → IfErr result (WasNotStepped old new s request)
        → (old.is_broken ≡ true → (new ≡ old) × (result ≡ Err faults.Broken)) → AreWithinLimits old.world.rules
        → LegalFor (living new.world.stewardship) new.world.rules new.world.history → (old.is_broken ≡ false → ReportsSerially old.world s request)
        → StaysSerial old.world new.world
    step_serial result ok err broken limits legal reports = go old.is_broken refl
      where
        entered : (r : Result Reply KeepFault) → IfOk r (Stepped old new s request) → IfErr r (WasNotStepped old new s request)
            → ReportsSerially old.world s request → StaysSerial old.world new.world
        entered (Ok reply) is wrong reported = entered_serial old.world new.world s request is.world limits legal reported
        entered (Err fault) is wrong reported = not_stepped fault limits legal reported wrong

        go : (b : Bool) → old.is_broken ≡ b → StaysSerial old.world new.world
        go true is = serial_same (ap (λ (k : KeeperView F). k.world) (broken is).0)
        go false is = entered result ok err (reports is)

module _ {F : Type 0} (old new : KeeperView F) (s : ℕ) (request : Request) where
  broken_err : (fault : KeepFault) → WasNotStepped old new s request fault → (new.world ≡ old.world) ⊎ (new.is_broken ≡ true)
  broken_err faults.NotOpen why = inl (ap (λ (k : KeeperView F). k.world) why.0)
  broken_err faults.NoRoom why = inl (ap (λ (k : KeeperView F). k.world) why.0)
  broken_err faults.Memory why = inl (ap (λ (k : KeeperView F). k.world) why.0)
  broken_err faults.Broken (inl why) = inl (ap (λ (k : KeeperView F). k.world) why.1)
  broken_err faults.Broken (inr (inl why)) = inl (ap (λ (k : KeeperView F). k.world) why.1)
  broken_err faults.Broken (inr (inr why)) = inr why.broken

  -- Where nothing was answered, nothing changed, or the keeper is broken.
  pub step_broken : (result : Result Reply KeepFault) → IfErr result (WasNotStepped old new s request)
      → OnErr result ((new.world ≡ old.world) ⊎ (new.is_broken ≡ true))
  step_broken (Ok reply) is = tt
  step_broken (Err fault) is = broken_err fault is

  -- A keeper that is broken stays so.
  pub step_still : (result : Result Reply KeepFault) → (old.is_broken ≡ true → (new ≡ old) × (result ≡ Err faults.Broken)) → new.is_broken ≡ false → old.is_broken ≡ false
  step_still result broken sound = go old.is_broken refl
    where
      go : (b : Bool) → old.is_broken ≡ b → old.is_broken ≡ false
      go true is = ap (λ (k : KeeperView F). k.is_broken) (sym (broken is).0) ∙ sound
      go false is = is

  one_err : (fault : KeepFault) → WasNotStepped old new s request fault → (new.world ≡ old.world) ⊎ (new.world ≡ after old.world s request)
  one_err faults.NotOpen why = inl (ap (λ (k : KeeperView F). k.world) why.0)
  one_err faults.NoRoom why = inl (ap (λ (k : KeeperView F). k.world) why.0)
  one_err faults.Memory why = inl (ap (λ (k : KeeperView F). k.world) why.0)
  one_err faults.Broken (inl why) = inl (ap (λ (k : KeeperView F). k.world) why.1)
  one_err faults.Broken (inr (inl why)) = inl (ap (λ (k : KeeperView F). k.world) why.1)
  one_err faults.Broken (inr (inr why)) = inr why.world

  -- One entry, or none.
  pub step_one : (result : Result Reply KeepFault) → IfOk result (Stepped old new s request) → IfErr result (WasNotStepped old new s request)
      → (new.world ≡ old.world) ⊎ (new.world ≡ after old.world s request)
  step_one (Ok reply) is why = inr is.world
  step_one (Err fault) is why = one_err fault why
