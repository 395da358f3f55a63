-- Entries that are added, one call after the other.
use Rattle.std.proofs.Common.{◌≡◌, ◌≢◌, inl, inr, ℕ, Bool, true, false, ◌||◌, nat_eq, List, Option, Some, None, refl, sym, ap, ◌∙◌, subst}
use Rattle.sv_journal.specs.declared.entry.Entry.{Entry}
use Rattle.sv_core.specs.Rows.{has_entry}
use Rattle.sv_living.specs.World.{WorldView}
use Rattle.sv_office.specs.Entering.{AreAdded, GrowsBy, GoesOn, AsksIn, KeepsOwn}
use Rattle.sv_office.specs.Trusting.{IsAuthority, IsSerialWorld, StaysSerial}

any_more : (b : Bool) → (b || true) ≡ true
any_more true = refl
any_more false = refl

pub added_as : {may must : Entry → Type 0} {h g : List Entry} → ((e : Entry) → may e → must e) → AreAdded may h g → AreAdded must h g
added_as all AreAdded.none = AreAdded.none
added_as all (AreAdded.one {e = e} before m) = AreAdded.one (added_as all before) (all e m)

pub added_then : {may : Entry → Type 0} {h g k : List Entry} → AreAdded may h g → AreAdded may g k → AreAdded may h k
added_then first AreAdded.none = first
added_then first (AreAdded.one before m) = AreAdded.one (added_then first before) m

-- What is serial stays so, in one call after the other.
pub serial_same : {v w : WorldView} → w ≡ v → StaysSerial v w
serial_same same authority is = subst IsSerialWorld (sym same) is

pub serial_then : {u v w : WorldView} → v.stewardship ≡ u.stewardship → StaysSerial u v → StaysSerial v w → StaysSerial u w
serial_then same first next authority is = next (subst IsAuthority (sym same) authority) (first authority is)

pub grows_nowhere : {may : Entry → Type 0} {v w : WorldView} → w ≡ v → GrowsBy may v w
grows_nowhere {may} {v} {w} same = subst (λ (x : WorldView). GrowsBy may v x) (sym same) (record { rules = refl; stewardship = refl; added = AreAdded.none })

-- It grew, and what was serial is so still.
pub grew : {may : Entry → Type 0} {v w : WorldView} → GoesOn may v w → GrowsBy may v w
grew on = record { rules = on.rules; stewardship = on.stewardship; added = on.added }

pub goes_by : {may : Entry → Type 0} {v w : WorldView} → GrowsBy may v w → StaysSerial v w → GoesOn may v w
goes_by on serial = record { rules = on.rules; stewardship = on.stewardship; added = on.added; serial = serial }

pub goes_as : {may must : Entry → Type 0} {v w : WorldView} → ((e : Entry) → may e → must e) → GoesOn may v w → GoesOn must v w
goes_as all on = record { rules = on.rules; stewardship = on.stewardship; added = added_as all on.added; serial = on.serial }

pub goes_then : {may : Entry → Type 0} {u v w : WorldView} → GoesOn may u v → GoesOn may v w → GoesOn may u w
goes_then first next = record {
  rules = next.rules ∙ first.rules;
  stewardship = next.stewardship ∙ first.stewardship;
  added = added_then first.added next.added;
  serial = serial_then first.stewardship first.serial next.serial;
}

pub goes_nowhere : {may : Entry → Type 0} {v w : WorldView} → w ≡ v → GoesOn may v w
goes_nowhere {may} {v} {w} same =
    subst (λ (x : WorldView). GoesOn may v x) (sym same) (record { rules = refl; stewardship = refl; added = AreAdded.none; serial = λ authority is. is })

-- Entries stay.
pub entry_stays : {may : Entry → Type 0} {h g : List Entry} → AreAdded may h g → (s : ℕ) → has_entry h s ≡ true → has_entry g s ≡ true
entry_stays AreAdded.none s has = has
entry_stays (AreAdded.one {e = e} before m) s has = ap (λ (b : Bool). nat_eq e.session s || b) (entry_stays before s has) ∙ any_more (nat_eq e.session s)

unused_go : (b c : Bool) → (c ≡ true → b ≡ true) → b ≡ false → c ≡ false
unused_go b true f none = let e : true ≡ false = sym (f refl) ∙ none in cc
unused_go b false f none = refl

-- What has no entry afterwards had none before.
pub unused_before : {may : Entry → Type 0} {h g : List Entry} → AreAdded may h g → (s : ℕ) → has_entry g s ≡ false → has_entry h s ≡ false
unused_before {h = h} {g = g} added s none = unused_go (has_entry g s) (has_entry h s) (entry_stays added s) none

-- The session in which one asks later is one in which one asked before, if one who has none had none.
pub asks_before : {may : Entry → Type 0} {h g : List Entry} {mine mid : Option ℕ} → AreAdded may h g → KeepsOwn h mine mid → (mid ≡ None → mine ≡ None) → (s : ℕ)
    → AsksIn g mid s → AsksIn h mine s
asks_before added keeps none s (inl has) = keeps s has
asks_before added keeps none s (inr (gone, fresh)) = inr (none gone, unused_before added s fresh)

pub keeps_then : {may : Entry → Type 0} {h g : List Entry} {mine mid after : Option ℕ} → AreAdded may h g → KeepsOwn h mine mid → (mid ≡ None → mine ≡ None)
    → KeepsOwn g mid after → KeepsOwn h mine after
keeps_then added first none next s is = asks_before added first none s (next s is)

pub keeps_same : (h : List Entry) {mine after : Option ℕ} → after ≡ mine → KeepsOwn h mine after
keeps_same h same s is = inl (sym same ∙ is)

-- Who has a session still, where he had one, has none only if he had none.
pub still_none : (mine mid : Option ℕ) → (mine ≢ None → mid ≡ mine) → mid ≡ None → mine ≡ None
still_none None mid still none = refl
still_none (Some s) mid still none = sym (still some) ∙ none
  where
    some : Some s ≢ None
    some e = cc
