-- The keys of a file stay those of the file, when it is read again.
use Rattle.std.specs.Prelude.{◌≡◌, ◌⊎◌, ℕ, List, Option, Some, None}
use Rattle.std.proofs.Common.{inl, inr, sym, subst, ◌∙◌}
use Rattle.sv_keys.specs.KeyLines.{AreKeys}
use Rattle.sv_keys.specs.Keeping.{KeysView, AreHeld, IsAllOf, IsRenewed}
use Rattle.sv_keys.specs.declared.fault.KeysFault.{KeysFault}
use Rattle.sv_keys.specs.declared.fault.KeysFault.TheVariants as faults

held_same : (contents : List ℕ → Option (List ℕ)) (name : List ℕ) (old new : KeysView) → new ≡ old → AreHeld contents name old → AreHeld contents name new
held_same contents name old new same held = subst (λ keys. AreHeld contents name keys) (sym same) held

held_read : (contents : List ℕ → Option (List ℕ)) (name : List ℕ) (old new : KeysView) → new.file ≡ old.file → IsAllOf (contents old.file) new.bytes
    → (new ≡ old) ⊎ AreKeys new.bytes new.rows → AreHeld contents name old → AreHeld contents name new
held_read contents name old new file whole (inl same) held = held_same contents name old new same held
held_read contents name old new file whole (inr read) held = record {
  file = file ∙ held.file;
  text = new.bytes;
  whole = subst (λ (f : List ℕ). IsAllOf (contents f) new.bytes) held.file whole;
  read = read;
}

pub renewed_held : (contents : List ℕ → Option (List ℕ)) (name : List ℕ) (old new : KeysView) (fault : Option KeysFault)
    → IsRenewed (contents old.file) old new fault → AreHeld contents name old → AreHeld contents name new
renewed_held contents name old new None renewed held = held_read contents name old new renewed.0 renewed.1 renewed.2 held
renewed_held contents name old new (Some (faults.Line n)) renewed held = record {
  file = renewed.0 ∙ held.file;
  text = held.text;
  whole = held.whole;
  read = subst (λ rows. AreKeys held.text rows) (sym renewed.2) held.read;
}
renewed_held contents name old new (Some faults.File) renewed held = held_same contents name old new renewed held
renewed_held contents name old new (Some faults.Memory) renewed held = held_same contents name old new renewed held
