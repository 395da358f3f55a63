-- The keys of an office, and the file of which they are read.
use Rattle.std.specs.Prelude.{◌≡◌, ℕ, List, Option, Some, None}
use Rattle.sv_keys.specs.Keeping.{KeysView, AreHeld}

-- There are keys just where a file is named, and they are its keys.
abbrev pub AreHeldFor : (List ℕ → Option (List ℕ)) → Option (List ℕ) → Option KeysView → Type 0
AreHeldFor contents None None = Unit {0}
AreHeldFor contents None (Some keys) = ⊥
AreHeldFor contents (Some name) None = ⊥
AreHeldFor contents (Some name) (Some keys) = AreHeld contents name keys

-- Each file has what it had, and keys that are those of a file stay its keys.
pub record KeepsKeys (before now : List ℕ → Option (List ℕ)) (old new : Option KeysView) : Type 0 where
  pub files : (name : List ℕ) → now name ≡ before name
  pub keys : (named : Option (List ℕ)) → AreHeldFor before named old → AreHeldFor before named new
