-- The keys of an office stay those of their file.
use Rattle.std.proofs.Common.{◌≡◌, ℕ, List, Option, Some, None, sym, ◌∙◌, subst}
use Rattle.sv_keys.specs.Keeping.{KeysView}
use Rattle.sv_office.specs.Renewing.{AreHeldFor, KeepsKeys}

-- The keys of a file that has what it had.
pub held_as : {before now : List ℕ → Option (List ℕ)} → ((name : List ℕ) → now name ≡ before name) → (named : Option (List ℕ)) (keys : Option KeysView)
    → AreHeldFor before named keys → AreHeldFor now named keys
held_as same None None held = held
held_as same None (Some keys) held = held
held_as same (Some name) None held = held
held_as same (Some name) (Some keys) held = record {
  file = held.file;
  text = held.text;
  whole = λ all is. held.whole all (sym (same name) ∙ is);
  read = held.read;
}

-- Nothing was read of a file of keys.
pub kept_same : {before now : List ℕ → Option (List ℕ)} {old new : Option KeysView} → ((name : List ℕ) → now name ≡ before name) → new ≡ old
    → KeepsKeys before now old new
kept_same {before} files same = record { files = files; keys = λ named held. subst (AreHeldFor before named) (sym same) held }

pub kept_then : {first mid last : List ℕ → Option (List ℕ)} {a b c : Option KeysView} → KeepsKeys first mid a b → KeepsKeys mid last b c
    → KeepsKeys first last a c
kept_then {first} {mid} {last} {a} {b} {c} here there = record {
  files = λ name. there.files name ∙ here.files name;
  keys = λ named held. held_as {before = mid} {now = first} (λ name. sym (here.files name)) named c
      (there.keys named (held_as {before = first} {now = mid} here.files named b (here.keys named held)));
}
