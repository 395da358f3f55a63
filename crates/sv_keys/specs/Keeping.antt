-- The keys of a file that is read again and again.
use Rattle.std.specs.Prelude.{◌≡◌, ◌⊎◌, ◌≤◌, ℕ, true, false, ◌==◌, ◌&&◌, Bool, List, [], ◌∷◌, ◌++◌, length, Option, Some, None, Result, Ok, Err, codes}
use Rattle.std.specs.Fmt.{decimal}
use Rattle.std.specs.List.{list_any}
use Rattle.std.specs.Str.{bytes_eq}
use Rattle.sv_bytes.specs.Writing.{GrewOrRose}
use Rattle.sv_keys.specs.KeyLines.{AreKeys, IsWrongAt}
use Rattle.sv_keys.specs.declared.line.KeyRow.{KeyRow}
use Rattle.sv_keys.specs.declared.fault.KeysFault.{KeysFault}
use Rattle.sv_keys.specs.declared.fault.KeysFault.TheVariants as faults

-- The name of the file, what it had when it was read last, and the keys of what it had when it was right last.
pub record KeysView : Type 0 where
  pub file : List ℕ
  pub bytes : List ℕ
  pub rows : List KeyRow

-- A client may join by the key of this digest.
abbrev pub has_key : KeysView → ℕ → List ℕ → Bool
has_key v client digest = list_any (λ (row : KeyRow). (row.client.0 == client) && bytes_eq row.digest digest) v.rows

-- Some client may join by the key of this digest.
abbrev pub has_digest : KeysView → List ℕ → Bool
has_digest v digest = list_any (λ (row : KeyRow). bytes_eq row.digest digest) v.rows

-- What was read is all that the file has.
abbrev pub IsAllOf : Option (List ℕ) → List ℕ → Type 0
IsAllOf contents bytes = (all : List ℕ) → contents ≡ Some all → bytes ≡ all

-- Why the keys of a text are not taken.
abbrev pub WhyWrong : List ℕ → KeysFault → Type 0
WhyWrong bytes (faults.Line n) = IsWrongAt bytes n
WhyWrong bytes faults.File = ⊥
WhyWrong bytes faults.Memory = Unit {0}

-- The file was read again: its keys were taken where it has changed. A wrong line changes no key.
abbrev pub IsRenewed : Option (List ℕ) → KeysView → KeysView → Option KeysFault → Type 0
IsRenewed contents old new None = (new.file ≡ old.file) × IsAllOf contents new.bytes × ((new ≡ old) ⊎ AreKeys new.bytes new.rows)
IsRenewed contents old new (Some (faults.Line n)) =
    (new.file ≡ old.file) × IsAllOf contents new.bytes × (new.rows ≡ old.rows) × IsWrongAt new.bytes n
IsRenewed contents old new (Some faults.File) = new ≡ old
IsRenewed contents old new (Some faults.Memory) = new ≡ old

abbrev pub fault_in : Result Unit KeysFault → Option KeysFault
fault_in (Ok tt) = None
fault_in (Err fault) = Some fault

-- The line that tells of a file of keys that is not taken.
abbrev pub keys_line : List ℕ → KeysFault → List ℕ
keys_line file (faults.Line n) = codes "keys: " ++ file ++ codes ":" ++ decimal n ++ codes "\n"
keys_line file faults.File = codes "keys: " ++ file ++ codes "\n"
keys_line file faults.Memory = codes "keys: " ++ file ++ codes "\n"

-- What was told of a fault, where there was one.
abbrev pub WasTold : Option (List ℕ) → Option (List ℕ) → ℕ → ℕ → List ℕ → Option KeysFault → Type 0
WasTold taken now before after file None = (now ≡ taken) × (after ≡ before)
WasTold taken now before after file (Some fault) = GrewOrRose taken now before after (keys_line file fault)

-- The keys are those of the file of this name: its rows are those of a text, which is all that the file has, where that is known.
pub record AreHeld (contents : List ℕ → Option (List ℕ)) (name : List ℕ) (keys : KeysView) : Type 0 where
  pub file : keys.file ≡ name
  pub text : List ℕ
  pub whole : IsAllOf (contents name) text
  pub read : AreKeys text keys.rows
