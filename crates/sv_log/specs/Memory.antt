-- A folder in memory: the files that it was made with, and the calls since, the first of them first.
use Rattle.std.specs.Prelude.{◌≡◌, ◌⊎◌, ℕ, List, [], ◌∷◌, ◌++◌, Option, Some, None, cond, Vec, Contains, IsSome}
use Rattle.std.specs.Str.{bytes_eq}
use Rattle.std.specs.String.{string_bytes}
use Rattle.std.specs.declared.alloc.Global.{Global}
use Rattle.sv_bytes.specs.Stored.{contents_of}
use Rattle.sv_log.specs.Pictures.{Picture, Call, Make, Grow, Write, Truncate, Rename, Remove, Sync, SyncFolder, Made, Disk}
use Rattle.sv_log.specs.declared.calls.AskedCall.{AskedCall}
use Rattle.sv_log.specs.declared.calls.AskedCall.TheVariants as asked
use Rattle.sv_log.specs.declared.calls.KeptCall.{KeptCall}

-- what was asked, without where it lies in memory
abbrev pub call_of : AskedCall → Call
call_of (asked.Make name size) = Make (string_bytes name) size
call_of (asked.Grow name size) = Grow (string_bytes name) size
call_of (asked.Write name at bytes) = Write (string_bytes name) at bytes.items
call_of (asked.Truncate name size) = Truncate (string_bytes name) size
call_of (asked.Rename from to) = Rename (string_bytes from) (string_bytes to)
call_of (asked.Remove name) = Remove (string_bytes name)
call_of (asked.Sync name) = Sync (string_bytes name)
call_of asked.SyncFolder = SyncFolder

abbrev pub made_of : KeptCall → Made
made_of kept = (call_of kept.call, kept.done)

-- the calls with the latest first
abbrev pub latest_first : List KeptCall → List Made
latest_first [] = []
latest_first (kept ∷ later) = latest_first later ++ made_of kept ∷ []

-- the name that the file had before the call
abbrev pub earlier_name : Call → List ℕ → List ℕ
earlier_name (Rename from to) n = cond (bytes_eq n to) from n
earlier_name _ n = n

-- a file's bytes, where there is one
abbrev pub bytes_in : Option (Vec ℕ Global) → Option (List ℕ)
bytes_in None = None
bytes_in (Some v) = Some v.items

-- the disk of a folder in memory
abbrev pub disk_of : List (List ℕ × List ℕ) → List KeptCall → Disk
disk_of start calls = record { start = contents_of start; past = latest_first calls }

-- the name that a call gives a file
abbrev pub target : Call → Option (List ℕ)
target (Make name size) = Some name
target (Rename from to) = Some to
target _ = None

-- a file had this name at the start
abbrev pub StartsIn : List (List ℕ × List ℕ) → List ℕ → Type 0
StartsIn [] n = ⊥
StartsIn (file ∷ files) n = (file.0 ≡ n) ⊎ StartsIn files n

-- a call gave a file this name
abbrev pub NamedIn : List KeptCall → List ℕ → Type 0
NamedIn [] n = ⊥
NamedIn (kept ∷ later) n = (target (call_of kept.call) ≡ Some n) ⊎ NamedIn later n

-- A name was added where its file is there, and none else.
pub record Adds (p : Picture) (name : Option (List ℕ)) (old new : List (List ℕ)) : Type 0 where
  pub keeps : (n : List ℕ) → Contains old n → Contains new n
  pub has : (n : List ℕ) → name ≡ Some n → IsSome (p n) → Contains new n
  pub only : (n : List ℕ) → Contains new n → Contains old n ⊎ IsSome (p n)
