-- What stands in a folder, and what each call makes of it.
use Rattle.std.specs.Prelude.{◌≡◌, ◌⊎◌, ℕ, ◌+◌, ◌≤◌, Bool, true, false, cond, List, [], ◌∷◌, ◌++◌, length, take, drop, replicate, Option, Some, None, Result, Ok, Err}
use Rattle.std.specs.Option.{option_map}
use Rattle.std.specs.Str.{bytes_eq}

-- the bytes of the file of each name
abbrev pub Picture : Type 0
Picture = List ℕ → Option (List ℕ)

-- what is asked of a folder
pub data Call : Type 0 where
  -- a file of so many zeros under this name, in place of one that had it
  Make : List ℕ → ℕ → Call
  -- so many zeros more behind a file
  Grow : List ℕ → ℕ → Call
  -- these bytes in a file, from an offset on
  Write : List ℕ → ℕ → List ℕ → Call
  -- a file cut to this length
  Truncate : List ℕ → ℕ → Call
  -- the first name's file under the second name
  Rename : List ℕ → List ℕ → Call
  Remove : List ℕ → Call
  -- the bytes of a file on the disk
  Sync : List ℕ → Call
  -- the names of the folder on the disk
  SyncFolder : Call

abbrev pub zeros : ℕ → List ℕ
zeros n = replicate n 0

-- old with other bytes at an offset
abbrev pub over : ℕ → List ℕ → List ℕ → List ℕ
over at bytes old = take at old ++ bytes ++ drop (at + length bytes) old

-- the same picture, but for one name
abbrev pub put : List ℕ → Option (List ℕ) → Picture → Picture
put name file picture n = cond (bytes_eq n name) file (picture n)

-- what is seen after a call that was answered Ok
abbrev pub after : Call → Picture → Picture
after (Make name n) p = put name (Some (zeros n)) p
after (Grow name n) p = put name (option_map (λ b. b ++ zeros n) (p name)) p
after (Write name at bytes) p = put name (option_map (over at bytes) (p name)) p
after (Truncate name n) p = put name (option_map (take n) (p name)) p
after (Rename from to) p = put to (p from) (put from None p)
after (Remove name) p = put name None p
after (Sync name) p = p
after SyncFolder p = p

-- a call, and whether it was answered Ok
abbrev pub Made : Type 0
Made = Call × Bool

-- what is seen after these calls, the latest first
abbrev pub seen_after : Picture → List Made → Picture
seen_after start [] = start
seen_after start (made ∷ past) = cond made.1 (after made.0 (seen_after start past)) (seen_after start past)

-- a folder as it was found, and what was asked of it since, the latest first
pub record Disk : Type 0 where
  pub start : Picture
  pub past : List Made

abbrev pub seen : Disk → Picture
seen disk = seen_after disk.start disk.past

abbrev pub noted : Made → Disk → Disk
noted made disk = record { start = disk.start; past = made ∷ disk.past }

-- the call was made: it was answered Ok, or it failed and is noted as failed, or it was not tried
abbrev pub Makes : {T E : Type 0} → Call → Disk → Disk → Result T E → Type 0
Makes call old new (Ok _) = new ≡ noted (call, true) old
Makes call old new (Err _) = (new ≡ old) ⊎ (new ≡ noted (call, false) old)

-- the file is there, and has room for so many bytes from an offset on
abbrev pub FileHasRoom : Picture → List ℕ → ℕ → ℕ → Type 0
FileHasRoom picture name at n = (b : List ℕ) × (picture name ≡ Some b) × (at + n ≤ length b)
