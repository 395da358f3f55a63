-- A folder after a restart.
use Rattle.std.specs.Prelude.{◌≡◌, ◌⊎◌, true, false, List, [], ℕ, Some, None}
use Rattle.sv_log.specs.Pictures.{Picture, Disk, seen, put}
use Rattle.sv_log.specs.Crashes.{Same, SameBut, CrashLeaves, has_failed, has_renamed, is_synced}
use Rattle.sv_log.specs.Texts.{whole_in}

-- all that is seen is on the disk
pub record IsAtRest (disk : Disk) : Type 0 where
  pub only : (c : Picture) → CrashLeaves disk.start disk.past c → Same c (seen disk)
  pub calm : has_failed disk.past ≡ false
  pub names : has_renamed disk.past ≡ false
  pub synced : (n : List ℕ) → is_synced disk.past n ≡ true

-- one file has this text, and the others are as they were
abbrev pub Tells : Picture → List ℕ → List ℕ → Picture → Type 0
Tells others name text c = SameBut name c others × (whole_in (c name) ≡ text)

-- one file has this text, and is there if it was, and the others are as they were
abbrev pub Mends : Picture → List ℕ → List ℕ → Picture → Type 0
Mends others name text c = SameBut name c others × (whole_in (c name) ≡ text) × (c name ≡ None → others name ≡ None)

-- a segment is cut off behind its text, or it was cut and the next one is made, or not yet
abbrev pub SegmentGoesOn : Picture → List ℕ → List ℕ → Picture → Type 0
SegmentGoesOn p name next c = Mends p name (whole_in (p name)) c ⊎ ((q : Picture) × SameBut name q p × (q name ≡ Some (whole_in (p name)))
    × Tells q next [] c)

-- The file is there whole, or all is as it was. What stands under the name that it is written under is left open.
abbrev pub IsPut : List ℕ → List ℕ → List ℕ → Picture → Picture → Type 0
IsPut new name bytes old c = SameBut new c old ⊎ SameBut new c (put name (Some bytes) old)
