-- What a crash may leave of a folder.
use Rattle.std.specs.Prelude.{◌≡◌, ◌≢◌, ◌⊎◌, ℕ, ◌≤◌, Bool, true, false, not, ◌&&◌, ◌||◌, cond, List, [], ◌∷◌, ◌++◌, take, drop, Option, Some, None}
use Rattle.std.specs.Option.{option_map}
use Rattle.std.specs.Str.{bytes_eq}
use Rattle.sv_log.specs.Pictures.{Picture, Call, Make, Grow, Write, Truncate, Rename, Remove, Sync, SyncFolder, Made, Disk, zeros, over, after, seen_after}

-- the two have the same files
abbrev pub Same : Picture → Picture → Type 0
Same c d = (n : List ℕ) → c n ≡ d n

-- no other file than this one differs
abbrev pub SameBut : List ℕ → Picture → Picture → Type 0
SameBut name c d = (n : List ℕ) → n ≢ name → c n ≡ d n

-- each byte of a torn write is the old one or the new one
abbrev pub Torn : List ℕ → List ℕ → List ℕ → Type 0
Torn old [] [] = Unit {0}
Torn (o ∷ old) (b ∷ bytes) (t ∷ torn) = ((t ≡ o) ⊎ (t ≡ b)) × Torn old bytes torn
Torn old bytes torn = ⊥

-- a new file of at most so many zeros, or none; where there was a file of that name before, anything
abbrev pub MayMake : ℕ → Option (List ℕ) → Option (List ℕ) → Type 0
MayMake n None new = (new ≡ None) ⊎ ((k : ℕ) × (k ≤ n) × (new ≡ Some (zeros k)))
MayMake n (Some old) new = Unit {0}

abbrev pub MayGrow : ℕ → Option (List ℕ) → Option (List ℕ) → Type 0
MayGrow n old new = (k : ℕ) × (k ≤ n) × (new ≡ option_map (λ b. b ++ zeros k) old)

abbrev pub MayWrite : ℕ → List ℕ → Option (List ℕ) → Option (List ℕ) → Type 0
MayWrite at bytes None new = new ≡ None
MayWrite at bytes (Some old) new = (torn : List ℕ) × Torn (drop at old) bytes torn × (new ≡ Some (over at torn old))

abbrev pub MayCut : ℕ → Option (List ℕ) → Option (List ℕ) → Type 0
MayCut n old new = (k : ℕ) × (n ≤ k) × (new ≡ option_map (take k) old)

-- what a crash may make of d where this call was the last
abbrev pub CrashMayLeave : Call → Picture → Picture → Type 0
CrashMayLeave (Make name n) d c = SameBut name c d × MayMake n (d name) (c name)
CrashMayLeave (Grow name n) d c = SameBut name c d × MayGrow n (d name) (c name)
CrashMayLeave (Write name at bytes) d c = SameBut name c d × MayWrite at bytes (d name) (c name)
CrashMayLeave (Truncate name n) d c = SameBut name c d × MayCut n (d name) (c name)
CrashMayLeave (Rename from to) d c = Same c d ⊎ ((d from ≢ None) × Same c (after (Rename from to) d))
CrashMayLeave (Remove name) d c = Same c d ⊎ Same c (after (Remove name) d)
CrashMayLeave (Sync name) d c = Same c d
CrashMayLeave SyncFolder d c = Same c d

-- a call failed
abbrev pub has_failed : List Made → Bool
has_failed [] = false
has_failed (made ∷ past) = not made.1 || has_failed past

-- a file got another name since the names were last synced
abbrev pub has_renamed : List Made → Bool
has_renamed [] = false
has_renamed ((SyncFolder, done) ∷ past) = false
has_renamed ((Rename from to, done) ∷ past) = true
has_renamed (made ∷ past) = has_renamed past

-- all bytes of the file that has this name are synced
abbrev pub is_synced : List Made → List ℕ → Bool
is_synced [] n = true
is_synced ((Make name size, done) ∷ past) n = not (bytes_eq n name) && is_synced past n
is_synced ((Grow name size, done) ∷ past) n = not (bytes_eq n name) && is_synced past n
is_synced ((Write name at bytes, done) ∷ past) n = not (bytes_eq n name) && is_synced past n
is_synced ((Truncate name size, done) ∷ past) n = not (bytes_eq n name) && is_synced past n
is_synced ((Rename from to, done) ∷ past) n = cond (bytes_eq n to) (is_synced past from) (is_synced past n)
is_synced ((Sync name, done) ∷ past) n = bytes_eq n name || is_synced past n
is_synced (made ∷ past) n = is_synced past n

-- What a sync that was answered Ok makes sure of, where no call failed before: a file that is there has the bytes that are seen, and
-- after a sync of the folder so has each name whose file is synced.
abbrev pub IsSure : Call → Picture → List Made → Picture → Type 0
IsSure (Sync name) start past c = has_renamed past ≡ false → (c name ≡ None) ⊎ (c name ≡ seen_after start past name)
IsSure SyncFolder start past c = (n : List ℕ) → is_synced past n ≡ true → c n ≡ seen_after start past n
IsSure _ start past c = Unit {0}

-- what a crash may leave after these calls, the latest first
abbrev pub CrashLeaves : Picture → List Made → Picture → Type 0
CrashLeaves start [] c = Same c start
CrashLeaves start (made ∷ past) c = (d : Picture) × CrashLeaves start past d × CrashMayLeave made.0 d c
    × (made.1 ≡ true → has_failed past ≡ false → IsSure made.0 start past c)

-- whatever of these calls was the last, the latest first, a crash leaves what has P
abbrev pub EachLeaves : Picture → List Made → List Made → (Picture → Type 0) → Type 0
EachLeaves start before [] P = Unit {0}
EachLeaves start before (made ∷ later) P = ((c : Picture) → CrashLeaves start (made ∷ later ++ before) c → P c) × EachLeaves start before later P

-- From old to new, a crash at any moment leaves what has P.
pub record LeavesOnly (old new : Disk) (P : Picture → Type 0) : Type 0 where
  pub later : List Made
  pub start : new.start ≡ old.start
  pub grew : new.past ≡ later ++ old.past
  pub now : (c : Picture) → CrashLeaves old.start old.past c → P c
  pub each : EachLeaves old.start old.past later P
