-- What is read of a log.
use Rattle.std.specs.Prelude.{◌≡◌, ◌≢◌, ◌⊎◌, ℕ, ◌+◌, ◌<◌, ◌≤◌, List, [], ◌++◌, Option, Some, None, Contains, IsSome, true, false, Bool}
use Rattle.sv_log.specs.Pictures.{Picture}
use Rattle.sv_log.specs.Texts.{whole_in}
use Rattle.sv_log.specs.Rests.{Tells, Mends}
use Rattle.sv_log.specs.Names.{segment_name, state_name, file_name, world_name, IsNumber}
use Rattle.sv_log.specs.declared.names.FileKind.{FileKind}
use Rattle.sv_log.specs.declared.names.FileKind.TheVariants as segment
use Rattle.sv_log.specs.Chains.{StateFile, lines, text_at, text_of, state_at, IsWholeState, IsLog, IsFresh}
use Rattle.sv_log.specs.declared.reading.Reading.{Reading}

-- the world is there, just where it was told
abbrev pub HasWorld : Option (List ℕ) → List ℕ → Bool → Type 0
HasWorld file world true = file ≡ Some world
HasWorld file world false = file ≡ None

abbrev pub read_state : Reading → StateFile
read_state r = (r.state, r.state_bytes.items)

-- there is no log yet
pub record ReadsNone (world : List ℕ) (p : Picture) (r : Reading) : Type 0 where
  pub fresh : IsFresh world p
  pub state : r.state ≡ 0
  pub bytes : r.state_bytes.items ≡ []
  pub closed : r.closed.items ≡ []
  pub text : r.text.items ≡ []
  pub next : r.next ≡ 1

-- there is a log, whose last segment has this number
pub record ReadsSome (world : List ℕ) (p : Picture) (r : Reading) (last : ℕ) : Type 0 where
  pub own : p world_name ≡ Some world
  pub log : IsLog p r.state r.closed.items last
  pub bytes : r.state_bytes.items ≡ state_at p r.state
  pub text : r.text.items ≡ text_of p r.closed.items ++ text_at p last
  pub next : r.next ≡ last + lines (text_at p last)

abbrev pub ReadsLast : List ℕ → Picture → Reading → Option ℕ → Type 0
ReadsLast world p r None = ReadsNone world p r × HasWorld (p world_name) world r.has_world
ReadsLast world p r (Some last) = ReadsSome world p r last

-- this was read of a folder
abbrev pub Reads : List ℕ → Picture → Reading → Type 0
Reads world p r = ReadsLast world p r r.last

-- the last segment can be made, or mended, under this name
abbrev pub IsReadyLast : List ℕ → Picture → Reading → List ℕ → Option ℕ → Type 0
IsReadyLast world p r name None = (name ≡ segment_name 1) × ReadsNone world p r × (p world_name ≡ Some world)
IsReadyLast world p r name (Some last) = (name ≡ segment_name last) × ReadsSome world p r last

abbrev pub IsReadyToOpen : List ℕ → Picture → Reading → List ℕ → Type 0
IsReadyToOpen world p r name = IsReadyLast world p r name r.last

-- what a crash may leave while the last segment is made or mended
abbrev pub LastBecomes : Option ℕ → Picture → List ℕ → Picture → Type 0
LastBecomes None p name c = Tells p name [] c
LastBecomes (Some _) p name c = Mends p name (whole_in (p name)) c

-- ---- Files by their names

-- it is the name of no such file
abbrev pub IsOther : FileKind → List ℕ → Type 0
IsOther k name = (m : ℕ) → IsNumber m → name ≢ file_name k m

-- the first number from `least` on for which such a file is listed
abbrev pub IsFirstNumber : FileKind → List (List ℕ) → ℕ → Option ℕ → Type 0
IsFirstNumber k names least None = (m : ℕ) → IsNumber m → least ≤ m → Contains names (file_name k m) → ⊥
IsFirstNumber k names least (Some n) = IsNumber n × (least ≤ n) × Contains names (file_name k n) × ((m : ℕ) → IsNumber m → least ≤ m → m < n
    → Contains names (file_name k m) → ⊥)

-- a state is looked at: it is the newest whole one now, or it is not whole
abbrev pub Looks : Picture → ℕ → ℕ → ℕ → Type 0
Looks p old new number = ((new ≡ number) × IsWholeState (p (state_name number))) ⊎ ((new ≡ old) × (IsWholeState (p (state_name number)) → ⊥))

-- Of the states up to the number `seen` the newest whole one is that after the line `state`, or none is where it is 0. There is one of the
-- number `seen`, unless it is 0.
abbrev pub IsNewestSoFar : Picture → ℕ → ℕ → Type 0
IsNewestSoFar p state seen = (state ≤ seen) × ((state ≡ 0) ⊎ (IsNumber state × IsWholeState (p (state_name state))))
    × ((m : ℕ) → IsNumber m → state < m → m ≤ seen → IsWholeState (p (state_name m)) → ⊥) × ((seen ≡ 0) ⊎ (IsNumber seen × IsSome (p (state_name seen))))

-- there is a state after this line, or a segment
abbrev pub HasSome : List (List ℕ) → ℕ → Type 0
HasSome names state = (state ≢ 0) ⊎ ((n : ℕ) × IsFirstNumber segment.Segment names 1 (Some n))

-- nothing was read
abbrev pub IsNothing : Reading → Bool → Type 0
IsNothing r has_world = (r.has_world ≡ has_world) × (r.state ≡ 0) × (r.closed.items ≡ []) × (r.last ≡ None) × (r.text.items ≡ []) × (r.next ≡ 1)
    × (r.state_bytes.items ≡ [])
