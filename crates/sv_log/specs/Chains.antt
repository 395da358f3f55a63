-- What a folder has of a log: a world, states, and the segments behind the newest whole state.
use Rattle.std.specs.Prelude.{◌≡◌, ◌≢◌, ◌⊎◌, ℕ, zero, suc, ◌+◌, ◌<◌, ◌≤◌, List, [], ◌∷◌, ◌++◌, Option, Some, None, cond, ◌==◌, codes}
use Rattle.std.specs.Option.{unwrap_or}
use Rattle.sha2.specs.Sha256.{sha256}
use Rattle.hex.specs.Hex.{encode_lower}
use Rattle.sv_log.specs.Pictures.{Picture}
use Rattle.sv_log.specs.Crashes.{SameBut}
use Rattle.sv_log.specs.Texts.{IsFront, whole_in}
use Rattle.sv_log.specs.Names.{segment_name, state_name, world_name, IsNumber, IsWrongName}

-- how many lines end in a text
abbrev pub lines : List ℕ → ℕ
lines [] = 0
lines (b ∷ text) = cond (b == 10) 1 0 + lines text

-- the text of the segment of this number
abbrev pub text_at : Picture → ℕ → List ℕ
text_at p n = whole_in (p (segment_name n))

abbrev pub text_of : Picture → List ℕ → List ℕ
text_of p [] = []
text_of p (n ∷ ns) = text_at p n ++ text_of p ns

-- there is no segment from this number on, below that one
abbrev pub NoneBetween : Picture → ℕ → ℕ → Type 0
NoneBetween p low high = (m : ℕ) → IsNumber m → low ≤ m → m < high → p (segment_name m) ≡ None

-- Segments that are closed lead from a number to the number of the segment behind them. Each has lines and nothing else, and the next one goes
-- on where it ends.
abbrev pub IsClosed : Picture → ℕ → List ℕ → ℕ → Type 0
IsClosed p n [] last = n ≡ last
IsClosed p n (m ∷ ms) last = (m ≡ n) × IsNumber n × (p (segment_name n) ≡ Some (text_at p n)) × (text_at p n ≢ [])
    × NoneBetween p (n + 1) (n + lines (text_at p n)) × IsClosed p (n + lines (text_at p n)) ms last

-- the last line of a state: the sum of all bytes before it
abbrev pub sum_line : List ℕ → List ℕ
sum_line bytes = codes "sum " ++ encode_lower (sha256 bytes) ++ 10 ∷ []

-- a state whose sum is right
abbrev pub IsWholeState : Option (List ℕ) → Type 0
IsWholeState None = ⊥
IsWholeState (Some bytes) = (before : List ℕ) × (bytes ≡ before ++ sum_line before)

-- the state after this line is the newest whole one; where it is 0 there is none
abbrev pub IsNewest : Picture → ℕ → Type 0
IsNewest p zero = (m : ℕ) → IsNumber m → p (state_name m) ≡ None
IsNewest p (suc k) = IsNumber (suc k) × IsWholeState (p (state_name (suc k))) × ((m : ℕ) → IsNumber m → suc k < m → IsWholeState (p (state_name m)) → ⊥)

-- a state: the number of the line after which it was taken, and its bytes
abbrev pub StateFile : Type 0
StateFile = ℕ × List ℕ

abbrev pub no_state : StateFile
no_state = (0, [])

-- the bytes of the state after this line, and none where it is 0
abbrev pub state_at : Picture → ℕ → List ℕ
state_at p zero = []
state_at p (suc k) = unwrap_or (p (state_name (suc k))) []

-- no file has a name that is none of the log's
abbrev pub IsWellNamed : Picture → Type 0
IsWellNamed p = (name : List ℕ) → IsWrongName name → p name ≡ None

-- the newest whole state is that after the line `state`, the segments behind it are those of the numbers in `closed`, and last that of `last`
pub record IsLog (p : Picture) (state : ℕ) (closed : List ℕ) (last : ℕ) : Type 0 where
  pub named : IsWellNamed p
  pub newest : IsNewest p state
  pub chain : IsClosed p (state + 1) closed last
  pub number : IsNumber last
  pub there : (bytes : List ℕ) × (p (segment_name last) ≡ Some bytes)
  pub none : (m : ℕ) → IsNumber m → last < m → p (segment_name m) ≡ None

-- there is no state and no segment, and no other world
pub record IsFresh (world : List ℕ) (p : Picture) : Type 0 where
  pub named : IsWellNamed p
  pub states : (m : ℕ) → IsNumber m → p (state_name m) ≡ None
  pub segments : (m : ℕ) → IsNumber m → p (segment_name m) ≡ None
  pub own : (p world_name ≡ None) ⊎ (p world_name ≡ Some world)

-- the newest whole state is `state`, and the text of the segments behind it is `text`
abbrev pub HasLines : StateFile → List ℕ → Picture → Type 0
HasLines state text p = (closed : List ℕ) × (last : ℕ) × IsLog p state.0 closed last × (text ≡ text_of p closed ++ text_at p last)
    × (state.1 ≡ state_at p state.0)

-- a log of this world, whose newest whole state is `state`, and the text behind it is `text`
abbrev pub HasLog : List ℕ → StateFile → List ℕ → Picture → Type 0
HasLog world state text p = ((p world_name ≡ Some world) × HasLines state text p) ⊎ (IsFresh world p × (state ≡ no_state) × (text ≡ []))

-- a log of this world, with a text from low to high behind its newest whole state
abbrev pub KeepsLog : List ℕ → StateFile → List ℕ → List ℕ → Picture → Type 0
KeepsLog world state low high p = (text : List ℕ) × HasLog world state text p × IsFront low text × IsFront text high

-- the two have the same files of a log
pub record SameLog (c p : Picture) : Type 0 where
  pub segments : (m : ℕ) → c (segment_name m) ≡ p (segment_name m)
  pub states : (m : ℕ) → c (state_name m) ≡ p (state_name m)
  pub wrong : (name : List ℕ) → IsWrongName name → c name ≡ p name
  pub world : c world_name ≡ p world_name
