-- How far the segments of a log were read.
use Rattle.std.specs.Prelude.{◌≡◌, ◌≢◌, ℕ, ◌+◌, ◌<◌, List, [], ◌++◌, Some, None, IsSome, Bool, true, false}
use Rattle.sv_log.specs.Pictures.{Picture}
use Rattle.sv_log.specs.Texts.{whole}
use Rattle.sv_log.specs.Names.{segment_name, IsNumber}
use Rattle.sv_log.specs.Chains.{lines, text_at, text_of, IsClosed}
use Rattle.sv_log.specs.declared.walking.SegmentWalk.{SegmentWalk}

-- closed segments were read, up to one that comes next and is there
pub record IsOnTheWay (p : Picture) (first : ℕ) (w : SegmentWalk) : Type 0 where
  pub chain : IsClosed p first w.closed.items w.number
  pub number : IsNumber w.number
  pub there : IsSome (p (segment_name w.number))
  pub text : w.text.items ≡ text_of p w.closed.items

-- all segments were read
pub record HasArrived (p : Picture) (first : ℕ) (w : SegmentWalk) : Type 0 where
  pub chain : IsClosed p first w.closed.items w.number
  pub number : IsNumber w.number
  pub there : (bytes : List ℕ) × (p (segment_name w.number) ≡ Some bytes)
  pub none : (m : ℕ) → IsNumber m → w.number < m → p (segment_name m) ≡ None
  pub text : w.text.items ≡ text_of p w.closed.items ++ text_at p w.number
  pub next : w.next ≡ w.number + lines (text_at p w.number)

abbrev pub StepsTo : Picture → ℕ → SegmentWalk → Bool → Type 0
StepsTo p first w true = HasArrived p first w
StepsTo p first w false = IsOnTheWay p first w

-- a segment of this number has lines and nothing else, and the next one goes on where it ends
abbrev pub LeadsTo : ℕ → List ℕ → ℕ → Type 0
LeadsTo number bytes following = (whole bytes ≡ bytes) × (bytes ≢ []) × (following ≡ number + lines bytes)
