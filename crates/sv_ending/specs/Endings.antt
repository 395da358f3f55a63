-- What is left of a call that makes a text, prints it and ends. `IsText` says what a text tells, and `EndsEarly` what an ending without a text
-- says: both are the call's own. `old` and `now` are what the output was given, before and after, where that is told.
use Rattle.std.specs.Prelude.{◌≡◌, ℕ, List, Option, Result, Ok, Err, String, string_bytes}
use Rattle.std.specs.declared.alloc.Global.{Global}
use Rattle.sv_bytes.specs.Writing.{Grew, GrewByPart}
use Rattle.sv_ending.specs.declared.ending.Ending.{Ending}
use Rattle.sv_ending.specs.declared.ending.Ending.TheVariants as endings

-- The text, or why there is none. The endings may be of a type of the call's own.
abbrev pub IsMade : {E : Type 0} → (List ℕ → Type 0) → (E → Type 0) → Result (String Global) E → Type 0
IsMade IsText EndsEarly (Ok text) = IsText (string_bytes text)
IsMade IsText EndsEarly (Err ending) = EndsEarly ending

-- The output grew by just a text that tells what it is to tell.
pub record IsPrinted (IsText : List ℕ → Type 0) (old now : Option (List ℕ)) : Type 0 where
  pub text : List ℕ
  pub told : IsText text
  pub grew : Grew old now text

-- The output grew by a front part of such a text.
pub record IsCutShort (IsText : List ℕ → Type 0) (old now : Option (List ℕ)) : Type 0 where
  pub text : List ℕ
  pub told : IsText text
  pub part : GrewByPart old now text

-- The output, by how the call ended.
abbrev pub Ends : (List ℕ → Type 0) → (Ending → Type 0) → (old now : Option (List ℕ)) → Ending → Type 0
Ends IsText EndsEarly old now endings.Done = IsPrinted IsText old now
Ends IsText EndsEarly old now endings.Out = IsCutShort IsText old now
Ends IsText EndsEarly old now ending = EndsEarly ending × (now ≡ old)

-- The same of a call that may be asked for nothing, which it tells by the ending Words.
abbrev pub OrWords : (Ending → Type 0) → Ending → Type 0
OrWords EndsEarly endings.Words = Unit {0}
OrWords EndsEarly ending = EndsEarly ending
