-- Reading bytes from left to right, up to the first refused field.
use Rattle.std.specs.Prelude.{◌≡◌, ℕ, zero, suc, List, [], ◌∷◌, length, Result, Ok, Err}
use Rattle.sv_wire.specs.declared.fault.WireCause.{WireCause}
use Rattle.sv_wire.specs.declared.fault.Stop.{Stop}
use Rattle.sv_wire.specs.declared.fault.DecodeFault.{DecodeFault}
use Rattle.sv_wire.specs.declared.fault.DecodeFault.TheVariants as faults

-- What reading a field gives: its value and the bytes after it, or where reading stops.
abbrev pub Read : Type 0 → Type 0
Read A = Result (A × List ℕ) Stop

-- The same for a field that depends on a number, and gives the number for the field after it.
abbrev pub Turn : Type 0 → Type 0
Turn A = Result (A × ℕ × List ℕ) Stop

infixl 10 ◌>>=◌
abbrev pub ◌>>=◌ : {A B : Type 0} → Result A Stop → (A → Result B Stop) → Result B Stop
(Ok x) >>= f = f x
(Err e) >>= f = Err e

-- Reading stops at the field that begins these bytes.
abbrev pub stop : {A : Type 0} → List ℕ → WireCause → Result A Stop
stop bytes cause = Err (record { left = length bytes; cause = cause })

-- What a function returned, seen by view, is what reading gives, unless memory ran out.
abbrev pub Fails : {Y : Type 0} → DecodeFault → Result Y Stop → Type 0
Fails faults.Memory read = Unit {0}
Fails (faults.Stop s) read = read ≡ Err s

abbrev pub Gives : {X Y : Type 0} → (X → Y) → Result X DecodeFault → Result Y Stop → Type 0
Gives view (Ok x) read = read ≡ Ok (view x)
Gives view (Err e) read = Fails e read

-- Fields of one kind, one after the other.
unfoldable pub several : {A : Type 0} → (List ℕ → Read A) → ℕ → List ℕ → Read (List A)
several reader zero bytes = Ok ([], bytes)
several reader (suc n) bytes = do
  first ← reader bytes
  others ← several reader n first.1
  Ok (first.0 ∷ others.0, others.1)

-- The same where each gives the number that the next one depends on.
unfoldable pub in_turn : {A : Type 0} → (ℕ → List ℕ → Turn A) → ℕ → ℕ → List ℕ → Turn (List A)
in_turn reader zero from bytes = Ok ([], from, bytes)
in_turn reader (suc n) from bytes = do
  first ← reader from bytes
  others ← in_turn reader n first.1 first.2
  Ok (first.0 ∷ others.0, others.1, others.2)
