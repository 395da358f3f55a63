-- The codes that refusals carry in a message.
use Rattle.std.specs.Prelude.{ℕ}
use Rattle.sv_wire.specs.declared.refusal.Refusal.{Refusal}
use Rattle.sv_wire.specs.declared.refusal.Refusal.TheVariants as refusals

abbrev pub code_of : Refusal → ℕ
code_of refusals.Malformed = 1
code_of refusals.NotJoined = 2
code_of refusals.AlreadyJoined = 3
code_of refusals.Over = 4
code_of refusals.WrongSequence = 5
code_of refusals.BadAction = 6
code_of refusals.BadResults = 7
code_of refusals.BadInterest = 8
code_of refusals.TooManyRequests = 9
code_of refusals.NoSuchClient = 10
code_of refusals.OldLife = 11
code_of refusals.Full = 12

-- The greatest code.
abbrev pub last_code : ℕ
last_code = 12
