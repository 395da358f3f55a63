-- What the first frame of an inbox is read as, and what is left of it.
use Rattle.std.specs.Prelude.{◌≡◌, ℕ, ◌<◌, List, length, Option, None, Some, option_map, IsSome, Result, Ok, Err}
use Rattle.sv_frame.specs.Frames.{greatest_frame, first_frame, too_long}
use Rattle.sv_frame.specs.Answers.{Skips}
use Rattle.sv_frame.specs.declared.reader.NextFrame.{NextFrame}
use Rattle.sv_frame.specs.declared.reader.NextFrame.TheVariants as nexts
use Rattle.sv_wire.specs.declared.fault.Malformed.{Malformed}
use Rattle.sv_wire.specs.declared.message.Request.{Request}
use Rattle.sv_wire.specs.declared.message.Request.TheVariants as requests
use Rattle.sv_exchange.specs.declared.inbox.Incoming.{Incoming}
use Rattle.sv_exchange.specs.declared.inbox.Incoming.TheVariants as incoming

-- the request that was read; a malformed payload is taken for Bad
abbrev pub read_or_bad : Result Request Malformed → Request
read_or_bad (Ok request) = request
read_or_bad (Err fault) = requests.Bad

-- the payload of the first whole frame, where there is one
abbrev pub first_payload_of : List ℕ → Option (List ℕ)
first_payload_of bytes = option_map (λ first. first.0) (first_frame bytes)

module _ {M : Type 0} (read_at : List ℕ → Result M Malformed) where
  -- the first frame's payload is read as this
  pub record FirstReads (bytes : List ℕ) (read : Result M Malformed) : Type 0 where
    pub payload : List ℕ
    pub first : first_payload_of bytes ≡ Some payload
    pub is : read_at payload ≡ read

  -- what each answer says of the bytes that came. Memory is wanted for the message of a whole frame alone
  abbrev pub ReadsFirst : Incoming M → List ℕ → Type 0
  ReadsFirst (incoming.Whole m) bytes = FirstReads bytes (Ok m)
  ReadsFirst incoming.NotYet bytes = (first_frame bytes ≡ None) × (too_long bytes ≡ None)
  ReadsFirst (incoming.Malformed fault) bytes = FirstReads bytes (Err fault)
  ReadsFirst (incoming.TooLong n) bytes = too_long bytes ≡ Some n
  ReadsFirst incoming.Memory bytes = IsSome (first_payload_of bytes)

  -- what an answer of a frame reader becomes
  abbrev pub IsReadAs : NextFrame → Incoming M → Type 0
  IsReadAs (nexts.Frame payload) (incoming.Whole m) = read_at payload.now ≡ Ok m
  IsReadAs (nexts.Frame payload) incoming.NotYet = ⊥
  IsReadAs (nexts.Frame payload) (incoming.Malformed fault) = read_at payload.now ≡ Err fault
  IsReadAs (nexts.Frame payload) (incoming.TooLong n) = ⊥
  IsReadAs (nexts.Frame payload) incoming.Memory = Unit {0}
  IsReadAs nexts.NotYet answer = answer ≡ incoming.NotYet
  IsReadAs (nexts.TooLong n) answer = answer ≡ incoming.TooLong n

module _ {M : Type 0} where
  -- a message's frame is taken off; any other answer leaves all
  abbrev pub Takes : Incoming M → List ℕ → List ℕ → Type 0
  Takes (incoming.Whole m) old new = Skips old new
  Takes incoming.NotYet old new = new ≡ old
  Takes (incoming.Malformed fault) old new = new ≡ old
  Takes (incoming.TooLong n) old new = new ≡ old
  Takes incoming.Memory old new = new ≡ old

  -- where no whole frame has come there is room for another byte
  abbrev pub KeepsRoom : Incoming M → List ℕ → Type 0
  KeepsRoom (incoming.Whole m) bytes = Unit {0}
  KeepsRoom incoming.NotYet bytes = length bytes < greatest_frame
  KeepsRoom (incoming.Malformed fault) bytes = Unit {0}
  KeepsRoom (incoming.TooLong n) bytes = Unit {0}
  KeepsRoom incoming.Memory bytes = Unit {0}
