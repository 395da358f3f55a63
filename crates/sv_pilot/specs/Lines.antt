-- A pilot's connection, and what is wrong with what came over it.
use Rattle.std.specs.Prelude.{◌≡◌, ℕ, ◌⊎◌, true, List, [], ◌++◌, map, None, Some, Err}
use Rattle.sv_frame.specs.Frames.{frames_of, first_frame, too_long}
use Rattle.sv_wire.specs.declared.fault.Malformed.{Malformed}
use Rattle.sv_wire.specs.declared.message.Request.{Request}
use Rattle.sv_wire.specs.Messages.{reply_at}
use Rattle.sv_wire.specs.Spelling.{request_bytes}
use Rattle.sv_link.specs.Ends.{Told}
use Rattle.sv_exchange.specs.Incoming.{FirstReads}

-- What the end in use tells, how often it failed, the bytes that came and were not taken as replies, and those that wait to be sent.
pub record Line : Type 0 where
  pub told : Told
  pub faults : ℕ
  pub came : List ℕ
  pub waits : List ℕ

-- The line of an end over which nothing came yet, and nothing is to go.
abbrev pub line_of : Told → ℕ → Line
line_of told faults = record { told = told; faults = faults; came = []; waits = [] }

-- the bytes of requests
abbrev pub request_frames : List Request → List ℕ
request_frames requests = frames_of (map request_bytes requests)

-- The same line, where some requests more wait to be sent.
abbrev pub asking : Line → List Request → Line
asking line requests = record line { waits = line.waits ++ request_frames requests }

-- No call of the end failed, and no read told that no more will come.
pub record IsCalm (old new : Line) : Type 0 where
  pub faults : new.faults ≡ old.faults
  pub ended : new.told.ended ≡ old.told.ended

-- It is the same end, which sent these bytes more, and received those.
pub record GoesOn (old new : Line) (sent received : List ℕ) : Type 0 where
  pub sends : new.told.sent ≡ old.told.sent ++ sent
  pub receives : new.told.received ≡ old.told.received ++ received
  pub pair : new.told.pair ≡ old.told.pair
  pub side : new.told.side ≡ old.told.side

-- the first payload of what came is none of a reply
abbrev pub IsMalformed : List ℕ → Type 0
IsMalformed came = (fault : Malformed) × FirstReads reply_at came (Err fault)

-- what came begins with a length that is too great
abbrev pub IsTooLong : List ℕ → Type 0
IsTooLong came = (n : ℕ) × (too_long came ≡ Some n)

-- the front of what came is no reply
abbrev pub IsBadFront : List ℕ → Type 0
IsBadFront came = IsMalformed came ⊎ IsTooLong came

-- what came begins with no whole frame, and with no length that is too great
abbrev pub IsPartial : List ℕ → Type 0
IsPartial came = (first_frame came ≡ None) × (too_long came ≡ None)

-- A read told that no more will come, and a whole reply has not come.
pub record HasEnded (line : Line) : Type 0 where
  pub ended : line.told.ended ≡ true
  pub partial : IsPartial line.came
