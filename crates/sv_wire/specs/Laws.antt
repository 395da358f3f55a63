-- Laws of the payloads.
use Rattle.std.specs.Prelude.{◌≡◌, ℕ, List, ◌++◌, Ok}
use Rattle.sv_wire.specs.declared.message.Request.{Request}
use Rattle.sv_wire.specs.declared.message.Reply.{Reply}
use Rattle.sv_wire.specs.Messages.{request_at, reply_at}
use Rattle.sv_wire.specs.Spelling.{request_bytes, reply_bytes}
use Rattle.sv_wire.specs.Grammar.{IsWireRequest, IsWireReply}
use Rattle.sv_wire.specs.Ranges.{RequestFits, ReplyFits}

-- A request that can be sent: it is within the grammar, and its numbers are those of its types.
pub record IsRequest (m : Request) : Type 0 where
  pub within : IsWireRequest m
  pub fits : RequestFits m

pub record IsReply (m : Reply) : Type 0 where
  pub within : IsWireReply m
  pub fits : ReplyFits m

-- Different requests have different payloads.
abbrev pub RequestsDiffer : Type 0
RequestsDiffer = (m n : Request) → IsRequest m → IsRequest n → request_bytes m ≡ request_bytes n → m ≡ n

abbrev pub RepliesDiffer : Type 0
RepliesDiffer = (m n : Reply) → IsReply m → IsReply n → reply_bytes m ≡ reply_bytes n → m ≡ n

-- Two messages whose payloads begin the same bytes are one.
abbrev pub RequestsAreApart : Type 0
RequestsAreApart = (m n : Request) (x y : List ℕ) → IsRequest m → IsRequest n → request_bytes m ++ x ≡ request_bytes n ++ y → m ≡ n

abbrev pub RepliesAreApart : Type 0
RepliesAreApart = (m n : Reply) (x y : List ℕ) → IsReply m → IsReply n → reply_bytes m ++ x ≡ reply_bytes n ++ y → m ≡ n

-- No bytes begin with both a request's payload and a reply's.
abbrev pub KindsAreApart : Type 0
KindsAreApart = (m : Request) (n : Reply) (x y : List ℕ) → IsRequest m → IsReply n → request_bytes m ++ x ≡ reply_bytes n ++ y → ⊥

-- What was encoded is decoded as itself.
abbrev pub RequestsAreReadBack : Type 0
RequestsAreReadBack = (m : Request) → IsRequest m → request_at (request_bytes m) ≡ Ok m

abbrev pub RepliesAreReadBack : Type 0
RepliesAreReadBack = (m : Reply) → IsReply m → reply_at (reply_bytes m) ≡ Ok m
