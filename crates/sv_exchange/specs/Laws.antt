-- Laws of the frames of messages.
use Rattle.std.specs.Prelude.{◌≡◌, ℕ, List, ◌++◌}
use Rattle.sv_frame.specs.Frames.{frame}
use Rattle.sv_wire.specs.declared.message.Request.{Request}
use Rattle.sv_wire.specs.declared.message.Reply.{Reply}
use Rattle.sv_wire.specs.Laws.{IsRequest, IsReply}
use Rattle.sv_wire.specs.Spelling.{request_bytes, reply_bytes}

-- Two messages whose frames begin the same stream are one.
abbrev pub RequestFramesDiffer : Type 0
RequestFramesDiffer = (m n : Request) (x y : List ℕ) → IsRequest m → IsRequest n → frame (request_bytes m) ++ x ≡ frame (request_bytes n) ++ y → m ≡ n

abbrev pub ReplyFramesDiffer : Type 0
ReplyFramesDiffer = (m n : Reply) (x y : List ℕ) → IsReply m → IsReply n → frame (reply_bytes m) ++ x ≡ frame (reply_bytes n) ++ y → m ≡ n

-- No stream begins with both a request's frame and a reply's.
abbrev pub KindsDiffer : Type 0
KindsDiffer = (m : Request) (n : Reply) (x y : List ℕ) → IsRequest m → IsReply n → frame (request_bytes m) ++ x ≡ frame (reply_bytes n) ++ y → ⊥
