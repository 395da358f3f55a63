-- No message's frame begins another message's frame.
use Rattle.std.proofs.Common.{ℕ, List, [], ◌++◌, ap}
use Rattle.sv_wire.specs.Spelling.{request_bytes, reply_bytes}
use Rattle.sv_wire.proofs.AgainMessages.{requests_differ, replies_differ, kinds_apart}
use Rattle.sv_frame.proofs.Splitting.{frames-apart}
use Rattle.sv_exchange.specs.Laws.{RequestFramesDiffer, ReplyFramesDiffer, KindsDiffer}
use Rattle.sv_exchange.proofs.Sizes.{request_short, reply_short}

pub request_frames_differ : RequestFramesDiffer
request_frames_differ m n x y p q e = requests_differ m n p q (frames-apart (request_bytes m) (request_bytes n) x y (request_short m p) (request_short n q) e).0

pub reply_frames_differ : ReplyFramesDiffer
reply_frames_differ m n x y p q e = replies_differ m n p q (frames-apart (reply_bytes m) (reply_bytes n) x y (reply_short m p) (reply_short n q) e).0

pub kinds_differ : KindsDiffer
kinds_differ m n x y p q e =
    let same = (frames-apart (request_bytes m) (reply_bytes n) x y (request_short m p) (reply_short n q) e).0 in
    kinds_apart m n [] [] p q (ap (λ (t : List ℕ). t ++ []) same)
