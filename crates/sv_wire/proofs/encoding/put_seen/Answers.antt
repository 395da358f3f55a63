-- What is proved by hand of `put_seen`.
use Rattle.std.proofs.Common.{◌++◌, ◌∷◌, []}
use Rattle.byteorder.specs.Endian.{big_bytes}
use Rattle.sv_wire.specs.Spelling.{work_bytes, reply_bytes}
use Rattle.sv_wire.proofs.Append.{after_three}
use Rattle.sv_wire.proofs.encoding.put_seen.Goals as goal

pub returns : goal.returns
unfolding reply_bytes
returns c =
    after_three c.args.out.now.items (0x8b ∷ []) (big_bytes 4 c.args.last ++ big_bytes 4 c.args.commit) (work_bytes c.args.head.now c.args.items.now) _ _ _
    c.in_ok-push.ensures.items c.in_ok-put_two.ensures c.in_ok-put_work.ensures
