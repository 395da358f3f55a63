-- What is proved by hand of `put_dropped`.
use Rattle.std.proofs.Common.{◌++◌, ◌∷◌, []}
use Rattle.byteorder.specs.Endian.{big_bytes}
use Rattle.sv_wire.specs.Spelling.{reply_bytes}
use Rattle.sv_wire.proofs.Append.{after_three}
use Rattle.sv_wire.proofs.encoding.put_dropped.Goals as goal

pub returns : goal.returns
unfolding reply_bytes
returns c =
    after_three c.args.out.now.items (0x8a ∷ []) (big_bytes 4 c.args.seq) (big_bytes 4 c.args.chain ++ big_bytes 4 c.args.far) _ _ _ c.in_ok-push.ensures.items c.in_ok-put_u32.ensures c.in_ok-put_two.ensures
