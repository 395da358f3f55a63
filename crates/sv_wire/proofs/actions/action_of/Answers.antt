-- What is proved by hand of `action_of`.
use Rattle.sv_wire.proofs.NearFields.{count_is}
use Rattle.sv_wire.proofs.actions.action_of.Goals as goal

pub mask_of-requires : goal.mask_of-requires
mask_of-requires c = (count_is 1 16 c.args.bytes.now (c.in_ok-count.count, c.in_ok-count.rest.now) c.in_ok-count.ensures).1
