-- What the check leaves to prove of `first_wanted`.
use Rattle.std.proofs.Common.{sym}
use Rattle.sv_influence.proofs.Takes.{start-sent}
use Rattle.sv_influence.proofs.lacking.first_wanted.Goals as goal

pub returns-then-is_marked-clause-whole : goal.returns-then-is_marked-clause-whole
returns-then-is_marked-clause-whole g c = start-sent c.args.queue.now c.args.slot c.args.pos (sym c.if-is_marked.ensures.marked)
