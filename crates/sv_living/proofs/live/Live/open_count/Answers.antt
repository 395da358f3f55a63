-- The table has just the open sessions.
use Rattle.std.proofs.Common.{◌∙◌}
use Rattle.sv_living.proofs.Turns.{count-is}
use Rattle.sv_living.proofs.live.Live.open_count.Goals as goal

pub returns-clause-open : goal.returns-clause-open
returns-clause-open c h keeps = c.len.ensures ∙ count-is c.args.self.now.core h c.args.self.now.table c.args.self.now.next keeps.table keeps.next
