-- The last item of a relay.
use Rattle.std.proofs.Common.{◌∙◌}
use Rattle.sv_looks.proofs.Lasts.{last_at}
use Rattle.sv_looks.proofs.taking.last_item.Goals as goal

pub returns : goal.returns
returns c = c.last.ensures.value ∙ last_at c.args.items.now
