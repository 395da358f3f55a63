-- What is proved by hand of `keep`.
use Rattle.std.proofs.Common.{◌∙◌, ap}
use Rattle.sv_log.specs.Memory.{latest_first}
use Rattle.sv_log.proofs.Replays.{latest_push}
use Rattle.sv_log.proofs.memory.keep.Goals as goal

pub returns-clause-ok : goal.returns-clause-ok
returns-clause-ok c = ap latest_first c.in_ok-push.ensures.items ∙ latest_push c.args.calls.now.items _
