-- What is proved by hand of `count_versions`.
use Rattle.std.proofs.Common.{arith}
use Rattle.sv_versions.proofs.Rows.{count_from}
use Rattle.sv_versions.proofs.count.count_versions.Goals as goal

pub returns-else-versions-count : goal.returns-else-versions-count
returns-else-versions-count c = count_from _ _ _ c.index-versions-count.result c.requires (omega arith) (λ h. c.if-versions-count.false) c.loop-count.invariant.1
