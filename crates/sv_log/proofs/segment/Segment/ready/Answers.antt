-- What is proved by hand of `ready`.
use Rattle.std.proofs.Common.{refl}
use Rattle.sv_log.proofs.Runs.{calm_only}
use Rattle.sv_log.proofs.Texts.{front_same}
use Rattle.sv_log.specs.Logs.{synced}
use Rattle.sv_log.proofs.segment.Segment.ready.Goals as goal

pub returns-clause-any_moment : goal.returns-clause-any_moment
returns-clause-any_moment g c = λ h. calm_only g.F.Folder.disk c.args.self.now (c.requires.open h)

pub returns-clause-synced : goal.returns-clause-synced
returns-clause-synced g c = λ h. front_same (synced g.F.Folder.disk c.args.self.now)

pub returns-clause-others : goal.returns-clause-others
returns-clause-others g c = λ h n ne. refl
