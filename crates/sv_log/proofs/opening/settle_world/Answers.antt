-- What is proved by hand of `settle_world`.
use Rattle.std.proofs.Common.{[], inr, refl, subst, true, Bool}
use Rattle.sv_log.specs.Pictures.{seen}
use Rattle.sv_log.specs.Names.{world_name}
use Rattle.sv_log.specs.Chains.{no_state}
use Rattle.sv_log.specs.Readings.{HasWorld}
use Rattle.sv_log.proofs.Opened.{rest_only}
use Rattle.sv_log.proofs.opening.settle_world.Goals as goal

pub returns-then-has_world-clause-any_moment : goal.returns-then-has_world-clause-any_moment
returns-then-has_world-clause-any_moment g c = λ h. rest_only (g.F.Folder.disk c.args.folder.now) c.args.world.now no_state [] (c.requires.rest h) (inr (c.requires.fresh h, refl, refl))

pub returns-then-has_world-clause-put : goal.returns-then-has_world-clause-put
returns-then-has_world-clause-put g c = λ h. (
  c.requires.fresh h,
  subst (λ (b : Bool). HasWorld (seen (g.F.Folder.disk c.args.folder.now) world_name) c.args.world.now b) c.if-has_world.true (c.requires.own h),
)
