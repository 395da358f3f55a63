-- What is proved by hand of `put_world`.
use Rattle.std.proofs.Common.{[]}
use Rattle.sv_log.specs.Pictures.{seen}
use Rattle.sv_log.specs.Rests.{IsPut}
use Rattle.sv_log.specs.Names.{world_name, new_name}
use Rattle.sv_log.specs.Chains.{no_state, HasLog}
use Rattle.sv_log.proofs.Moments.{weaker_only}
use Rattle.sv_log.proofs.Quiet.{world_put, world_puts}
use Rattle.sv_log.proofs.opening.put_world.Goals as goal

pub returns-in_err-put_whole-clause-any_moment : goal.returns-in_err-put_whole-clause-any_moment
returns-in_err-put_whole-clause-any_moment g c = λ h.
    weaker_only (g.F.Folder.disk c.args.folder.now) (g.F.Folder.disk c.put_whole.new.folder) (IsPut new_name world_name c.args.world.now (seen (g.F.Folder.disk c.args.folder.now)))
    (HasLog c.args.world.now no_state []) (λ p is. world_puts (seen (g.F.Folder.disk c.args.folder.now)) p c.args.world.now (c.requires.fresh (c.put_whole.ensures.honest h)) is) (c.put_whole.ensures.any_moment h)

pub returns-clause-any_moment : goal.returns-clause-any_moment
returns-clause-any_moment g c = λ h.
    weaker_only (g.F.Folder.disk c.args.folder.now) (g.F.Folder.disk c.put_whole.new.folder) (IsPut new_name world_name c.args.world.now (seen (g.F.Folder.disk c.args.folder.now)))
    (HasLog c.args.world.now no_state []) (λ p is. world_puts (seen (g.F.Folder.disk c.args.folder.now)) p c.args.world.now (c.requires.fresh (c.put_whole.ensures.honest h)) is) (c.put_whole.ensures.any_moment h)

pub returns-clause-put : goal.returns-clause-put
returns-clause-put g c = λ h.
    world_put (seen (g.F.Folder.disk c.args.folder.now)) (seen (g.F.Folder.disk c.put_whole.new.folder)) c.args.world.now (c.requires.fresh (c.put_whole.ensures.honest h)) (c.in_ok-put_whole.ensures.rest h).1
