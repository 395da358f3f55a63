-- What is proved by hand of `walk_from`.
use Rattle.std.proofs.Common.{◌≡◌, ◌∙◌, ℕ, sym, subst}
use Rattle.sv_log.specs.Pictures.{Disk, seen}
use Rattle.sv_log.specs.declared.reading.LogRefusal.{LogRefusal}
use Rattle.sv_log.specs.Walks.{IsOnTheWay}
use Rattle.sv_log.specs.Refusals.{IsWhy, HasNoChain}
use Rattle.sv_log.proofs.Refused.{err_by}
use Rattle.sv_log.proofs.walking.walk_from.Goals as goal

pub returns-in_err-step-clause-refused : goal.returns-in_err-step-clause-refused
returns-in_err-step-clause-refused g c = λ h.
    let i = c.loop.invariant in
    let first = c.args.first in
    let p = seen (g.F.Folder.disk c.args.folder.now) in
    let e = c.in_err-step.field-0.0 in
    let way = subst (λ (d : Disk). IsOnTheWay (seen d) first c.loop.walk) (sym i.same) (i.way (c.step.ensures.honest h)) in
    err_by (λ (r : LogRefusal). IsWhy (HasNoChain p first) r.cause) c.from_residual.result e c.from_residual.ensures.1
    (subst (λ (d : Disk). IsWhy (HasNoChain (seen d) first) e.cause) i.same (c.in_err-step.ensures.refused h first way))
