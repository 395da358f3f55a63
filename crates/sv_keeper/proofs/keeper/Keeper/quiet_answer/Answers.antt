-- What is told.
use Rattle.std.proofs.Common.{Some, subst}
use Rattle.std.specs.Prelude.{IfSome}
use Rattle.sv_living.specs.Quiet.{IsQuietReply}
use Rattle.sv_keeper.specs.Views.{KeeperView}
use Rattle.sv_keeper.proofs.Kept.{some_quiet}
use Rattle.sv_keeper.proofs.keeper.Keeper.quiet_answer.Goals as goal

pub returns-clause-some : goal.returns-clause-some
returns-clause-some g c =
    let core = c.self.inside.core in
    subst (λ (v : KeeperView g.row.F.Denot). IfSome c.quiet_answer.result (λ reply. IsQuietReply v.world.rules v.world.stewardship v.world.history c.args.session c.args.request.now (Some reply))) c.self.view_is
    (some_quiet core.rules core.stewardship core.history c.args.session c.args.request.now c.quiet_answer.result c.quiet_answer.ensures)
