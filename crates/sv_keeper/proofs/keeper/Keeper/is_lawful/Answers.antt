-- What a keeper keeps.
use Rattle.std.proofs.Common.{◌≡◌, false, List, ℕ, Some, subst}
use Rattle.sv_journal.specs.Serving.{LegalFor}
use Rattle.sv_journal.specs.Living.{living}
use Rattle.sv_log.specs.Crashes.{LeavesOnly}
use Rattle.sv_log.specs.Names.{world_name}
use Rattle.sv_log.specs.OpenLogs.{shown, newest}
use Rattle.sv_keeper.specs.Histories.{HoldsFirst}
use Rattle.sv_keeper.specs.Views.{KeeperView}
use Rattle.sv_keeper.specs.Invariant.{view_of}
use Rattle.sv_keeper.proofs.Durables.{calm}
use Rattle.sv_keeper.proofs.keeper.Keeper.is_lawful.Goals as goal

pub returns-clause-legal : goal.returns-clause-legal
returns-clause-legal g c =
    subst (λ (v : KeeperView g.row.F.Denot). LegalFor (living v.world.stewardship) v.world.rules v.world.history) c.self.view_is c.is_lawful.ensures.legal

pub returns-clause-any_moment : goal.returns-clause-any_moment
returns-clause-any_moment g c =
    let disk = g.F.Folder.disk in
    let honest = g.F.Folder.is_honest in
    subst (λ (v : KeeperView g.row.F.Denot). honest v.log.segment.folder → v.is_broken ≡ false → (world : List ℕ) → shown disk v.log world_name ≡ Some world
    → LeavesOnly (disk v.log.segment.folder) (disk v.log.segment.folder) (HoldsFirst v.world.rules.world.shape world (newest disk v.log) v.world.history v.synced))
    c.self.view_is (λ h sound world own. calm disk honest (view_of c.self.inside) (c.self.invariant.kept sound) h world own)
