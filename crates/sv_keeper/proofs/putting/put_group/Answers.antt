-- What a crash leaves on the way.
use Rattle.std.proofs.Common.{◌≡◌, ◌++◌, List, ℕ, ◌∙◌}
use Rattle.sv_log.specs.OpenLogs.{newest, log_text, log_synced}
use Rattle.sv_keeper.proofs.Synced.{both}
use Rattle.sv_keeper.proofs.putting.put_group.Goals as goal

pub returns-in_err-sync-clause-any_moment : goal.returns-in_err-sync-clause-any_moment
returns-in_err-sync-clause-any_moment g c = λ h world is.
    let disk = g.F.Folder.disk in
    let old = c.args.log.now in
    let mid = c.append.new.self in
    let h1 = c.sync.ensures.honest h in
    let ok = c.in_ok-append.ensures in
    both world (newest disk old) (log_synced disk old) (log_text disk old ++ c.args.text.now) (disk old.segment.folder) (disk mid.segment.folder) (disk c.sync.new.self.segment.folder)
    (newest disk mid) (log_synced disk mid) (log_text disk mid) (ok.newest h1) (ok.synced h1) (ok.text h1)
    (c.append.ensures.any_moment h1 world is) (c.sync.ensures.any_moment h world (ok.world h1 ∙ is))

pub returns-clause-any_moment : goal.returns-clause-any_moment
returns-clause-any_moment g c = λ h world is.
    let disk = g.F.Folder.disk in
    let old = c.args.log.now in
    let mid = c.append.new.self in
    let h1 = c.sync.ensures.honest h in
    let ok = c.in_ok-append.ensures in
    both world (newest disk old) (log_synced disk old) (log_text disk old ++ c.args.text.now) (disk old.segment.folder) (disk mid.segment.folder) (disk c.sync.new.self.segment.folder)
    (newest disk mid) (log_synced disk mid) (log_text disk mid) (ok.newest h1) (ok.synced h1) (ok.text h1)
    (c.append.ensures.any_moment h1 world is) (c.sync.ensures.any_moment h world (ok.world h1 ∙ is))
