-- What is proved by hand of `make_synced`.
use Rattle.sv_log.specs.Pictures.{SyncFolder}
use Rattle.sv_log.proofs.Mended.{on_made}
use Rattle.sv_log.proofs.Started.{make_only, make_sync_only, make_folder_only, make_stands, make_rest, make_others}
use Rattle.sv_log.proofs.starting.make_synced.Goals as goal

pub returns-in_err-make-clause-any_moment : goal.returns-in_err-make-clause-any_moment
returns-in_err-make-clause-any_moment g c = λ h.
    let m = c.make.ensures.honest h in
    make_only (g.F.Folder.disk c.args.folder.now) c.args.name.now c.args.size (c.requires.rest m) (c.requires.none m) _ c.make.result (c.make.ensures.made h)

pub returns-in_err-sync-clause-any_moment : goal.returns-in_err-sync-clause-any_moment
returns-in_err-sync-clause-any_moment g c = λ h.
    let m = c.make.ensures.honest (c.sync.ensures.honest h) in
    make_sync_only (g.F.Folder.disk c.args.folder.now) c.args.name.now c.args.size (c.requires.rest m) (c.requires.none m)
    (g.F.Folder.disk c.make.new.self) (c.in_ok-make.ensures.made (c.sync.ensures.honest h)) _ c.sync.result (c.sync.ensures.made h)

pub returns-clause-any_moment : goal.returns-clause-any_moment
returns-clause-any_moment g c = λ h.
    let m = c.make.ensures.honest (c.sync.ensures.honest (c.sync_folder.ensures.honest h)) in
    make_folder_only (g.F.Folder.disk c.args.folder.now) c.args.name.now c.args.size (c.requires.rest m) (c.requires.none m)
    (g.F.Folder.disk c.make.new.self) (c.in_ok-make.ensures.made (c.sync.ensures.honest (c.sync_folder.ensures.honest h))) (g.F.Folder.disk c.sync.new.self) (c.in_ok-sync.ensures.made (c.sync_folder.ensures.honest h)) _ c.sync_folder.result (c.sync_folder.ensures.made h)

pub returns-clause-stands : goal.returns-clause-stands
returns-clause-stands g c = λ h.
    let m = c.make.ensures.honest (c.sync.ensures.honest (c.sync_folder.ensures.honest h)) in
    on_made SyncFolder (g.F.Folder.disk c.sync.new.self) (g.F.Folder.disk c.sync_folder.new.self) c.sync_folder.result (c.sync_folder.ensures.made h)
    (make_stands (g.F.Folder.disk c.args.folder.now) c.args.name.now c.args.size (c.requires.rest m) (c.requires.none m)
    (g.F.Folder.disk c.make.new.self) (c.in_ok-make.ensures.made (c.sync.ensures.honest (c.sync_folder.ensures.honest h))) (g.F.Folder.disk c.sync.new.self) (c.in_ok-sync.ensures.made (c.sync_folder.ensures.honest h)) (g.F.Folder.disk c.sync_folder.new.self))

pub returns-clause-rest : goal.returns-clause-rest
returns-clause-rest g c = λ h.
    let m = c.make.ensures.honest (c.sync.ensures.honest (c.sync_folder.ensures.honest h)) in
    on_made SyncFolder (g.F.Folder.disk c.sync.new.self) (g.F.Folder.disk c.sync_folder.new.self) c.sync_folder.result (c.sync_folder.ensures.made h)
    (make_rest (g.F.Folder.disk c.args.folder.now) c.args.name.now c.args.size (c.requires.rest m) (c.requires.none m)
    (g.F.Folder.disk c.make.new.self) (c.in_ok-make.ensures.made (c.sync.ensures.honest (c.sync_folder.ensures.honest h))) (g.F.Folder.disk c.sync.new.self) (c.in_ok-sync.ensures.made (c.sync_folder.ensures.honest h)) (g.F.Folder.disk c.sync_folder.new.self))

pub returns-clause-others : goal.returns-clause-others
returns-clause-others g c = λ h.
    let m = c.make.ensures.honest (c.sync.ensures.honest (c.sync_folder.ensures.honest h)) in
    on_made SyncFolder (g.F.Folder.disk c.sync.new.self) (g.F.Folder.disk c.sync_folder.new.self) c.sync_folder.result (c.sync_folder.ensures.made h)
    (make_others (g.F.Folder.disk c.args.folder.now) c.args.name.now c.args.size (c.requires.rest m) (c.requires.none m)
    (g.F.Folder.disk c.make.new.self) (c.in_ok-make.ensures.made (c.sync.ensures.honest (c.sync_folder.ensures.honest h))) (g.F.Folder.disk c.sync.new.self) (c.in_ok-sync.ensures.made (c.sync_folder.ensures.honest h)) (g.F.Folder.disk c.sync_folder.new.self))
