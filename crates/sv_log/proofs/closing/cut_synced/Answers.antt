-- What is proved by hand of `cut_synced`.
use Rattle.sv_log.proofs.Cuts.{cut_room, cut_only, cut_sync_only, cut_rest, cut_seen, cut_others}
use Rattle.sv_log.proofs.closing.cut_synced.Goals as goal

pub cut-requires : goal.cut-requires
cut-requires g c = record {
  within = λ h. cut_room (g.F.Folder.disk c.args.folder.now) c.args.name.now c.args.size (c.requires.file h).0 (c.requires.rest h) (c.requires.file h).1 (c.requires.size h);
}

pub returns-in_err-cut-clause-any_moment : goal.returns-in_err-cut-clause-any_moment
returns-in_err-cut-clause-any_moment g c = λ h.
    let m = c.cut.ensures.honest h in
    cut_only (g.F.Folder.disk c.args.folder.now) c.args.name.now c.args.size (c.requires.file m).0 (c.requires.rest m) (c.requires.file m).1 (c.requires.size m) _ c.cut.result (c.cut.ensures.made h)

pub returns-in_err-sync-clause-any_moment : goal.returns-in_err-sync-clause-any_moment
returns-in_err-sync-clause-any_moment g c = λ h.
    let m = c.cut.ensures.honest (c.sync.ensures.honest h) in
    cut_sync_only (g.F.Folder.disk c.args.folder.now) c.args.name.now c.args.size (c.requires.file m).0 (c.requires.rest m) (c.requires.file m).1 (c.requires.size m)
    (g.F.Folder.disk c.cut.new.self) _ c.sync.result (c.in_ok-cut.ensures.made (c.sync.ensures.honest h)) (c.sync.ensures.made h)

pub returns-clause-any_moment : goal.returns-clause-any_moment
returns-clause-any_moment g c = λ h.
    let m = c.cut.ensures.honest (c.sync.ensures.honest h) in
    cut_sync_only (g.F.Folder.disk c.args.folder.now) c.args.name.now c.args.size (c.requires.file m).0 (c.requires.rest m) (c.requires.file m).1 (c.requires.size m)
    (g.F.Folder.disk c.cut.new.self) _ c.sync.result (c.in_ok-cut.ensures.made (c.sync.ensures.honest h)) (c.sync.ensures.made h)

pub returns-clause-rest : goal.returns-clause-rest
returns-clause-rest g c = λ h.
    let m = c.cut.ensures.honest (c.sync.ensures.honest h) in
    cut_rest (g.F.Folder.disk c.args.folder.now) c.args.name.now c.args.size (c.requires.file m).0 (c.requires.rest m) (c.requires.file m).1 (c.requires.size m)
    (g.F.Folder.disk c.cut.new.self) (g.F.Folder.disk c.sync.new.self) (c.in_ok-cut.ensures.made (c.sync.ensures.honest h)) (c.in_ok-sync.ensures.made h)

pub returns-clause-file : goal.returns-clause-file
returns-clause-file g c = λ h.
    let m = c.cut.ensures.honest (c.sync.ensures.honest h) in
    cut_seen (g.F.Folder.disk c.args.folder.now) c.args.name.now c.args.size (c.requires.file m).0 (c.requires.rest m) (c.requires.file m).1 (c.requires.size m)
    (g.F.Folder.disk c.cut.new.self) (g.F.Folder.disk c.sync.new.self) (c.in_ok-cut.ensures.made (c.sync.ensures.honest h)) (c.in_ok-sync.ensures.made h)

pub returns-clause-others : goal.returns-clause-others
returns-clause-others g c = λ h.
    let m = c.cut.ensures.honest (c.sync.ensures.honest h) in
    cut_others (g.F.Folder.disk c.args.folder.now) c.args.name.now c.args.size (c.requires.file m).0 (c.requires.rest m) (c.requires.file m).1 (c.requires.size m)
    (g.F.Folder.disk c.cut.new.self) (g.F.Folder.disk c.sync.new.self) (c.in_ok-cut.ensures.made (c.sync.ensures.honest h)) (c.in_ok-sync.ensures.made h)
