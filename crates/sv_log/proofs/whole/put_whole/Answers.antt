-- What is proved by hand of `put_whole`.
use Rattle.std.proofs.Common.{◌∙◌, ap, true, sym, subst, length}
use Rattle.sv_log.specs.Pictures.{Disk, seen, noted, Make, Write, Sync, Rename, SyncFolder, FileHasRoom}
use Rattle.sv_log.proofs.Mended.{on_made}
use Rattle.sv_log.proofs.Puts.{put_making, put_writing, put_syncing, put_renaming, put_naming, put_rest, first_room, third_room}
use Rattle.sv_log.proofs.whole.put_whole.Goals as goal

pub write_at-requires : goal.write_at-requires
write_at-requires g c = record {
  within = λ h. subst (λ (d : Disk). FileHasRoom (seen d) c.args.new.now 0 (length c.args.bytes.now)) (sym (c.in_ok-make.ensures.made h)) (first_room (g.F.Folder.disk c.args.folder.now) c.args.name.now c.args.new.now c.args.bytes.now (c.requires.rest (c.make.ensures.honest h)));
}

pub rename-requires : goal.rename-requires
rename-requires g c = record {
  there = λ h. subst (λ (d : Disk). FileHasRoom (seen d) c.args.new.now 0 0) (sym (c.in_ok-sync.ensures.made h ∙ ap (noted (Sync c.args.new.now, true)) (c.in_ok-write_at.ensures.made (c.sync.ensures.honest h) ∙ ap (noted (Write c.args.new.now 0 c.args.bytes.now, true)) (c.in_ok-make.ensures.made (c.write_at.ensures.honest (c.sync.ensures.honest h)))))) (third_room (g.F.Folder.disk c.args.folder.now) c.args.name.now c.args.new.now c.args.bytes.now (c.requires.rest (c.make.ensures.honest (c.write_at.ensures.honest (c.sync.ensures.honest h)))));
}

pub returns-in_err-make-clause-any_moment : goal.returns-in_err-make-clause-any_moment
returns-in_err-make-clause-any_moment g c = λ h. put_making (g.F.Folder.disk c.args.folder.now) c.args.name.now c.args.new.now c.args.bytes.now (c.requires.rest (c.make.ensures.honest h)) _ c.make.result (c.make.ensures.made h)

pub returns-in_err-write_at-clause-any_moment : goal.returns-in_err-write_at-clause-any_moment
returns-in_err-write_at-clause-any_moment g c = λ h. put_writing (g.F.Folder.disk c.args.folder.now) c.args.name.now c.args.new.now c.args.bytes.now (c.requires.rest (c.make.ensures.honest (c.write_at.ensures.honest h))) (g.F.Folder.disk c.make.new.self) _ c.write_at.result (c.in_ok-make.ensures.made (c.write_at.ensures.honest h)) (c.write_at.ensures.made h)

pub returns-in_err-sync-clause-any_moment : goal.returns-in_err-sync-clause-any_moment
returns-in_err-sync-clause-any_moment g c = λ h. put_syncing (g.F.Folder.disk c.args.folder.now) c.args.name.now c.args.new.now c.args.bytes.now (c.requires.rest (c.make.ensures.honest (c.write_at.ensures.honest (c.sync.ensures.honest h)))) (g.F.Folder.disk c.write_at.new.self) _ c.sync.result (c.in_ok-write_at.ensures.made (c.sync.ensures.honest h) ∙ ap (noted (Write c.args.new.now 0 c.args.bytes.now, true)) (c.in_ok-make.ensures.made (c.write_at.ensures.honest (c.sync.ensures.honest h)))) (c.sync.ensures.made h)

pub returns-in_err-rename-clause-any_moment : goal.returns-in_err-rename-clause-any_moment
returns-in_err-rename-clause-any_moment g c = λ h. put_renaming (g.F.Folder.disk c.args.folder.now) c.args.name.now c.args.new.now c.args.bytes.now (c.requires.rest (c.make.ensures.honest (c.write_at.ensures.honest (c.sync.ensures.honest (c.rename.ensures.honest h))))) (g.F.Folder.disk c.sync.new.self) _ c.rename.result (c.in_ok-sync.ensures.made (c.rename.ensures.honest h) ∙ ap (noted (Sync c.args.new.now, true)) (c.in_ok-write_at.ensures.made (c.sync.ensures.honest (c.rename.ensures.honest h)) ∙ ap (noted (Write c.args.new.now 0 c.args.bytes.now, true)) (c.in_ok-make.ensures.made (c.write_at.ensures.honest (c.sync.ensures.honest (c.rename.ensures.honest h)))))) (c.rename.ensures.made h)

pub returns-clause-any_moment : goal.returns-clause-any_moment
returns-clause-any_moment g c = λ h. put_naming (g.F.Folder.disk c.args.folder.now) c.args.name.now c.args.new.now c.args.bytes.now (c.requires.rest (c.make.ensures.honest (c.write_at.ensures.honest (c.sync.ensures.honest (c.rename.ensures.honest (c.sync_folder.ensures.honest h)))))) (g.F.Folder.disk c.rename.new.self) _ c.sync_folder.result (c.in_ok-rename.ensures.made (c.sync_folder.ensures.honest h) ∙ ap (noted (Rename c.args.new.now c.args.name.now, true)) (c.in_ok-sync.ensures.made (c.rename.ensures.honest (c.sync_folder.ensures.honest h)) ∙ ap (noted (Sync c.args.new.now, true)) (c.in_ok-write_at.ensures.made (c.sync.ensures.honest (c.rename.ensures.honest (c.sync_folder.ensures.honest h))) ∙ ap (noted (Write c.args.new.now 0 c.args.bytes.now, true)) (c.in_ok-make.ensures.made (c.write_at.ensures.honest (c.sync.ensures.honest (c.rename.ensures.honest (c.sync_folder.ensures.honest h)))))))) (c.sync_folder.ensures.made h)

pub returns-clause-rest : goal.returns-clause-rest
returns-clause-rest g c = λ h.
    on_made SyncFolder (g.F.Folder.disk c.rename.new.self) (g.F.Folder.disk c.sync_folder.new.self) c.sync_folder.result (c.sync_folder.ensures.made h)
    (λ is. put_rest (g.F.Folder.disk c.args.folder.now) c.args.name.now c.args.new.now c.args.bytes.now (c.requires.rest (c.make.ensures.honest (c.write_at.ensures.honest (c.sync.ensures.honest (c.rename.ensures.honest (c.sync_folder.ensures.honest h)))))) (g.F.Folder.disk c.sync_folder.new.self) (is ∙ ap (noted (SyncFolder, true)) (c.in_ok-rename.ensures.made (c.sync_folder.ensures.honest h) ∙ ap (noted (Rename c.args.new.now c.args.name.now, true)) (c.in_ok-sync.ensures.made (c.rename.ensures.honest (c.sync_folder.ensures.honest h)) ∙ ap (noted (Sync c.args.new.now, true)) (c.in_ok-write_at.ensures.made (c.sync.ensures.honest (c.rename.ensures.honest (c.sync_folder.ensures.honest h))) ∙ ap (noted (Write c.args.new.now 0 c.args.bytes.now, true)) (c.in_ok-make.ensures.made (c.write_at.ensures.honest (c.sync.ensures.honest (c.rename.ensures.honest (c.sync_folder.ensures.honest h))))))))))
