-- What comes of the folder.
use Rattle.std.proofs.Common.{inl, refl}
use Rattle.sv_host.specs.Words.{asked_by}
use Rattle.sv_host.proofs.Ends.{ended_none}
use Rattle.sv_host.proofs.Joined.{broke_before, held_now, stopped_before}
use Rattle.sv_host.proofs.Top2.{broke_as, err_as, log_behind, ok_as, served_as, stopped_behind}
use Rattle.sv_host.proofs.Written.{on_err}
use Rattle.sv_host.proofs.top.serve_prepared.Goals as goal

pub returns-in-Ok-clause-done : goal.returns-in-Ok-clause-done
returns-in-Ok-clause-done g c = λ contents prepared read. ok_as c.serve_kept.result
    (served_as g.S.F.Folder.disk g.S.F.Folder.is_honest (g.S.Folders.opens c.args.parts.now.folders.now) contents
    (asked_by c.args.options.now) _ _ c.args.prepared.file c.args.prepared.bytes.items c.in_ok-folder.folder c.in-Ok.keeper prepared
    c.in_ok-folder.ensures.opened c.in-Ok.ensures.opened)
    (ok_as c.serve_kept.result
    (stopped_before (asked_by c.args.options.now).keys read.files g.S.F.Folder.disk g.S.F.Folder.is_honest c.in-Ok.keeper _ _ c.args.options.now.folder.now)
    (c.serve_kept.ensures.done (asked_by c.args.options.now).keys (held_now (asked_by c.args.options.now).keys c.args.staff.keys read)))

pub returns-in-Ok-clause-why : goal.returns-in-Ok-clause-why
returns-in-Ok-clause-why g c = λ contents prepared read. err_as c.serve_kept.result
    (stopped_behind g.S.F.Folder.disk g.S.F.Folder.is_honest (g.S.Folders.opens c.args.parts.now.folders.now) contents (asked_by c.args.options.now)
    _ _ g.S.F.Folder.faults (g.S.Folders.refuses c.args.parts.now.folders.now) (g.D.Doors.refuses c.args.parts.now.doors.now)
    c.args.prepared.file c.args.prepared.bytes.items c.in_ok-folder.folder c.in-Ok.keeper prepared
    c.in_ok-folder.ensures.opened c.in-Ok.ensures.opened
    (broke_before (asked_by c.args.options.now).keys read.files _ _ _ (c.serve_kept.ensures.broke (asked_by c.args.options.now).keys (held_now (asked_by c.args.options.now).keys c.args.staff.keys read))))
    c.serve_kept.ensures.why

pub returns-in-Ok-clause-wrote : goal.returns-in-Ok-clause-wrote
returns-in-Ok-clause-wrote g c = λ contents prepared read. on_err c.serve_kept.result
    (broke_as g.S.F.Folder.disk g.S.F.Folder.is_honest (g.S.Folders.opens c.args.parts.now.folders.now) contents
    (asked_by c.args.options.now) _ _ c.args.prepared.file c.args.prepared.bytes.items c.in_ok-folder.folder c.in-Ok.keeper prepared
    c.in_ok-folder.ensures.opened c.in-Ok.ensures.opened
    (broke_before (asked_by c.args.options.now).keys read.files _ _ _ (c.serve_kept.ensures.broke (asked_by c.args.options.now).keys (held_now (asked_by c.args.options.now).keys c.args.staff.keys read))))

pub returns-in-Err-clause-why : goal.returns-in-Err-clause-why
returns-in-Err-clause-why g c = λ contents prepared read. log_behind g.S.F.Folder.disk g.S.F.Folder.is_honest
    (g.S.Folders.opens c.args.parts.now.folders.now) contents (asked_by c.args.options.now)
    _ _ g.S.F.Folder.faults (g.S.Folders.refuses c.args.parts.now.folders.now) (g.D.Doors.refuses c.args.parts.now.doors.now) c.args.prepared.file c.args.prepared.bytes.items
    c.in_ok-folder.folder c.in-Err.ending prepared c.in_ok-folder.ensures.opened c.in-Err.ensures.why

pub returns-in-Err-clause-wrote : goal.returns-in-Err-clause-wrote
returns-in-Err-clause-wrote g c = λ contents prepared read. inl refl

pub serve_kept-requires-clause-ended : goal.serve_kept-requires-clause-ended
serve_kept-requires-clause-ended g c = ended_none c.in-Ok.ensures.opened.ended
