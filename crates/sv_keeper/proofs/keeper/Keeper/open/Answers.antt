-- Why it is not opened, and what a crash leaves then.
use Rattle.std.proofs.Common.{◌≡◌, List, ℕ, refl, sym, subst}
use Rattle.sv_log.specs.Pictures.{Disk, seen}
use Rattle.sv_log.specs.Crashes.{LeavesOnly}
use Rattle.sv_log.specs.Chains.{no_state}
use Rattle.sv_keeper.specs.Opened.{start_of, HasAll}
use Rattle.sv_keeper.proofs.Taken.{taken_all}
use Rattle.sv_keeper.proofs.Begun.{only_read, text_is, why_not}
use Rattle.sv_keeper.proofs.keeper.Keeper.open.Goals as goal

pub returns-in-Err-clause-any_moment_err : goal.returns-in-Err-clause-any_moment_err
returns-in-Err-clause-any_moment_err g c = λ h text holds.
    let disk = g.F.Folder.disk in
    only_read (disk c.args.folder) (disk c.read_log.new.folder) c.args.opening.world.now c.read_log.ensures.same (c.requires.rest (c.read_log.ensures.honest h)) text holds

pub returns-in-Err-walked-clause-any_moment_err : goal.returns-in-Err-walked-clause-any_moment_err
returns-in-Err-walked-clause-any_moment_err g c = λ h text holds.
    let disk = g.F.Folder.disk in
    only_read (disk c.args.folder) (disk c.read_log.new.folder) c.args.opening.world.now c.read_log.ensures.same (c.requires.rest (c.read_log.ensures.honest h)) text holds

pub returns-in-Err-walked-clause-err : goal.returns-in-Err-walked-clause-err
returns-in-Err-walked-clause-err g c = λ h.
    let disk = g.F.Folder.disk in
    let opening = c.args.opening in
    why_not (disk c.args.folder) (disk c.read_log.new.folder) opening.world.now (start_of opening.opened opening.stewards) c.in-Ok.reading c.read_log.ensures.same (c.in-Ok.ensures.reads h)
    c.in-Err-walked.fault c.in-Err-walked.ensures.why

pub over-requires-clause-text : goal.over-requires-clause-text
over-requires-clause-text g c = taken_all {v = start_of c.args.opening.opened c.args.opening.stewards} refl c.in-Ok-walked.ensures.taken

pub returns-in-Err-over-clause-any_moment_err : goal.returns-in-Err-over-clause-any_moment_err
returns-in-Err-over-clause-any_moment_err g c = λ h text holds.
    let disk = g.F.Folder.disk in
    let world = c.args.opening.world.now in
    let left = disk c.args.folder in
    let r = c.in-Ok.reading in
    let now = disk c.in-Err-over.folder in
    let same = text_is world left r (c.in-Ok.ensures.reads (c.in-Err-over.ensures.honest_err h)) c.in-Ok-walked.ensures.stateless text holds in
    subst (λ (d : Disk). LeavesOnly d now (HasAll world no_state text)) c.read_log.ensures.same
    (subst (λ (t : List ℕ). LeavesOnly (disk c.read_log.new.folder) now (HasAll world no_state t)) (sym same) (c.in-Err-over.ensures.any_moment_err h))
