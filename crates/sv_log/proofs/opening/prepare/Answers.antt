-- What is proved by hand of `prepare`.
use Rattle.std.proofs.Common.{◌≡◌, ◌∙◌, ℕ, List, sym, subst}
use Rattle.sv_log.specs.Pictures.{Disk, seen}
use Rattle.sv_log.specs.Crashes.{LeavesOnly}
use Rattle.sv_log.specs.Chains.{HasLog, SameLog}
use Rattle.sv_log.specs.Readings.{read_state}
use Rattle.sv_log.proofs.Opened.{reads_some, reads_holds, rest_only, some_same, ready_some}
use Rattle.sv_log.proofs.opening.prepare.Goals as goal

pub returns-in_default-clause-any_moment : goal.returns-in_default-clause-any_moment
returns-in_default-clause-any_moment g c = λ h.
    rest_only (g.F.Folder.disk c.args.folder.now) c.args.world.now (read_state c.args.reading.now) c.args.reading.now.text.items (c.requires.rest h)
    (reads_holds c.args.world.now (seen (g.F.Folder.disk c.args.folder.now)) c.args.reading.now (c.requires.read h))

pub returns-in_err-bytes-in-Some-clause-any_moment : goal.returns-in_err-bytes-in-Some-clause-any_moment
returns-in_err-bytes-in-Some-clause-any_moment g c = λ h.
    let m = c.read_file.ensures.honest h in
    subst (λ (d : Disk). LeavesOnly (g.F.Folder.disk c.args.folder.now) d (HasLog c.args.world.now (read_state c.args.reading.now) c.args.reading.now.text.items)) (sym c.read_file.ensures.same)
    (rest_only (g.F.Folder.disk c.args.folder.now) c.args.world.now (read_state c.args.reading.now) c.args.reading.now.text.items (c.requires.rest m)
    (reads_holds c.args.world.now (seen (g.F.Folder.disk c.args.folder.now)) c.args.reading.now (c.requires.read m)))

pub returns-in_ok-keep_rest-in-Some-clause-ready : goal.returns-in_ok-keep_rest-in-Some-clause-ready
returns-in_ok-keep_rest-in-Some-clause-ready g c = λ h.
    let m = c.read_file.ensures.honest (c.keep_rest.ensures.honest h) in
    let p = seen (g.F.Folder.disk c.args.folder.now) in
    let d = seen (g.F.Folder.disk c.keep_rest.new.folder) in
    let same : SameLog d p = subst (λ (x : Disk). SameLog d (seen x)) c.read_file.ensures.same (c.in_ok-keep_rest-in-Some.ensures.same h) in
    ready_some c.args.world.now d c.args.reading.now _ c.in-Some.last c.in-Some.is c.in-Ok.ensures
    (some_same c.args.world.now p d c.args.reading.now c.in-Some.last same (reads_some c.args.world.now p c.args.reading.now c.in-Some.last c.in-Some.is (c.requires.read m)))
