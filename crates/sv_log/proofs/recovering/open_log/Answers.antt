-- What is proved by hand of `open_log`.
use Rattle.std.proofs.Common.{◌≡◌, ℕ, List, sym, subst}
use Rattle.sv_log.specs.Pictures.{Disk, seen}
use Rattle.sv_log.specs.Crashes.{LeavesOnly}
use Rattle.sv_log.specs.Rests.{IsAtRest}
use Rattle.sv_log.specs.Chains.{HasLog}
use Rattle.sv_log.specs.Readings.{read_state, Reads}
use Rattle.sv_log.proofs.Walked.{fault_why}
use Rattle.sv_log.proofs.Recovered.{recovers, opening_failed, reading_failed}
use Rattle.sv_log.proofs.recovering.open_log.Goals as goal

pub open-requires : goal.open-requires
open-requires g c = record {
  rest = λ h. subst IsAtRest (sym c.read_log.ensures.same) (c.requires.rest (c.read_log.ensures.honest h));
  read = λ h. subst (λ (d : Disk). Reads c.args.world.now (seen d) c.in-Ok.reading) (sym c.read_log.ensures.same) (c.in-Ok.ensures.reads h);
}

pub returns-in-Err-clause-recovers : goal.returns-in-Err-clause-recovers
returns-in-Err-clause-recovers g c = λ state low high keeps h.
    let m = c.read_log.ensures.honest h in
    reading_failed (g.F.Folder.disk c.args.folder) (g.F.Folder.disk c.read_log.new.folder) c.in-Err.refusal c.args.world.now state low high c.read_log.ensures.same (c.requires.rest m) (keeps m)
    (c.in-Err.ensures.refused h)

pub returns-in-Ok-open-clause-recovers : goal.returns-in-Ok-open-clause-recovers
returns-in-Ok-open-clause-recovers g c = λ state low high keeps h.
    let disk = g.F.Folder.disk in
    let world = c.args.world.now in
    let r = c.in-Ok.reading in
    let log = c.in-Ok-open.log in
    let read = c.in-Ok-open.ensures.honest h in
    let m = c.read_log.ensures.honest read in
    recovers world (disk c.args.folder) r state low high (c.in-Ok.ensures.reads read) (keeps m) disk log (c.in-Ok-open.ensures.open h) (c.in-Ok-open.ensures.newest h)
    (c.in-Ok-open.ensures.text h) (c.in-Ok-open.ensures.synced h)
    (subst (λ (d : Disk). LeavesOnly d (disk log.segment.folder) (HasLog world (read_state r) r.text.items)) c.read_log.ensures.same (c.in-Ok-open.ensures.any_moment h))

pub returns-in-Err-open-clause-recovers : goal.returns-in-Err-open-clause-recovers
returns-in-Err-open-clause-recovers g c = λ state low high keeps h.
    let disk = g.F.Folder.disk in
    let world = c.args.world.now in
    let r = c.in-Ok.reading in
    let read = c.in-Err-open.ensures.honest_err h in
    let m = c.read_log.ensures.honest read in
    opening_failed world (disk c.args.folder) r state low high (c.in-Ok.ensures.reads read) (keeps m) (disk c.in-Err-open.folder) c.refuse_fault.result
    (fault_why ⊥ c.in-Err-open.fault c.refuse_fault.result.cause c.refuse_fault.ensures)
    (subst (λ (d : Disk). LeavesOnly d (disk c.in-Err-open.folder) (HasLog world (read_state r) r.text.items)) c.read_log.ensures.same (c.in-Err-open.ensures.any_moment_err h))
