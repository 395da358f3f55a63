-- What was read before.
use Rattle.std.proofs.Common.{inr}
use Rattle.sv_host.specs.Words.{asked_by}
use Rattle.sv_host.proofs.Joined.{are_read}
use Rattle.sv_host.proofs.Top2.{err_as, late}
use Rattle.sv_host.proofs.top.run.Goals as goal

pub returns-clause-done : goal.returns-clause-done
returns-clause-done g c =
    c.serve_prepared.ensures.done _ c.in_ok-prepared.ensures.read
    (are_read (asked_by c.args.options.now).keys c.in_ok-keys.keys c.in_ok-staff.staff.keys c.prepared_of.ensures.same c.keys_of.ensures.same
    c.in_ok-keys.ensures.keys c.in_ok-staff.ensures.keys)

pub returns-clause-wrote : goal.returns-clause-wrote
returns-clause-wrote g c =
    c.serve_prepared.ensures.wrote _ c.in_ok-prepared.ensures.read
    (are_read (asked_by c.args.options.now).keys c.in_ok-keys.keys c.in_ok-staff.staff.keys c.prepared_of.ensures.same c.keys_of.ensures.same
    c.in_ok-keys.ensures.keys c.in_ok-staff.ensures.keys)

pub returns-clause-why : goal.returns-clause-why
returns-clause-why g c =
    err_as c.serve_prepared.result (λ e why. inr why)
    (c.serve_prepared.ensures.why _ c.in_ok-prepared.ensures.read
    (are_read (asked_by c.args.options.now).keys c.in_ok-keys.keys c.in_ok-staff.staff.keys c.prepared_of.ensures.same c.keys_of.ensures.same
    c.in_ok-keys.ensures.keys c.in_ok-staff.ensures.keys))

pub returns-clause-apart : goal.returns-clause-apart
returns-clause-apart g c =
    err_as c.serve_prepared.result (λ e why early. absurd (late _ _ _ _ _ _ _ g.S.F.Folder.faults (g.S.Folders.refuses c.args.parts.now.folders.now) (g.D.Doors.refuses c.args.parts.now.doors.now) e why early))
    (c.serve_prepared.ensures.why _ c.in_ok-prepared.ensures.read
    (are_read (asked_by c.args.options.now).keys c.in_ok-keys.keys c.in_ok-staff.staff.keys c.prepared_of.ensures.same c.keys_of.ensures.same
    c.in_ok-keys.ensures.keys c.in_ok-staff.ensures.keys))

pub returns-clause-quiet : goal.returns-clause-quiet
returns-clause-quiet g c =
    err_as c.serve_prepared.result (λ e why early. absurd (late _ _ _ _ _ _ _ g.S.F.Folder.faults (g.S.Folders.refuses c.args.parts.now.folders.now) (g.D.Doors.refuses c.args.parts.now.doors.now) e why early))
    (c.serve_prepared.ensures.why _ c.in_ok-prepared.ensures.read
    (are_read (asked_by c.args.options.now).keys c.in_ok-keys.keys c.in_ok-staff.staff.keys c.prepared_of.ensures.same c.keys_of.ensures.same
    c.in_ok-keys.ensures.keys c.in_ok-staff.ensures.keys))
