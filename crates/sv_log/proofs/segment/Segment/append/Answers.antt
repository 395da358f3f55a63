-- What is proved by hand of `append`.
use Rattle.std.proofs.Common.{ℕ, subst}
use Rattle.std.proofs.lemmas.Result.{on_ok_weaker}
use Rattle.sv_bytes.specs.Faults.{ReadAllCause}
use Rattle.sv_log.proofs.Runs.{ready_only, append_only, append_text, append_synced, append_others}
use Rattle.sv_log.proofs.segment.Segment.append.Goals as goal

pub returns-in_err-ready-clause-any_moment : goal.returns-in_err-ready-clause-any_moment
returns-in_err-ready-clause-any_moment g c = λ h.
    ready_only g.F.Folder.disk c.args.self.now c.ready.new.self c.ready.new.self c.args.lines.now c.ready.ensures.name (c.ready.ensures.any_moment h)

pub returns-clause-any_moment : goal.returns-clause-any_moment
returns-clause-any_moment g c = λ h.
    let m = c.write.ensures.honest h in
    append_only g.F.Folder.disk c.args.self.now c.ready.new.self c.write.new.self c.args.lines.now c.ready.ensures.name
    (c.in_ok-ready.ensures.text m) (c.in_ok-ready.ensures.synced m) (c.in_ok-ready.ensures.others m) (c.ready.ensures.any_moment m) (c.write.ensures.any_moment h)

pub returns-clause-text : goal.returns-clause-text
returns-clause-text g c = λ h.
    let m = c.write.ensures.honest h in
    on_ok_weaker c.write.result
    (append_text g.F.Folder.disk c.args.self.now c.ready.new.self c.write.new.self c.args.lines.now c.ready.ensures.name
    (c.in_ok-ready.ensures.text m) (c.in_ok-ready.ensures.synced m) (c.in_ok-ready.ensures.others m)) (c.write.ensures.text h)

pub returns-clause-synced : goal.returns-clause-synced
returns-clause-synced g c = λ h.
    let m = c.write.ensures.honest h in
    on_ok_weaker c.write.result
    (append_synced g.F.Folder.disk c.args.self.now c.ready.new.self c.write.new.self c.args.lines.now c.ready.ensures.name
    (c.in_ok-ready.ensures.text m) (c.in_ok-ready.ensures.synced m) (c.in_ok-ready.ensures.others m)) (c.write.ensures.synced h)

pub returns-clause-others : goal.returns-clause-others
returns-clause-others g c = λ h.
    let m = c.write.ensures.honest h in
    on_ok_weaker c.write.result
    (append_others g.F.Folder.disk c.args.self.now c.ready.new.self c.write.new.self c.args.lines.now c.ready.ensures.name
    (c.in_ok-ready.ensures.text m) (c.in_ok-ready.ensures.synced m) (c.in_ok-ready.ensures.others m)) (c.write.ensures.others h)

pub returns-clause-cause : goal.returns-clause-cause
returns-clause-cause g c =
    subst (λ (n : ℕ). ReadAllCause n (g.F.Folder.faults c.write.new.self.folder) c.write.result) c.in_ok-ready.ensures.cause c.write.ensures.cause
