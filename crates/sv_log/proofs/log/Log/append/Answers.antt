-- What is proved by hand of `append`.
use Rattle.std.proofs.Common.{◌≡◌, ◌∙◌, ◌+◌, ℕ, ap, arith}
use Rattle.sv_log.specs.Logs.{appended}
use Rattle.sv_log.specs.Chains.{lines}
use Rattle.sv_log.proofs.Chained.{lines-append}
use Rattle.sv_log.proofs.Logged.{log_calm, log_only_more, later_open, later_text, later_synced, later_newest, later_world}
use Rattle.sv_log.proofs.log.Log.append.Goals as goal

pub returns-in_default-clause-any_moment : goal.returns-in_default-clause-any_moment
returns-in_default-clause-any_moment g c = λ h world is. log_calm g.F.Folder.disk c.args.self.now (c.requires.open h) c.args.text.now world is

pub returns-in_err-append-clause-any_moment : goal.returns-in_err-append-clause-any_moment
returns-in_err-append-clause-any_moment g c = λ h world is.
    log_only_more g.F.Folder.disk c.args.self.now (c.requires.open (c.append.ensures.honest h)) (g.F.Folder.disk c.append.new.self.folder) c.args.text.now world is (c.append.ensures.any_moment h)

pub returns-clause-any_moment : goal.returns-clause-any_moment
returns-clause-any_moment g c = λ h world is.
    log_only_more g.F.Folder.disk c.args.self.now (c.requires.open (c.append.ensures.honest h)) (g.F.Folder.disk c.append.new.self.folder) c.args.text.now world is (c.append.ensures.any_moment h)

pub returns-clause-open : goal.returns-clause-open
returns-clause-open g c = λ h.
    let disk = g.F.Folder.disk in
    let old = c.args.self.now in
    let is_open = c.requires.open (c.append.ensures.honest h) in
    let all : lines (appended disk c.append.new.self) ≡ lines (appended disk old.segment) + lines c.args.text.now =
    ap lines (c.in_ok-append.ensures.text h) ∙ lines-append (appended disk old.segment) c.args.text.now in
    later_open disk old is_open c.append.new.self c.in-Some.next c.append.ensures.name (c.in_ok-append.ensures.others h) (c.in_ok-append.ensures.open h)
    (omega (arith, c.in-Some.ensures, c.line_count.ensures, is_open.next, all))

pub returns-clause-text : goal.returns-clause-text
returns-clause-text g c = λ h.
    later_text g.F.Folder.disk c.args.self.now (c.requires.open (c.append.ensures.honest h)) c.append.new.self c.in-Some.next c.append.ensures.name (c.in_ok-append.ensures.others h)
    c.args.text.now (c.in_ok-append.ensures.text h)

pub returns-clause-synced : goal.returns-clause-synced
returns-clause-synced g c = λ h.
    later_synced g.F.Folder.disk c.args.self.now (c.requires.open (c.append.ensures.honest h)) c.append.new.self c.in-Some.next c.append.ensures.name (c.in_ok-append.ensures.others h)
    (c.in_ok-append.ensures.synced h)

pub returns-clause-newest : goal.returns-clause-newest
returns-clause-newest g c = λ h.
    later_newest g.F.Folder.disk c.args.self.now (c.requires.open (c.append.ensures.honest h)) c.append.new.self c.in-Some.next c.append.ensures.name (c.in_ok-append.ensures.others h)

pub returns-clause-world : goal.returns-clause-world
returns-clause-world g c = λ h.
    later_world g.F.Folder.disk c.args.self.now (c.requires.open (c.append.ensures.honest h)) c.append.new.self c.in-Some.next c.append.ensures.name (c.in_ok-append.ensures.others h)
