-- What is proved by hand of `sync`.
use Rattle.std.proofs.Common.{◌∙◌, ◌+◌, ℕ, List, ap, sym}
use Rattle.sv_log.specs.Chains.{lines}
use Rattle.sv_log.proofs.Logged.{log_only, later_open, later_same, later_all_synced, later_newest, later_world}
use Rattle.sv_log.specs.Logs.{appended, synced}
use Rattle.sv_log.proofs.log.Log.sync.Goals as goal

pub returns-in_err-sync-clause-any_moment : goal.returns-in_err-sync-clause-any_moment
returns-in_err-sync-clause-any_moment g c = λ h world is.
    log_only g.F.Folder.disk c.args.self.now (c.requires.open (c.sync.ensures.honest h)) (g.F.Folder.disk c.sync.new.self.folder)
    (synced g.F.Folder.disk c.args.self.now.segment) (appended g.F.Folder.disk c.args.self.now.segment) world is (c.sync.ensures.any_moment h)

pub returns-clause-any_moment : goal.returns-clause-any_moment
returns-clause-any_moment g c = λ h world is.
    log_only g.F.Folder.disk c.args.self.now (c.requires.open (c.sync.ensures.honest h)) (g.F.Folder.disk c.sync.new.self.folder)
    (synced g.F.Folder.disk c.args.self.now.segment) (appended g.F.Folder.disk c.args.self.now.segment) world is (c.sync.ensures.any_moment h)

pub returns-clause-open : goal.returns-clause-open
returns-clause-open g c = λ h.
    let is_open = c.requires.open (c.sync.ensures.honest h) in
    later_open g.F.Folder.disk c.args.self.now is_open c.sync.new.self c.args.self.now.next c.sync.ensures.name (c.in_ok-sync.ensures.others h) (c.in_ok-sync.ensures.open h)
    (is_open.next ∙ ap (λ (t : List ℕ). c.args.self.now.first + lines t) (sym (c.in_ok-sync.ensures.text h)))

pub returns-clause-text : goal.returns-clause-text
returns-clause-text g c = λ h.
    later_same g.F.Folder.disk c.args.self.now (c.requires.open (c.sync.ensures.honest h)) c.sync.new.self c.args.self.now.next c.sync.ensures.name (c.in_ok-sync.ensures.others h)
    (c.in_ok-sync.ensures.text h)

pub returns-clause-synced : goal.returns-clause-synced
returns-clause-synced g c = λ h.
    later_all_synced g.F.Folder.disk c.args.self.now (c.requires.open (c.sync.ensures.honest h)) c.sync.new.self c.args.self.now.next c.sync.ensures.name (c.in_ok-sync.ensures.others h)
    (c.in_ok-sync.ensures.synced h)

pub returns-clause-newest : goal.returns-clause-newest
returns-clause-newest g c = λ h.
    later_newest g.F.Folder.disk c.args.self.now (c.requires.open (c.sync.ensures.honest h)) c.sync.new.self c.args.self.now.next c.sync.ensures.name (c.in_ok-sync.ensures.others h)

pub returns-clause-world : goal.returns-clause-world
returns-clause-world g c = λ h.
    later_world g.F.Folder.disk c.args.self.now (c.requires.open (c.sync.ensures.honest h)) c.sync.new.self c.args.self.now.next c.sync.ensures.name (c.in_ok-sync.ensures.others h)
