-- What is proved by hand of `sync`.
use Rattle.sv_log.proofs.Runs.{sync_only, sync_stands, sync_rest, sync_others, all_open, all_text, all_synced, within_room}
use Rattle.sv_log.proofs.segment.Segment.sync.Goals as goal

pub returns-in_err-sync-clause-any_moment : goal.returns-in_err-sync-clause-any_moment
returns-in_err-sync-clause-any_moment g c = λ h. sync_only g.F.Folder.disk c.args.self.now (c.requires.open (c.sync.ensures.honest h)) c.as_str.result.now c.as_str.ensures.value _ c.sync.result (c.sync.ensures.made h)

pub returns-clause-any_moment : goal.returns-clause-any_moment
returns-clause-any_moment g c = λ h. sync_only g.F.Folder.disk c.args.self.now (c.requires.open (c.sync.ensures.honest h)) c.as_str.result.now c.as_str.ensures.value _ c.sync.result (c.sync.ensures.made h)

pub returns-clause-open : goal.returns-clause-open
returns-clause-open g c = λ h. all_open g.F.Folder.disk c.args.self.now (c.requires.open (c.sync.ensures.honest h)) c.sync.new.self c.args.self.now.size _
    (sync_stands g.F.Folder.disk c.args.self.now (c.requires.open (c.sync.ensures.honest h)) c.sync.new.self c.as_str.result.now c.as_str.ensures.value (c.in_ok-sync.ensures.made h)) (within_room g.F.Folder.disk c.args.self.now (c.requires.open (c.sync.ensures.honest h)))

pub returns-clause-text : goal.returns-clause-text
returns-clause-text g c = λ h. all_text g.F.Folder.disk c.args.self.now (c.requires.open (c.sync.ensures.honest h)) c.sync.new.self c.args.self.now.size _
    (sync_stands g.F.Folder.disk c.args.self.now (c.requires.open (c.sync.ensures.honest h)) c.sync.new.self c.as_str.result.now c.as_str.ensures.value (c.in_ok-sync.ensures.made h)) (within_room g.F.Folder.disk c.args.self.now (c.requires.open (c.sync.ensures.honest h)))

pub returns-clause-synced : goal.returns-clause-synced
returns-clause-synced g c = λ h. all_synced g.F.Folder.disk c.args.self.now (c.requires.open (c.sync.ensures.honest h)) c.sync.new.self c.args.self.now.size _
    (sync_stands g.F.Folder.disk c.args.self.now (c.requires.open (c.sync.ensures.honest h)) c.sync.new.self c.as_str.result.now c.as_str.ensures.value (c.in_ok-sync.ensures.made h)) (within_room g.F.Folder.disk c.args.self.now (c.requires.open (c.sync.ensures.honest h)))

pub returns-clause-others : goal.returns-clause-others
returns-clause-others g c = λ h. sync_others g.F.Folder.disk c.args.self.now (c.requires.open (c.sync.ensures.honest h)) c.sync.new.self c.as_str.result.now c.as_str.ensures.value (c.in_ok-sync.ensures.made h)

pub returns-clause-rest : goal.returns-clause-rest
returns-clause-rest g c = λ h. sync_rest g.F.Folder.disk c.args.self.now (c.requires.open (c.sync.ensures.honest h)) c.sync.new.self c.as_str.result.now c.as_str.ensures.value (c.in_ok-sync.ensures.made h)
