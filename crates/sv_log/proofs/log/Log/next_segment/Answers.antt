-- What is proved by hand of `next_segment`.
use Rattle.std.proofs.Common.{◌∙◌}
use Rattle.sv_log.proofs.GoingOn.{none_appended, then_goes}
use Rattle.sv_log.proofs.log.Log.next_segment.Goals as goal

pub returns-then-self-eq0-clause-empty : goal.returns-then-self-eq0-clause-empty
returns-then-self-eq0-clause-empty g c = λ h. none_appended g.F.Folder.disk c.sync.new.self (c.in_ok-sync.ensures.open h).segment c.if-self-eq0.true

pub returns-in_err-close_segment-clause-any_moment : goal.returns-in_err-close_segment-clause-any_moment
returns-in_err-close_segment-clause-any_moment g c = λ h world own.
    let m = c.close_segment.ensures.honest h in
    then_goes g.F.Folder.disk c.args.self.now c.sync.new.self (c.in_ok-sync.ensures.text m) (c.in_ok-sync.ensures.newest m) world (g.F.Folder.disk c.close_segment.new.self.segment.folder)
    (c.sync.ensures.any_moment m world own) (c.close_segment.ensures.any_moment h world (c.in_ok-sync.ensures.world m ∙ own))

pub returns-clause-any_moment : goal.returns-clause-any_moment
returns-clause-any_moment g c = λ h world own.
    let m = c.close_segment.ensures.honest h in
    then_goes g.F.Folder.disk c.args.self.now c.sync.new.self (c.in_ok-sync.ensures.text m) (c.in_ok-sync.ensures.newest m) world (g.F.Folder.disk c.close_segment.new.self.segment.folder)
    (c.sync.ensures.any_moment m world own) (c.close_segment.ensures.any_moment h world (c.in_ok-sync.ensures.world m ∙ own))

pub returns-clause-text : goal.returns-clause-text
returns-clause-text g c = λ h. c.in_ok-close_segment.ensures.text h ∙ c.in_ok-sync.ensures.text (c.close_segment.ensures.honest h)

pub returns-clause-newest : goal.returns-clause-newest
returns-clause-newest g c = λ h. c.in_ok-close_segment.ensures.newest h ∙ c.in_ok-sync.ensures.newest (c.close_segment.ensures.honest h)

pub returns-clause-world : goal.returns-clause-world
returns-clause-world g c = λ h. c.in_ok-close_segment.ensures.world h ∙ c.in_ok-sync.ensures.world (c.close_segment.ensures.honest h)
