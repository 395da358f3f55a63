-- What is proved by hand of `Web::step`.
use Rattle.sv_peer.proofs.Desks.{calls_keep}
use Rattle.sv_peer.proofs.web.Web.step.Goals as goal

pub returns-in_err-count-clause-desk : goal.returns-in_err-count-clause-desk
returns-in_err-count-clause-desk g c =
    let laws = g.met.D.WebDesk in calls_keep g.D.Service.answers g.D.WebDesk.keeps laws.keeps_itself laws.keeps_on laws.answers_keep _ _ _ _ c.advance.ensures.calls

pub returns-then-count-gt0-clause-desk : goal.returns-then-count-gt0-clause-desk
returns-then-count-gt0-clause-desk g c =
    let laws = g.met.D.WebDesk in calls_keep g.D.Service.answers g.D.WebDesk.keeps laws.keeps_itself laws.keeps_on laws.answers_keep _ _ _ _ c.advance.ensures.calls

pub returns-else-count-gt0-clause-desk : goal.returns-else-count-gt0-clause-desk
returns-else-count-gt0-clause-desk g c =
    let laws = g.met.D.WebDesk in calls_keep g.D.Service.answers g.D.WebDesk.keeps laws.keeps_itself laws.keeps_on laws.answers_keep _ _ _ _ c.advance.ensures.calls

pub returns-else-not-is_done-clause-desk : goal.returns-else-not-is_done-clause-desk
returns-else-not-is_done-clause-desk g c =
    let laws = g.met.D.WebDesk in calls_keep g.D.Service.answers g.D.WebDesk.keeps laws.keeps_itself laws.keeps_on laws.answers_keep _ _ _ _ c.advance.ensures.calls
