-- The reply is told, the steward may report, and the session may end.
use Rattle.std.proofs.Common.{inl, refl, sym, ◌∙◌}
use Rattle.sv_office.specs.Offices.{session_of}
use Rattle.sv_office.proofs.Served.{served_closed}
use Rattle.sv_office.proofs.Stepping1.{followed_end, followed_end_ok, follows_ended, follows_reported, served_reported}
use Rattle.sv_office.proofs.office.Office.take_reply.Goals as goal

pub end-requires : goal.end-requires
end-requires g c = record {
  served =
      served_closed _ _ _ c.close.ensures
      (served_reported _ _ c.args.guest.now _ _ c.is_lawful.ensures.order c.in_ok-report_at_once.ensures.added c.requires.apart c.tell.ensures.session
      (c.tell.ensures.served _ c.requires.owed));
}

pub returns-in_err-report_at_once-clause-added : goal.returns-in_err-report_at_once-clause-added
returns-in_err-report_at_once-clause-added g c = follows_reported _ _ c.in_err-report_at_once.ensures.added

pub returns-clause-served : goal.returns-clause-served
returns-clause-served g c =
    served_reported _ _ c.args.guest.now _ _ c.is_lawful.ensures.order c.in_ok-report_at_once.ensures.added c.requires.apart c.tell.ensures.session
    (c.tell.ensures.served _ c.requires.owed)

pub returns-clause-followed : goal.returns-clause-followed
returns-clause-followed g c = followed_end c.in_ok-report_at_once.ensures.followed (inl (c.tell.ensures.session, refl))

pub returns-clause-added : goal.returns-clause-added
returns-clause-added g c = follows_reported _ _ c.in_ok-report_at_once.ensures.added

pub returns-then-is_stopping-clause-added : goal.returns-then-is_stopping-clause-added
returns-then-is_stopping-clause-added g c =
    follows_ended _ _ (c.close.ensures.session ∙ c.tell.ensures.session) c.in_ok-report_at_once.ensures.added c.end.ensures.added

pub returns-then-is_stopping-clause-followed : goal.returns-then-is_stopping-clause-followed
returns-then-is_stopping-clause-followed g c =
    followed_end_ok c.end.result (session_of c.args.self.now.steward) c.args.guest.now.session c.close.new.self.session c.end.new.guest.session
    c.args.self.now.policy.authority c.args.before.last c.args.self.now.keeper.world.history c.report_at_once.new.self.keeper.world.history
    c.end.new.self.keeper.world.history (c.close.ensures.session ∙ c.tell.ensures.session) c.in_ok-report_at_once.ensures.followed c.end.ensures.ended

pub returns-then-is_stopping-clause-still : goal.returns-then-is_stopping-clause-still
returns-then-is_stopping-clause-still g c = λ lives.
    c.end.ensures.session ∙ sym (c.end.ensures.open lives).1 ∙ c.close.ensures.session ∙ c.tell.ensures.session
