-- A request is stepped, once, and its reply is owed.
use Rattle.std.proofs.Common.{Some, refl, ap, arith, rules}
use Rattle.std.proofs.lemmas.Grind.{common_steps}
use Rattle.sv_office.specs.Offices.{session_of}
use Rattle.sv_office.specs.declared.guest.Guest.{Guest}
use Rattle.sv_office.proofs.Adding.{goes_by}
use Rattle.sv_office.proofs.Answering.{asking_kept_or, entered_came, followed_came}
use Rattle.sv_office.proofs.Entered.{sound_stays}
use Rattle.sv_office.proofs.Followed.{answered_ended}
use Rattle.sv_office.proofs.Knowing.{others_report_nothing, trusted_asked}
use Rattle.sv_office.proofs.Served.{message_entered, owed_entered}
use Rattle.sv_office.proofs.Stepping1.{apart_asking, end_shut, entered_ended_came, gone_shut, ok_any, stays_as, stepped_ok, yet_asked, yet_shut}
use Rattle.sv_office.proofs.Turning.{one_entered, one_entered_ended, one_followed}
use Rattle.sv_office.proofs.office.Office.step.Goals as goal

pub invariant_of-self : goal.invariant_of-self
invariant_of-self g c = record {
  sound = sound_stays c.enter.ensures.added refl c.args.self.now.sound;
  trusted =
      trusted_asked _ _ _ _ _ c.enter.ensures.added (c.enter.ensures.others c.requires.another)
      (apart_asking c.args.self.now.keeper.world _ _ _ c.args.self.now.sound.begun c.requires.apart c.asking_session-session.ensures) c.args.self.now.trusted;
}

pub take_reply-requires-clause-message : goal.take_reply-requires-clause-message
take_reply-requires-clause-message g c = message_entered _ _ _ _ _ (c.answers_are_messages.ensures.stepped _ _) c.in-Ok.ensures.ok

pub take_reply-requires-clause-owed : goal.take_reply-requires-clause-owed
take_reply-requires-clause-owed g c =
    owed_entered _ _ c.args.guest.now _ _ _ _ c.answers_are_messages.ensures.order c.requires.open c.requires.served c.asking_session-session.ensures c.requires.asks c.in-Ok.ensures.ok refl refl

pub take_reply-requires-clause-apart : goal.take_reply-requires-clause-apart
take_reply-requires-clause-apart g c = apart_asking c.args.self.now.keeper.world _ _ _ c.args.self.now.sound.begun c.requires.apart c.asking_session-session.ensures

pub returns-in-Ok-clause-answered : goal.returns-in-Ok-clause-answered
returns-in-Ok-clause-answered g c =
    stepped_ok c.take_reply.result (session_of c.args.self.now.steward) (Some c.asking_session-session.result) c.args.guest.now.session c.take_reply.new.guest.session
    c.args.self.now.policy.authority c.standing_of-before.result.last c.args.self.now.keeper.world c.enter.new.keeper.world c.take_reply.new.self.keeper.world
    c.asking_session-session.result c.args.request.now c.in-Ok.ensures.ok.world c.standing_of-before.ensures refl
    c.asking_session-session.ensures c.take_reply.ensures.followed

pub returns-in-Ok-clause-added : goal.returns-in-Ok-clause-added
returns-in-Ok-clause-added g c = followed_came _ _ _ _ _ c.asking_session-session.ensures refl (goes_by c.enter.ensures.added (c.enter.ensures.serial (λ sound.
    others_report_nothing _ c.args.guest.now _ _ _ (c.args.self.now.trusted.alone sound) c.requires.served
    c.asking_session-session.ensures (apart_asking c.args.self.now.keeper.world _ _ _ c.args.self.now.sound.begun c.requires.apart c.asking_session-session.ensures)))) c.take_reply.ensures.added

pub returns-in-Ok-clause-session : goal.returns-in-Ok-clause-session
returns-in-Ok-clause-session g c = asking_kept_or _ _ c.asking_session-session.ensures refl c.take_reply.ensures.session

pub returns-in-Ok-clause-guest : goal.returns-in-Ok-clause-guest
returns-in-Ok-clause-guest g c = stays_as refl refl refl refl c.take_reply.ensures.guest

pub invariant_of-self-in-Err-Broken : goal.invariant_of-self-in-Err-Broken
invariant_of-self-in-Err-Broken g c = record {
  sound = sound_stays c.enter.ensures.added refl c.args.self.now.sound;
  trusted =
      trusted_asked _ _ _ _ _ c.enter.ensures.added (c.enter.ensures.others c.requires.another)
      (apart_asking c.args.self.now.keeper.world _ _ _ c.args.self.now.sound.begun c.requires.apart c.asking_session-session.ensures) c.args.self.now.trusted;
}

pub invariant_of-self-in-Err-NoRoom : goal.invariant_of-self-in-Err-NoRoom
invariant_of-self-in-Err-NoRoom g c = record {
  sound = sound_stays c.enter.ensures.added refl c.args.self.now.sound;
  trusted =
      trusted_asked _ _ _ _ _ c.enter.ensures.added (c.enter.ensures.others c.requires.another)
      (apart_asking c.args.self.now.keeper.world _ _ _ c.args.self.now.sound.begun c.requires.apart c.asking_session-session.ensures) c.args.self.now.trusted;
}

pub invariant_of-self-in-Err : goal.invariant_of-self-in-Err
invariant_of-self-in-Err g c = record {
  sound = sound_stays c.enter.ensures.added refl c.args.self.now.sound;
  trusted =
      trusted_asked _ _ _ _ _ c.enter.ensures.added (c.enter.ensures.others c.requires.another)
      (apart_asking c.args.self.now.keeper.world _ _ _ c.args.self.now.sound.begun c.requires.apart c.asking_session-session.ensures) c.args.self.now.trusted;
}

pub returns-in-Err-Broken-clause-added : goal.returns-in-Err-Broken-clause-added
returns-in-Err-Broken-clause-added g c = entered_came _ _ _ _ c.asking_session-session.ensures (goes_by c.enter.ensures.added (c.enter.ensures.serial (λ sound.
    others_report_nothing _ c.args.guest.now _ _ _ (c.args.self.now.trusted.alone sound) c.requires.served
    c.asking_session-session.ensures (apart_asking c.args.self.now.keeper.world _ _ _ c.args.self.now.sound.begun c.requires.apart c.asking_session-session.ensures))))

pub returns-in-Err-NoRoom-clause-added : goal.returns-in-Err-NoRoom-clause-added
returns-in-Err-NoRoom-clause-added g c = entered_came _ _ _ _ c.asking_session-session.ensures (goes_by c.enter.ensures.added (c.enter.ensures.serial (λ sound.
    others_report_nothing _ c.args.guest.now _ _ _ (c.args.self.now.trusted.alone sound) c.requires.served
    c.asking_session-session.ensures (apart_asking c.args.self.now.keeper.world _ _ _ c.args.self.now.sound.begun c.requires.apart c.asking_session-session.ensures))))

pub returns-in-Err-clause-added : goal.returns-in-Err-clause-added
returns-in-Err-clause-added g c =
    entered_ended_came _ _ _ _ c.asking_session-session.ensures (goes_by c.enter.ensures.added (c.enter.ensures.serial (λ sound.
    others_report_nothing _ c.args.guest.now _ _ _ (c.args.self.now.trusted.alone sound) c.requires.served
    c.asking_session-session.ensures (apart_asking c.args.self.now.keeper.world _ _ _ c.args.self.now.sound.begun c.requires.apart c.asking_session-session.ensures)))) (ap (λ (x : Guest). x.session) c.leave-in-Err.ensures) c.end.ensures.added

pub returns-in-Ok-clause-asked : goal.returns-in-Ok-clause-asked
returns-in-Ok-clause-asked g c =
    one_followed c.asking_session-session.result _ c.asking_session-session.ensures c.enter.ensures.added.added c.take_reply.ensures.added.added c.take_reply.ensures.session

pub returns-in-Ok-clause-idle : goal.returns-in-Ok-clause-idle
returns-in-Ok-clause-idle g c = ok_any c.take_reply.result (yet_asked c.take_reply.ensures.still)

pub returns-in-Err-Broken-clause-asked : goal.returns-in-Err-Broken-clause-asked
returns-in-Err-Broken-clause-asked g c = one_entered c.asking_session-session.result _ c.asking_session-session.ensures c.enter.ensures.added.added refl

pub returns-in-Err-NoRoom-clause-asked : goal.returns-in-Err-NoRoom-clause-asked
returns-in-Err-NoRoom-clause-asked g c =
    one_entered c.asking_session-session.result _ c.asking_session-session.ensures c.enter.ensures.added.added (ap (λ (x : Guest). x.session) c.leave.ensures)

pub returns-in-Err-NoRoom-clause-idle : goal.returns-in-Err-NoRoom-clause-idle
returns-in-Err-NoRoom-clause-idle g c = yet_shut (gone_shut (ap (λ (x : Guest). x.standing) c.leave.ensures))

pub returns-in-Err-clause-asked : goal.returns-in-Err-clause-asked
returns-in-Err-clause-asked g c =
    one_entered_ended c.asking_session-session.result _ c.asking_session-session.ensures c.enter.ensures.added.added (ap (λ (x : Guest). x.session) c.leave-in-Err.ensures)
    c.end.ensures.added.added c.end.ensures.session

pub returns-in-Err-clause-idle : goal.returns-in-Err-clause-idle
returns-in-Err-clause-idle g c =
    ok_any c.end.result (yet_shut (end_shut (gone_shut (ap (λ (x : Guest). x.standing) c.leave-in-Err.ensures)) c.end.ensures.open))

pub returns-in-Err-clause-answered : goal.returns-in-Err-clause-answered
returns-in-Err-clause-answered g c =
    answered_ended c.end.result (session_of c.args.self.now.steward) c.args.self.now.policy.authority c.args.guest.now.session c.leave-in-Err.new.self.session
    c.end.new.guest.session c.args.self.now.keeper.world c.enter.new.keeper.world c.end.new.self.keeper.world c.args.request.now
    (ap (λ (x : Guest). x.session) c.leave-in-Err.ensures) (first_of (grind (arith, common_steps), search rules)) c.end.ensures.ended
