-- It polled, and reported what it was sent.
use Rattle.std.proofs.Common.{inl, ◌∙◌}
use Rattle.std.specs.Prelude.{Some}
use Rattle.sv_office.proofs.Getting.{alone_as, got_same, lacks_asked, limits_grown, reported_serially}
use Rattle.sv_office.proofs.Stewarding.{poll_entered, poll_on}
use Rattle.sv_office.proofs.Stewarding2.{polled_and_reported, reported_idle, reported_ok}
use Rattle.sv_office.proofs.steward.Steward.report.Goals as goal

pub returns-in-Some-2-clause-reported : goal.returns-in-Some-2-clause-reported
returns-in-Some-2-clause-reported g c =
    reported_ok c.note.result c.args.self.now.session c.in-Some.session c.args.keeper.now.world c.enter.new.keeper.world c.note.new.keeper.world
    c.in_ok-request.request c.in-Some-2.done c.in_ok-reply.reply c.in_ok-done.field-0 c.in-Some.is c.in_ok-request.ensures.poll c.in_ok-reply.ensures.ok c.in-Some-2.is
    c.in_ok-done.ensures.done c.in_ok-done.ensures.taken c.note.ensures.reported

pub returns-in-Some-2-clause-added : goal.returns-in-Some-2-clause-added
returns-in-Some-2-clause-added g c =
    polled_and_reported c.args.keeper.now.world c.enter.new.keeper.world c.note.new.keeper.world c.args.self.now.session c.in-Some.session c.in_ok-request.request
    c.in-Some-2.done c.in_ok-reply.reply c.in_ok-done.field-0 c.in-Some.is c.in_ok-request.ensures.poll c.in-Some-2.is c.in_ok-done.ensures.done (poll_on _ _ _ _ c.in_ok-request.ensures.poll c.enter.ensures.added (λ nothing. c.enter.ensures.serial (λ sound authority is joined. nothing))) c.note.ensures.added

pub returns-clause-reported : goal.returns-clause-reported
returns-clause-reported g c =
    reported_idle c.args.self.now.session c.in-Some.session c.args.keeper.now.world c.enter.new.keeper.world c.in_ok-request.request c.in_ok-reply.reply
    c.in_ok-done.field-0 c.in-Some.is c.in_ok-request.ensures.poll c.in_ok-reply.ensures.ok c.in-None.is c.in_ok-done.ensures.none c.in_ok-done.ensures.taken

pub returns-clause-added : goal.returns-clause-added
returns-clause-added g c = poll_entered _ _ _ _ c.in_ok-request.request c.in-Some.is c.in_ok-request.ensures.poll (poll_on _ _ _ _ c.in_ok-request.ensures.poll c.enter.ensures.added (λ nothing. c.enter.ensures.serial (λ sound authority is joined. nothing)))

pub returns-in_err-reply-clause-added : goal.returns-in_err-reply-clause-added
returns-in_err-reply-clause-added g c = poll_entered _ _ _ _ c.in_ok-request.request c.in-Some.is c.in_ok-request.ensures.poll (poll_on _ _ _ _ c.in_ok-request.ensures.poll c.enter.ensures.added (λ nothing. c.enter.ensures.serial (λ sound authority is joined. nothing)))

pub returns-in_err-done-clause-added : goal.returns-in_err-done-clause-added
returns-in_err-done-clause-added g c = poll_entered _ _ _ _ c.in_ok-request.request c.in-Some.is c.in_ok-request.ensures.poll (poll_on _ _ _ _ c.in_ok-request.ensures.poll c.enter.ensures.added (λ nothing. c.enter.ensures.serial (λ sound authority is joined. nothing)))

pub note-requires-clause-limits : goal.note-requires-clause-limits
note-requires-clause-limits g c = limits_grown c.enter.ensures.added c.requires.limits

pub note-requires-clause-told : goal.note-requires-clause-told
note-requires-clause-told g c =
    c.in_ok-done.ensures.told c.enter.new.keeper.world
    (lacks_asked c.sessions_are_told_their_replies.ensures.taken c.args.keeper.now.world c.enter.new.keeper.world c.poll.new.self.session c.in-Some.session
    c.in_ok-request.request c.in_ok-reply.reply c.poll.new.self.client.value.events (c.in_ok-request.ensures.session ∙ c.in-Some.is) c.in_ok-reply.ensures.ok
    (got_same c.args.keeper.now.world.history c.args.self.now.session c.poll.new.self.session c.args.self.now.client.value.events
    c.poll.new.self.client.value.events c.in_ok-request.ensures.session c.in_ok-request.ensures.got (c.requires.told c.if-self.false)))

pub note-requires-clause-serial : goal.note-requires-clause-serial
note-requires-clause-serial g c = λ serial.
    reported_serially c.enter.new.keeper.world c.take.new.self c.in_ok-done.field-0 c.in-Some-2.done c.in-Some-2.is c.in_ok-done.ensures.serial
    (limits_grown c.enter.ensures.added c.requires.limits) c.is_lawful.ensures.legal serial
    (c.in_ok-done.ensures.told c.enter.new.keeper.world
    (lacks_asked c.sessions_are_told_their_replies.ensures.taken c.args.keeper.now.world c.enter.new.keeper.world c.poll.new.self.session c.in-Some.session
    c.in_ok-request.request c.in_ok-reply.reply c.poll.new.self.client.value.events (c.in_ok-request.ensures.session ∙ c.in-Some.is) c.in_ok-reply.ensures.ok
    (got_same c.args.keeper.now.world.history c.args.self.now.session c.poll.new.self.session c.args.self.now.client.value.events
    c.poll.new.self.client.value.events c.in_ok-request.ensures.session c.in_ok-request.ensures.got (c.requires.told c.if-self.false))))

pub returns-clause-told : goal.returns-clause-told
returns-clause-told g c = λ behind.
    c.in_ok-done.ensures.told c.enter.new.keeper.world
    (lacks_asked c.sessions_are_told_their_replies.ensures.taken c.args.keeper.now.world c.enter.new.keeper.world c.poll.new.self.session c.in-Some.session
    c.in_ok-request.request c.in_ok-reply.reply c.poll.new.self.client.value.events (c.in_ok-request.ensures.session ∙ c.in-Some.is) c.in_ok-reply.ensures.ok
    (got_same c.args.keeper.now.world.history c.args.self.now.session c.poll.new.self.session c.args.self.now.client.value.events
    c.poll.new.self.client.value.events c.in_ok-request.ensures.session c.in_ok-request.ensures.got (c.requires.told c.if-self.false)))

pub returns-in_err-reply-clause-alone : goal.returns-in_err-reply-clause-alone
returns-in_err-reply-clause-alone g c = λ alone.
    alone_as c.enter.new.keeper c.args.self.now.session c.poll.new.self.session c.in_ok-request.ensures.session (c.in_err-reply.ensures.kept c.args.self.now.session alone)

pub returns-in_err-done-clause-alone : goal.returns-in_err-done-clause-alone
returns-in_err-done-clause-alone g c = λ alone.
    alone_as c.enter.new.keeper (Some c.in-Some.session) c.take.new.self.session (c.take.ensures.session ∙ c.in_ok-request.ensures.session ∙ c.in-Some.is)
    (c.in_ok-reply.ensures.own c.args.self.now.session (inl c.in-Some.is) alone)

pub returns-clause-alone : goal.returns-clause-alone
returns-clause-alone g c = λ alone.
    alone_as c.enter.new.keeper (Some c.in-Some.session) c.take.new.self.session (c.take.ensures.session ∙ c.in_ok-request.ensures.session ∙ c.in-Some.is)
    (c.in_ok-reply.ensures.own c.args.self.now.session (inl c.in-Some.is) alone)

pub returns-in-Some-2-clause-alone : goal.returns-in-Some-2-clause-alone
returns-in-Some-2-clause-alone g c = λ alone.
    c.note.ensures.alone
    (alone_as c.enter.new.keeper (Some c.in-Some.session) c.take.new.self.session (c.take.ensures.session ∙ c.in_ok-request.ensures.session ∙ c.in-Some.is)
    (c.in_ok-reply.ensures.own c.args.self.now.session (inl c.in-Some.is) alone))
