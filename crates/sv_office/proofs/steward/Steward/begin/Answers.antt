-- What is entered is a Join of its own.
use Rattle.std.proofs.Common.{List, refl, ap, sym, ◌∙◌, slice_get, option_copied}
use Rattle.sv_wire.specs.declared.message.Request.{Request}
use Rattle.sv_client.specs.Seen.{ClientView}
use Rattle.law_system.specs.Told.{all_got}
use Rattle.sv_office.proofs.Getting.{got_same}
use Rattle.sv_office.proofs.Knowing.{got_asking, lacks_entered}
use Rattle.sv_office.proofs.Stewarding.{stewards_entered, still_asking}
use Rattle.sv_office.proofs.Stewarding2.{joins_itself}
use Rattle.sv_office.proofs.steward.Steward.begin.Goals as goal

pub returns-in_err-reply-clause-added : goal.returns-in_err-reply-clause-added
returns-in_err-reply-clause-added g c =
    stewards_entered _ _ c.args.self.now.session c.asking_session-session.result _
    (joins_itself c.deref_mut.result.now.who c.deref_mut.result.now.events c.in_ok-requests.requests.items _
    (ap (λ (v : ClientView). v.who.client.0) c.deref_mut.ensures.value ∙ c.args.self.now.number) c.in_ok-requests.ensures.requests
    (ap (λ (xs : List Request). slice_get xs 0) (sym c.deref-2.ensures.value) ∙ sym c.first.ensures.value ∙ ap option_copied c.in-Some.is))
    c.asking_session-session.ensures c.enter.ensures.added (λ nothing. c.enter.ensures.serial (λ sound authority is joined. nothing))

pub returns-clause-added : goal.returns-clause-added
returns-clause-added g c =
    stewards_entered _ _ c.args.self.now.session c.asking_session-session.result _
    (joins_itself c.deref_mut.result.now.who c.deref_mut.result.now.events c.in_ok-requests.requests.items _
    (ap (λ (v : ClientView). v.who.client.0) c.deref_mut.ensures.value ∙ c.args.self.now.number) c.in_ok-requests.ensures.requests
    (ap (λ (xs : List Request). slice_get xs 0) (sym c.deref-2.ensures.value) ∙ sym c.first.ensures.value ∙ ap option_copied c.in-Some.is))
    c.asking_session-session.ensures c.enter.ensures.added (λ nothing. c.enter.ensures.serial (λ sound authority is joined. nothing))

pub returns-clause-still : goal.returns-clause-still
returns-clause-still g c = still_asking _ _ _ c.asking_session-session.ensures

pub returns-in_err-reply-clause-alone : goal.returns-in_err-reply-clause-alone
returns-in_err-reply-clause-alone g c = λ alone. c.in_err-reply.ensures.kept c.args.self.now.session alone

pub returns-clause-alone : goal.returns-clause-alone
returns-clause-alone g c = λ alone. c.in_ok-reply.ensures.own c.args.self.now.session c.asking_session-session.ensures alone

pub returns-clause-told : goal.returns-clause-told
returns-clause-told g c = λ got.
    lacks_entered c.sessions_are_told_their_replies.ensures.taken c.args.keeper.now.world c.enter.new.keeper.world c.asking_session-session.result _ c.in_ok-reply.reply
    c.join.new.self.events c.in_ok-reply.ensures.ok
    (got_asking c.sessions_are_told_their_replies.ensures.first c.args.keeper.now.world.history c.args.self.now.session c.asking_session-session.result
    c.join.new.self.events c.asking_session-session.ensures
    (got_same c.args.keeper.now.world.history c.args.self.now.session c.args.self.now.session c.args.self.now.client.value.events c.join.new.self.events refl
    (ap (λ (v : ClientView). all_got v.events) c.in_ok-requests.ensures.ok ∙ ap (λ (v : ClientView). all_got v.events) c.deref_mut.ensures.value) got))
