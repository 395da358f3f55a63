-- It begins twice.
use Rattle.sv_office.proofs.Getting.{alone_as, got_anew, got_nothing, silent_of}
use Rattle.sv_office.proofs.Stewarding2.{keeps_later, stewards_later, still_later}
use Rattle.sv_office.proofs.steward.Steward.begin_newest.Goals as goal

pub returns-in_ok-renew-in-Some-clause-session : goal.returns-in_ok-renew-in-Some-clause-session
returns-in_ok-renew-in-Some-clause-session g c =
    keeps_later c.begin.ensures.added c.begin.ensures.session c.begin.ensures.still c.renew.ensures.session c.begin-in-Some.ensures.session

pub returns-in_ok-renew-in-Some-clause-still : goal.returns-in_ok-renew-in-Some-clause-still
returns-in_ok-renew-in-Some-clause-still g c =
    still_later c.args.self.now.session c.begin.new.self.session c.renew.new.self.session c.begin-in-Some.new.self.session c.begin.ensures.still c.renew.ensures.session c.begin-in-Some.ensures.still

pub returns-in_ok-renew-in-Some-clause-added : goal.returns-in_ok-renew-in-Some-clause-added
returns-in_ok-renew-in-Some-clause-added g c =
    stewards_later _ _ _ c.args.self.now.session c.begin.new.self.session c.renew.new.self.session c.begin.ensures.session c.begin.ensures.still c.renew.ensures.session
    c.begin.ensures.added c.begin-in-Some.ensures.added

pub returns-in_ok-renew-in-Some-clause-alone : goal.returns-in_ok-renew-in-Some-clause-alone
returns-in_ok-renew-in-Some-clause-alone g c = λ alone.
    c.begin-in-Some.ensures.alone (alone_as c.begin.new.keeper c.begin.new.self.session c.renew.new.self.session c.renew.ensures.session (c.begin.ensures.alone alone))

pub returns-in_ok-renew-in-Some-clause-told : goal.returns-in_ok-renew-in-Some-clause-told
returns-in_ok-renew-in-Some-clause-told g c = λ none got.
    c.begin-in-Some.ensures.told
    (got_anew c.begin.new.keeper.world.history c.begin.new.self.session c.renew.new.self.session c.args.self.now.client.value.events
    c.begin.new.self.client.value.events c.renew.new.self.client.value.events c.in_ok-reply.reply
    (got_nothing c.args.keeper.now.world.history c.args.self.now.session c.args.self.now.client.value.events none got) c.begin.ensures.got
    (silent_of c.told_life.result _ c.in_ok-reply.reply c.in-Some.is c.told_life.ensures)
    (c.in_ok-reply.ensures.told got) c.renew.ensures.session c.in_ok-renew-in-Some.ensures.got)
