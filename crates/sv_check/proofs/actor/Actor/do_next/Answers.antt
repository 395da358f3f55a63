-- What is proved by hand of `Actor::do_next`.
use Rattle.sv_check.specs.Serving.{entries_of}
use Rattle.sv_check.proofs.Acting.{went_did}
use Rattle.sv_check.proofs.actor.Actor.do_next.Goals as goal

pub returns-clause-on : goal.returns-clause-on
returns-clause-on c =
    went_did (entries_of c.args.served.now) c.args.self.now c.act.new.self c.args.event.now c.requires.acting c.requires.joined c.requires.here c.requires.next.other c.args.left c.requires.next c.in_ok-act.ensures
