-- What is proved by hand of `Served::answer`.
use Rattle.sv_check.proofs.Serving.{answered, one_more}
use Rattle.sv_check.proofs.journal.Served.answer.Goals as goal

pub returns-clause-served : goal.returns-clause-served
returns-clause-served c =
    answered c.args.scenario.now c.args.self.now (record { sequencer = c.step.new.self; replies = c.push.new.self }) c.args.asked.session c.args.asked.request c.in_ok-reply.reply
    c.full_replies_stay.ensures c.legal_relays_name_accepted.ensures c.requires.served c.is_legal.ensures c.requires.session c.requires.told c.requires.first c.in_ok-reply.ensures.ok c.in_ok-push.ensures.items

pub returns-clause-more : goal.returns-clause-more
returns-clause-more c =
    one_more c.args.scenario.now c.args.self.now c.step.new.self c.args.asked.session c.args.asked.request c.in_ok-reply.reply c.requires.served c.in_ok-reply.ensures.ok
