-- What is answered is a message, by the law of replies.
use Rattle.sv_office.proofs.Messages.{steps_are_messages, quiet_is_message}
use Rattle.sv_office.proofs.stepping.answers_are_messages.Goals as goal

pub returns-clause-stepped : goal.returns-clause-stepped
returns-clause-stepped g c =
    steps_are_messages c.served_replies_are_messages.ensures c.args.keeper.now.world c.requires c.is_lawful.ensures.legal

pub returns-clause-quiet : goal.returns-clause-quiet
returns-clause-quiet g c = quiet_is_message c.args.keeper.now.world
