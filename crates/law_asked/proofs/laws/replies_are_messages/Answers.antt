-- The replies of a legal journal are messages.
use Rattle.law_asked.proofs.Replied.{replies_are_messages}
use Rattle.law_asked.proofs.laws.replies_are_messages.Goals as goal

pub returns : goal.returns
returns c = replies_are_messages c.served_relays_name_accepted.ensures c.served_actions_are_good.ensures c.counts_have_an_end.ensures.served c.served_replies_are_messages.ensures
