-- The replies of a journal are messages, whatever results are kept.
use Rattle.law_asked.proofs.Replied.{served_replies_fit}
use Rattle.law_asked.proofs.laws.served_replies_fit.Goals as goal

pub returns : goal.returns
returns c = served_replies_fit c.served_relays_name_accepted.ensures c.served_actions_are_good.ensures c.counts_have_an_end.ensures.served c.served_replies_are_messages.ensures
