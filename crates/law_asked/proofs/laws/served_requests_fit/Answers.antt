-- The requests of a client that holds serial values are messages, whatever results are kept.
use Rattle.law_asked.proofs.Honest.{served_requests_fit}
use Rattle.law_asked.proofs.laws.served_requests_fit.Goals as goal

pub returns : goal.returns
returns c = served_requests_fit c.served_relays_name_accepted.ensures c.served_relays_are_small.ensures c.served_actions_are_good.ensures
