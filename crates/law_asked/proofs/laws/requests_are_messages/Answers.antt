-- The requests of honest clients are messages.
use Rattle.law_asked.proofs.Honest.{requests_are_messages}
use Rattle.law_asked.proofs.laws.requests_are_messages.Goals as goal

pub returns : goal.returns
returns c = requests_are_messages c.served_relays_name_accepted.ensures c.served_relays_are_small.ensures c.served_actions_are_good.ensures c.replicas_equal_serial_execution.ensures.values
