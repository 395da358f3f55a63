-- Whose traces the laws speak of.
use Rattle.law_system.proofs.Clients.{client-trace}
use Rattle.law_system.proofs.Numbers.{numbered-trace}
use Rattle.law_system.proofs.honest.traces_are_honest_clients.Goals as goal

pub returns-clause-proper : goal.returns-clause-proper
returns-clause-proper c = client-trace

pub returns-clause-numbered : goal.returns-clause-numbered
returns-clause-numbered c = numbered-trace
