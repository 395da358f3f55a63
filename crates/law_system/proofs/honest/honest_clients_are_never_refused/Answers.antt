-- Honest clients are never refused.
use Rattle.law_system.proofs.NextReply.{no-fault, scenario-no_fault}
use Rattle.law_system.proofs.NonEmpty.{never-empty}
use Rattle.law_system.proofs.Within.{scenario-keeps}
use Rattle.law_system.proofs.honest.honest_clients_are_never_refused.Goals as goal

pub returns-clause-faults : goal.returns-clause-faults
returns-clause-faults c = no-fault

pub returns-clause-items : goal.returns-clause-items
returns-clause-items c = never-empty

pub returns-clause-scenarios : goal.returns-clause-scenarios
returns-clause-scenarios c = scenario-no_fault

pub returns-clause-limits : goal.returns-clause-limits
returns-clause-limits c = scenario-keeps
