-- Open sessions go on, and players come to the ends of their scripts.
use Rattle.law_traffic.proofs.Whole.{not_shut, next_taken, scripts_are_followed, no_faults}
use Rattle.law_traffic.proofs.runs.open_sessions_go_on.Goals as goal

pub returns-clause-shut : goal.returns-clause-shut
returns-clause-shut c =
    λ scenario journal Ls sessions L s x good run here shut.
    not_shut c.full_replies_stay.ensures c.legal_relays_name_accepted.ensures c.replies_are_messages.ensures scenario journal Ls sessions good run L s x here scenario.world.shape shut

pub returns-clause-taken : goal.returns-clause-taken
returns-clause-taken c =
    λ scenario journal Ls sessions L s x rest good run here begins.
    next_taken c.full_replies_stay.ensures c.legal_relays_name_accepted.ensures c.replies_are_messages.ensures scenario journal Ls sessions good run L s x here
    c.honest_clients_are_never_refused.ensures.scenarios rest begins

pub returns-clause-ends : goal.returns-clause-ends
returns-clause-ends c =
    λ scenario journal Ls sessions good run ends.
    scripts_are_followed c.full_replies_stay.ensures c.legal_relays_name_accepted.ensures c.replies_are_messages.ensures scenario journal Ls sessions good run c.honest_clients_are_never_refused.ensures.scenarios ends

pub returns-clause-faults : goal.returns-clause-faults
returns-clause-faults c = no_faults
