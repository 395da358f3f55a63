-- A run of threads leaves its record, which is full where no player was failed, and its traffic.
use Rattle.std.specs.Prelude.{reverse}
use Rattle.law_traffic.proofs.Recorded.{record_of}
use Rattle.law_traffic.proofs.Whole.{traffic_is_recorded, scripts_are_followed}
use Rattle.law_traffic.proofs.runs.threaded_runs_leave_records.Goals as goal

pub returns-clause-record : goal.returns-clause-record
returns-clause-record c =
    λ scenario journal Ls sessions good run. record_of c.full_replies_stay.ensures c.legal_relays_name_accepted.ensures c.replies_are_messages.ensures scenario journal Ls sessions good run

pub returns-clause-full : goal.returns-clause-full
returns-clause-full c =
    λ scenario journal Ls sessions good run ends.
    c.runs_leave_full_records.ensures scenario (reverse journal) Ls good.good
    (record_of c.full_replies_stay.ensures c.legal_relays_name_accepted.ensures c.replies_are_messages.ensures scenario journal Ls sessions good run)
    (scripts_are_followed c.full_replies_stay.ensures c.legal_relays_name_accepted.ensures c.replies_are_messages.ensures scenario journal Ls sessions good run c.honest_clients_are_never_refused.ensures.scenarios ends)

pub returns-clause-traffic : goal.returns-clause-traffic
returns-clause-traffic c =
    λ scenario journal Ls sessions good run.
    traffic_is_recorded c.full_replies_stay.ensures c.legal_relays_name_accepted.ensures c.replies_are_messages.ensures scenario journal Ls sessions good run
