-- What is proved by hand of `sessions_in_order_get_items`.
use Rattle.law_journal.specs.Brought.{AsksForNews}
use Rattle.law_journal.proofs.EveryEntry.{legal-of}
use Rattle.law_journal.proofs.InOrder.{served_in_order}
use Rattle.law_journal.proofs.relays.sessions_in_order_get_items.Goals as goal

pub returns-clause-legal : goal.returns-clause-legal
returns-clause-legal c =
    legal-of c.legal_journals_are_plain.ensures (λ k. AsksForNews)
    (served_in_order c.missing_influences_ascend.ensures.ends c.missing_influences_ascend.ensures.within c.missing_influences_are_the_least_set.ensures.sent
    c.served_relays_name_accepted.ensures)

pub returns-clause-served : goal.returns-clause-served
returns-clause-served c =
    served_in_order c.missing_influences_ascend.ensures.ends c.missing_influences_ascend.ensures.within c.missing_influences_are_the_least_set.ensures.sent
    c.served_relays_name_accepted.ensures
