-- What is proved by hand of `relays_bring_what_is_asked`.
use Rattle.law_journal.specs.Brought.{BringsWhatIsAsked, HasItemsUnlessSent}
use Rattle.law_journal.proofs.EveryEntry.{legal-of}
use Rattle.law_journal.proofs.Asked.{served_bring}
use Rattle.law_journal.proofs.Items.{served_items}
use Rattle.law_journal.proofs.Answered.{taken_items}
use Rattle.law_journal.proofs.relays.relays_bring_what_is_asked.Goals as goal

pub returns-clause-legal : goal.returns-clause-legal
returns-clause-legal c =
    legal-of c.legal_journals_are_plain.ensures BringsWhatIsAsked
    (served_bring c.missing_influences_ascend.ensures.ends c.missing_influences_ascend.ensures.within c.missing_influences_are_the_least_set.ensures.sent)

pub returns-clause-served : goal.returns-clause-served
returns-clause-served c = served_bring c.missing_influences_ascend.ensures.ends c.missing_influences_ascend.ensures.within c.missing_influences_are_the_least_set.ensures.sent

pub returns-clause-legal_items : goal.returns-clause-legal_items
returns-clause-legal_items c =
    legal-of c.legal_journals_are_plain.ensures (λ k. HasItemsUnlessSent)
    (served_items c.missing_influences_ascend.ensures.ends c.missing_influences_ascend.ensures.within c.missing_influences_are_the_least_set.ensures.sent c.served_relays_name_accepted.ensures)

pub returns-clause-served_items : goal.returns-clause-served_items
returns-clause-served_items c =
    served_items c.missing_influences_ascend.ensures.ends c.missing_influences_ascend.ensures.within c.missing_influences_are_the_least_set.ensures.sent c.served_relays_name_accepted.ensures

pub returns-clause-taken_items : goal.returns-clause-taken_items
returns-clause-taken_items c = taken_items
