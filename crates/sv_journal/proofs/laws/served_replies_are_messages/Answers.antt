-- What the check leaves to prove of `served_replies_are_messages`.
use Rattle.sv_journal.proofs.Messages.{served_replies_are_messages}
use Rattle.sv_journal.proofs.laws.served_replies_are_messages.Goals as goal

pub returns : goal.returns
returns c = served_replies_are_messages c.missing_influences_ascend.ensures.within c.missing_influences_only_shrink.ensures.size
    (λ objects A commit sent given i. c.base_values_are_those_read_as_committed.ensures.ascending objects A commit sent given i)
    (λ objects A commit sent given i x h. ((c.base_values_are_those_read_as_committed.ensures.exactly objects A commit sent given i x).0 h).0)
    (λ shape a. (c.good_actions_have_no_fault.ensures shape a).0)
