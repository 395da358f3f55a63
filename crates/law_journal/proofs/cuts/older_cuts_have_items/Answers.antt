-- What the check leaves to prove of `older_cuts_have_items`.
use Rattle.law_journal.proofs.Observed.{served_older_cuts, legal_older_cuts}
use Rattle.law_journal.proofs.cuts.older_cuts_have_items.Goals as goal

pub returns : goal.returns
returns c =
    let served = served_older_cuts c.missing_influences_only_shrink.ensures.size in
    record { legal = legal_older_cuts c.legal_journals_are_plain.ensures served; served = served }
