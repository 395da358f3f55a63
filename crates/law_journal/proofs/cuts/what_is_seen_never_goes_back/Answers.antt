-- What the check leaves to prove of `what_is_seen_never_goes_back`.
use Rattle.law_journal.specs.Cuts.{NeverGoesBack}
use Rattle.law_journal.proofs.EveryEntry.{legal-of}
use Rattle.law_journal.proofs.Observed.{served_never_go_back}
use Rattle.law_journal.proofs.cuts.what_is_seen_never_goes_back.Goals as goal

pub returns : goal.returns
returns c = record {
  legal = legal-of c.legal_journals_are_plain.ensures (λ k. NeverGoesBack) served_never_go_back;
  served = served_never_go_back;
}
