-- What is proved by hand of `relays_of_zero_answer_polls`.
use Rattle.law_journal.specs.Numbered.{IsZeroForPolls, OfEntry}
use Rattle.law_journal.proofs.EveryEntry.{legal-of}
use Rattle.law_journal.proofs.Zeros.{served_tell_numbers, served_zero}
use Rattle.law_journal.proofs.Answered.{taken_zero}
use Rattle.law_journal.proofs.relays.relays_of_zero_answer_polls.Goals as goal

pub returns-clause-legal : goal.returns-clause-legal
returns-clause-legal c = legal-of c.legal_journals_are_plain.ensures (λ k. OfEntry IsZeroForPolls) served_zero

pub returns-clause-served : goal.returns-clause-served
returns-clause-served c = served_zero

pub returns-clause-numbers : goal.returns-clause-numbers
returns-clause-numbers c = served_tell_numbers

pub returns-clause-taken : goal.returns-clause-taken
returns-clause-taken c = taken_zero
