-- What is proved by hand of `journals_keep_what_they_have`.
use Rattle.law_journal.proofs.Staying.{journals_keep}
use Rattle.law_journal.proofs.commits.journals_keep_what_they_have.Goals as goal

pub returns : goal.returns
returns c = journals_keep
