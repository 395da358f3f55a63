-- What is proved by hand of `commit_is_the_greatest`.
use Rattle.law_journal.proofs.Greatest.{commit_is_the_greatest, next_has_no_result}
use Rattle.law_journal.proofs.commits.commit_is_the_greatest.Goals as goal

pub returns-clause-greatest : goal.returns-clause-greatest
returns-clause-greatest c = commit_is_the_greatest

pub returns-clause-next : goal.returns-clause-next
returns-clause-next c = next_has_no_result
