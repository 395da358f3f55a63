-- Whose session is whose.
use Rattle.law_journal.proofs.Counted.{stewards-join, unbegun-nobodys}
use Rattle.law_journal.proofs.trusted.stewards_sessions_are_joined.Goals as goal

pub returns-clause-join : goal.returns-clause-join
returns-clause-join c = stewards-join

pub returns-clause-fresh : goal.returns-clause-fresh
returns-clause-fresh c = unbegun-nobodys
