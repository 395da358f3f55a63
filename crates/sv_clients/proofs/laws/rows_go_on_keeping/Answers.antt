-- By the lemmas on rows.
use Rattle.sv_clients.proofs.Rows.{keeps_none, keeps_life, keeps_with_outcome, keeps_few}
use Rattle.sv_clients.proofs.laws.rows_go_on_keeping.Goals as goal

pub returns-clause-none : goal.returns-clause-none
returns-clause-none c = keeps_none

pub returns-clause-lives : goal.returns-clause-lives
returns-clause-lives c = keeps_life

pub returns-clause-added : goal.returns-clause-added
returns-clause-added c = keeps_with_outcome

pub returns-clause-few : goal.returns-clause-few
returns-clause-few c = keeps_few
