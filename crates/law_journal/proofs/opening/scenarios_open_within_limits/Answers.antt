-- What is proved by hand of `scenarios_open_within_limits`.
use Rattle.law_system.proofs.Limits.{limits_of}
use Rattle.law_journal.proofs.opening.scenarios_open_within_limits.Goals as goal

pub returns-clause-good : goal.returns-clause-good
returns-clause-good c = limits_of

pub returns-clause-files : goal.returns-clause-files
returns-clause-files c = λ bytes scenario is. limits_of scenario (c.scenarios_keep_the_limits.ensures bytes scenario is)
