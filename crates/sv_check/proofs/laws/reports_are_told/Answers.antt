-- What is proved by hand of `reports_are_told`.
use Rattle.sv_check.proofs.Pairs.{pairs_are_told}
use Rattle.sv_check.proofs.laws.reports_are_told.Goals as goal

pub returns : goal.returns
returns c scenario text h g Ls Ms good numbers short p q =
    pairs_are_told c.laws_of_runs.ensures.stay c.laws_of_runs.ensures.named c.laws_of_runs.ensures.steps c.laws_of_runs.ensures.few c.laws_of_runs.ensures.messages
    scenario good numbers text h g Ls Ms short p q
