-- What is proved by hand of `served_journals_are_right`.
use Rattle.sv_check.proofs.BareLegal.{served_right}
use Rattle.sv_check.proofs.laws.served_journals_are_right.Goals as goal

pub returns : goal.returns
returns c scenario h legal sessions ended told = served_right scenario h legal sessions ended told
