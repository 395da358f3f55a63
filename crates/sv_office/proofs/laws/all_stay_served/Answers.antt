-- The law of `all_stay_served`.
use Rattle.sv_office.proofs.Served.{all_stay}
use Rattle.sv_office.proofs.laws.all_stay_served.Goals as goal

pub returns : goal.returns
returns c = all_stay
