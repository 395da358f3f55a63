-- The law of `others_stay_served`.
use Rattle.sv_office.proofs.Served.{others_stay}
use Rattle.sv_office.proofs.laws.others_stay_served.Goals as goal

pub returns : goal.returns
returns c = others_stay
