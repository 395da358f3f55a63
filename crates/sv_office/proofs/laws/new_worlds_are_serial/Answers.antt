-- The law of `new_worlds_are_serial`.
use Rattle.std.proofs.Common.{refl}
use Rattle.sv_office.proofs.laws.new_worlds_are_serial.Goals as goal

pub returns : goal.returns
returns c = λ r w. record { results = c.serial_results_stay.ensures.begin w r; world = refl }
